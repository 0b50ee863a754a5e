-- What is told of statements and expressions is the same of those that are alike.
use Rattle.std.proofs.Common.{◌≡◌, ℕ, List, ◌∷◌, map, refl, sym, ◌∙◌, ap}
use Rattle.sw_tree.specs.declared.expr.Expr.{Expr}
use Rattle.sw_tree.specs.declared.expr.ExprKind.{ExprKind, out-ExprKind}
use Rattle.sw_tree.specs.declared.expr.ExprKind.TheVariants as exprs
use Rattle.sw_tree.specs.declared.statement.Statement.{Statement, out-Statement}
use Rattle.sw_tree.specs.declared.statement.Statement.TheVariants as statements
use Rattle.sw_tree.specs.declared.text.Parts.{Parts, out-Parts}
use Rattle.sw_tree.specs.declared.text.Parts.TheVariants as texts
use Rattle.sw_convert_alike.specs.Expressions as values
use Rattle.sw_convert_alike.specs.Expressions.{Like, LikeKind, LikeParts, like}
use Rattle.sw_convert_alike.specs.Statements.{LikeStatement, LikeBlock, variable, assignment, declaration, properties, custom, rule, use_, forward, callable, include, content, return, say, if_, each, for_, while_, media, supports, at_root, charset, import, extend, at_rule, comment, no_statements, statement}
use Rattle.sw_convert_alike.specs.Told.{OpenStatement, OpenKind, word_by, word_of, number_by, number_of, variable_by, variable_of, plain_by, string_by, string_of}

-- by what two statements are
same_word : (a b : Statement) {x y : OpenStatement} → out-Statement a ≡ x → out-Statement b ≡ y → word_by x ≡ word_by y → word_of a ≡ word_of b
unfolding word_of
same_word a b a_is b_is same = ap word_by a_is ∙ same ∙ sym (ap word_by b_is)

word_same : {a b : Statement} → LikeStatement a b → word_of a ≡ word_of b
word_same (variable {a} {b} name l flags) = same_word _ _ (statements.outs-Variable a) (statements.outs-Variable b) refl
word_same (assignment {a} {b} target l flags) = same_word _ _ (statements.outs-Assignment a) (statements.outs-Assignment b) refl
word_same (declaration {a} {b} property l) = same_word _ _ (statements.outs-Declaration a) (statements.outs-Declaration b) refl
word_same (properties a b property l ls) = same_word _ _ (statements.outs-Properties a) (statements.outs-Properties b) refl
word_same (custom {a} {b} property l) = same_word _ _ (statements.outs-Custom a) (statements.outs-Custom b) refl
word_same (rule a b selector ls) = same_word _ _ (statements.outs-Rule a) (statements.outs-Rule b) refl
word_same (use_ {a} {b} l) = same_word _ _ (statements.outs-Use a) (statements.outs-Use b) refl
word_same (forward {a} {b} l) = same_word _ _ (statements.outs-Forward a) (statements.outs-Forward b) refl
word_same (callable a b kind name params ls) = same_word _ _ (statements.outs-Callable a) (statements.outs-Callable b) refl
word_same (include {a} {b} {content = x} {other = y} {span} {span'} l m) = same_word _ _ (statements.outs-Include a x span) (statements.outs-Include b y span') refl
word_same (content {a} {b} l) = same_word _ _ (statements.outs-Content a) (statements.outs-Content b) refl
word_same (return {a} {b} l) = same_word _ _ (statements.outs-Return a) (statements.outs-Return b) refl
word_same (say {a} {b} level l) = same_word _ _ (statements.outs-Say a) (statements.outs-Say b) refl
word_same (if_ {xs} {ys} {block = x} {other = y} {span} {span'} ls l) = same_word _ _ (statements.outs-If xs x span) (statements.outs-If ys y span') refl
word_same (each a b names l ls) = same_word _ _ (statements.outs-Each a) (statements.outs-Each b) refl
word_same (for_ a b name bounds ls) = same_word _ _ (statements.outs-For a) (statements.outs-For b) refl
word_same (while_ a b l ls) = same_word _ _ (statements.outs-While a) (statements.outs-While b) refl
word_same (media a b queries ls) = same_word _ _ (statements.outs-Media a) (statements.outs-Media b) refl
word_same (supports a b condition ls) = same_word _ _ (statements.outs-Supports a) (statements.outs-Supports b) refl
word_same (at_root a b selector ls) = same_word _ _ (statements.outs-AtRoot a) (statements.outs-AtRoot b) refl
word_same (charset {span} {span'}) = same_word _ _ (statements.outs-Charset span) (statements.outs-Charset span') refl
word_same (import {a} {b} l) = same_word _ _ (statements.outs-Import a) (statements.outs-Import b) refl
word_same (extend {a} {b} l) = same_word _ _ (statements.outs-Extend a) (statements.outs-Extend b) refl
word_same (at_rule a b name prelude l) = same_word _ _ (statements.outs-AtRule a) (statements.outs-AtRule b) refl
word_same (comment {a} {b} l) = same_word _ _ (statements.outs-Comment a) (statements.outs-Comment b) refl

pub words_same : {xs ys : List Statement} → LikeBlock xs ys → map word_of xs ≡ map word_of ys
words_same no_statements = refl
words_same (statement {a} {b} {xs} {ys} l ls) =
    ap (λ (word : List ℕ). word ∷ map word_of xs) (word_same l) ∙ ap (λ (words : List (List ℕ)). word_of b ∷ words) (words_same ls)

-- by what two kinds are
same_told : {T : Type 0} (told : OpenKind → T) (a b : ExprKind) {x y : OpenKind} → out-ExprKind a ≡ x → out-ExprKind b ≡ y → told x ≡ told y
    → told (out-ExprKind a) ≡ told (out-ExprKind b)
same_told told a b a_is b_is same = ap told a_is ∙ same ∙ sym (ap told b_is)

plain_same : {a b : Parts} → LikeParts a b → plain_by (out-Parts a) ≡ plain_by (out-Parts b)
plain_same values.plain = refl
plain_same (values.mixed {xs} {ys} ls) = ap plain_by (texts.outs-Mixed xs) ∙ sym (ap plain_by (texts.outs-Mixed ys))

number_same : {a b : ExprKind} → LikeKind a b → number_by (out-ExprKind a) ≡ number_by (out-ExprKind b)
number_same values.number = refl
number_same (values.quoted {a} {b} l) = same_told number_by _ _ (exprs.outs-Quoted a) (exprs.outs-Quoted b) refl
number_same (values.word {a} {b} l) = same_told number_by _ _ (exprs.outs-Word a) (exprs.outs-Word b) refl
number_same values.hash = refl
number_same values.constant = refl
number_same (values.url {a} {b} l) = same_told number_by _ _ (exprs.outs-Url a) (exprs.outs-Url b) refl
number_same (values.special {a} {b} l) = same_told number_by _ _ (exprs.outs-Special a) (exprs.outs-Special b) refl
number_same values.variable = refl
number_same (values.qualified {a} {b} space name) = same_told number_by _ _ (exprs.outs-Qualified a) (exprs.outs-Qualified b) refl
number_same (values.call a b {xs} {ys} space name l) = same_told number_by _ _ (exprs.outs-Call a xs) (exprs.outs-Call b ys) refl
number_same values.parent = refl
number_same values.important = refl
number_same (values.prefixed {signs} {a} {b} l) = same_told number_by _ _ (exprs.outs-Prefixed signs a) (exprs.outs-Prefixed signs b) refl
number_same (values.chain {a} {b} {xs} {ys} l ls) = same_told number_by _ _ (exprs.outs-Chain a xs) (exprs.outs-Chain b ys) refl
number_same (values.list {xs} {ys} {separator} {around} ls) = same_told number_by _ _ (exprs.outs-List xs separator around) (exprs.outs-List ys separator around) refl
number_same (values.paren {a} {b} l) = same_told number_by _ _ (exprs.outs-Paren a) (exprs.outs-Paren b) refl
number_same (values.map {xs} {ys} ls) = same_told number_by _ _ (exprs.outs-Map xs) (exprs.outs-Map ys) refl

variable_same : {a b : ExprKind} → LikeKind a b → variable_by (out-ExprKind a) ≡ variable_by (out-ExprKind b)
variable_same values.number = refl
variable_same (values.quoted {a} {b} l) = same_told variable_by _ _ (exprs.outs-Quoted a) (exprs.outs-Quoted b) refl
variable_same (values.word {a} {b} l) = same_told variable_by _ _ (exprs.outs-Word a) (exprs.outs-Word b) refl
variable_same values.hash = refl
variable_same values.constant = refl
variable_same (values.url {a} {b} l) = same_told variable_by _ _ (exprs.outs-Url a) (exprs.outs-Url b) refl
variable_same (values.special {a} {b} l) = same_told variable_by _ _ (exprs.outs-Special a) (exprs.outs-Special b) refl
variable_same values.variable = refl
variable_same (values.qualified {a} {b} space name) = same_told variable_by _ _ (exprs.outs-Qualified a) (exprs.outs-Qualified b) refl
variable_same (values.call a b {xs} {ys} space name l) = same_told variable_by _ _ (exprs.outs-Call a xs) (exprs.outs-Call b ys) refl
variable_same values.parent = refl
variable_same values.important = refl
variable_same (values.prefixed {signs} {a} {b} l) = same_told variable_by _ _ (exprs.outs-Prefixed signs a) (exprs.outs-Prefixed signs b) refl
variable_same (values.chain {a} {b} {xs} {ys} l ls) = same_told variable_by _ _ (exprs.outs-Chain a xs) (exprs.outs-Chain b ys) refl
variable_same (values.list {xs} {ys} {separator} {around} ls) = same_told variable_by _ _ (exprs.outs-List xs separator around) (exprs.outs-List ys separator around) refl
variable_same (values.paren {a} {b} l) = same_told variable_by _ _ (exprs.outs-Paren a) (exprs.outs-Paren b) refl
variable_same (values.map {xs} {ys} ls) = same_told variable_by _ _ (exprs.outs-Map xs) (exprs.outs-Map ys) refl

string_same : {a b : ExprKind} → LikeKind a b → string_by (out-ExprKind a) ≡ string_by (out-ExprKind b)
string_same values.number = refl
string_same (values.quoted {a} {b} l) = same_told string_by _ _ (exprs.outs-Quoted a) (exprs.outs-Quoted b) (plain_same l)
string_same (values.word {a} {b} l) = same_told string_by _ _ (exprs.outs-Word a) (exprs.outs-Word b) refl
string_same values.hash = refl
string_same values.constant = refl
string_same (values.url {a} {b} l) = same_told string_by _ _ (exprs.outs-Url a) (exprs.outs-Url b) refl
string_same (values.special {a} {b} l) = same_told string_by _ _ (exprs.outs-Special a) (exprs.outs-Special b) refl
string_same values.variable = refl
string_same (values.qualified {a} {b} space name) = same_told string_by _ _ (exprs.outs-Qualified a) (exprs.outs-Qualified b) refl
string_same (values.call a b {xs} {ys} space name l) = same_told string_by _ _ (exprs.outs-Call a xs) (exprs.outs-Call b ys) refl
string_same values.parent = refl
string_same values.important = refl
string_same (values.prefixed {signs} {a} {b} l) = same_told string_by _ _ (exprs.outs-Prefixed signs a) (exprs.outs-Prefixed signs b) refl
string_same (values.chain {a} {b} {xs} {ys} l ls) = same_told string_by _ _ (exprs.outs-Chain a xs) (exprs.outs-Chain b ys) refl
string_same (values.list {xs} {ys} {separator} {around} ls) = same_told string_by _ _ (exprs.outs-List xs separator around) (exprs.outs-List ys separator around) refl
string_same (values.paren {a} {b} l) = same_told string_by _ _ (exprs.outs-Paren a) (exprs.outs-Paren b) refl
string_same (values.map {xs} {ys} ls) = same_told string_by _ _ (exprs.outs-Map xs) (exprs.outs-Map ys) refl

pub numbers_same : {a b : Expr} → Like a b → number_of a ≡ number_of b
unfolding number_of
numbers_same (like l) = number_same l

pub variables_same : {a b : Expr} → Like a b → variable_of a ≡ variable_of b
unfolding variable_of
variables_same (like l) = variable_same l

pub strings_same : {a b : Expr} → Like a b → string_of a ≡ string_of b
unfolding string_of
strings_same (like l) = string_same l
