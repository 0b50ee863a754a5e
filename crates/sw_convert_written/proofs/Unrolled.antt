-- What the definition of a text says of each kind of expression.
use Rattle.std.proofs.Common.{◌≡◌, ℕ, true, List, [], ◌∷◌, ◌++◌, map, refl, sym, ◌∙◌, ap}
use Rattle.std.specs.Prelude.{codes}
use Rattle.sw_tree.specs.declared.expr.Argument.{Argument, fold-Argument, fold_out-Argument}
use Rattle.sw_tree.specs.declared.expr.Around.{Around}
use Rattle.sw_tree.specs.declared.expr.Callee.{Callee, fold-Callee, fold_out-Callee}
use Rattle.sw_tree.specs.declared.expr.Constant.{Constant}
use Rattle.sw_tree.specs.declared.expr.Expr.{Expr, fold-Expr, fold_out-Expr}
use Rattle.sw_tree.specs.declared.expr.ExprKind.{ExprKind, roll-ExprKind, map-ExprKind, fold-roll-ExprKind}
use Rattle.sw_tree.specs.declared.expr.ExprKind.TheOpen.{ExprKind-F, Parts-F, Piece-F}
use Rattle.sw_tree.specs.declared.expr.ExprKind.TheVariants as exprs
use Rattle.sw_tree.specs.declared.expr.Link.{Link, fold-Link, fold_out-Link}
use Rattle.sw_tree.specs.declared.expr.Number.{Number}
use Rattle.sw_tree.specs.declared.expr.Pair.{Pair, fold-Pair, fold_out-Pair}
use Rattle.sw_tree.specs.declared.expr.Qualified.{Qualified}
use Rattle.sw_tree.specs.declared.expr.Separator.{Separator}
use Rattle.sw_tree.specs.declared.expr.Sign.{Sign}
use Rattle.sw_tree.specs.declared.text.Parts.{Parts, roll-Parts, map-Parts, fold-roll-Parts}
use Rattle.sw_tree.specs.declared.text.Parts.TheVariants as texts
use Rattle.sw_tree.specs.declared.text.Piece.{Piece, roll-Piece, map-Piece, fold-roll-Piece}
use Rattle.sw_tree.specs.declared.text.Piece.TheVariants as pieces
use Rattle.sw_tree.specs.declared.text.Text.{Text, fold-Text, fold_out-Text}
use Rattle.sw_convert_written.specs.declared.manner.Manner.TheVariants as manners
use Rattle.sw_convert_written.specs.declared.sort.Sort.TheVariants as sorts
use Rattle.sw_convert_written.specs.Names.{dollar_name, number_text}
use Rattle.sw_convert_written.specs.Pieces.{Written, Said, Inserted, Value, pieces_text}
use Rattle.sw_convert_written.specs.Signs.{constant_text}
use Rattle.sw_convert_written.specs.Expressions.{Shown, ShownArgument, ShownCallee, ShownLink, with_commas, qualified_text, signs_text, arguments_text, argument_text, chain_text, list_text, call_text, quoted_text, argument_shown, callee_shown, pair_shown, kind_step, parts_step, piece_step, argument_step, callee_step, expr_step, link_step, pair_step, text_step, kind_shown, parts_written, piece_written, expr_shown, expr_text, link_shown, of_argument, of_callee, pair_text}

-- ---- the folds of what has a place of its own

abbrev of_expr : Expr → Shown
of_expr = fold-Expr Shown (List Written) Written ShownArgument ShownCallee Shown ShownLink (List ℕ) (List Written) kind_step parts_step piece_step argument_step callee_step expr_step link_step pair_step text_step

abbrev by_argument : Argument → ShownArgument
by_argument = fold-Argument Shown (List Written) Written ShownArgument ShownCallee Shown ShownLink (List ℕ) (List Written) kind_step parts_step piece_step argument_step callee_step expr_step link_step pair_step text_step

abbrev by_callee : Callee → ShownCallee
by_callee = fold-Callee Shown (List Written) Written ShownArgument ShownCallee Shown ShownLink (List ℕ) (List Written) kind_step parts_step piece_step argument_step callee_step expr_step link_step pair_step text_step

abbrev by_link : Link → ShownLink
by_link = fold-Link Shown (List Written) Written ShownArgument ShownCallee Shown ShownLink (List ℕ) (List Written) kind_step parts_step piece_step argument_step callee_step expr_step link_step pair_step text_step

abbrev by_pair : Pair → List ℕ
by_pair = fold-Pair Shown (List Written) Written ShownArgument ShownCallee Shown ShownLink (List ℕ) (List Written) kind_step parts_step piece_step argument_step callee_step expr_step link_step pair_step text_step

abbrev by_text : Text → List Written
by_text = fold-Text Shown (List Written) Written ShownArgument ShownCallee Shown ShownLink (List ℕ) (List Written) kind_step parts_step piece_step argument_step callee_step expr_step link_step pair_step text_step

expr_is : (x : Expr) → of_expr x ≡ expr_shown x
unfolding kind_shown
expr_is x = fold_out-Expr Shown (List Written) Written ShownArgument ShownCallee Shown ShownLink (List ℕ) (List Written) kind_step parts_step piece_step argument_step callee_step expr_step link_step pair_step text_step x

text_is : (x : Text) → by_text x ≡ parts_written x.parts
unfolding parts_written
text_is x = fold_out-Text Shown (List Written) Written ShownArgument ShownCallee Shown ShownLink (List ℕ) (List Written) kind_step parts_step piece_step argument_step callee_step expr_step link_step pair_step text_step x

argument_is : (x : Argument) → by_argument x ≡ of_argument x
argument_is x =
    fold_out-Argument Shown (List Written) Written ShownArgument ShownCallee Shown ShownLink (List ℕ) (List Written) kind_step parts_step piece_step argument_step callee_step expr_step link_step pair_step text_step x
    ∙ ap (λ (value : Shown). argument_shown x.name value x.spread) (expr_is x.value)

callee_is : (x : Callee) → by_callee x ≡ of_callee x
callee_is x =
    fold_out-Callee Shown (List Written) Written ShownArgument ShownCallee Shown ShownLink (List ℕ) (List Written) kind_step parts_step piece_step argument_step callee_step expr_step link_step pair_step text_step x
    ∙ ap (λ (name : List Written). callee_shown x.namespace name) (text_is x.name)

link_is : (x : Link) → by_link x ≡ link_shown x
link_is x =
    fold_out-Link Shown (List Written) Written ShownArgument ShownCallee Shown ShownLink (List ℕ) (List Written) kind_step parts_step piece_step argument_step callee_step expr_step link_step pair_step text_step x
    ∙ ap (λ (operand : Shown). record { operator = x.operator; operand = operand }) (expr_is x.operand)

pair_is : (x : Pair) → by_pair x ≡ pair_text x
pair_is x =
    fold_out-Pair Shown (List Written) Written ShownArgument ShownCallee Shown ShownLink (List ℕ) (List Written) kind_step parts_step piece_step argument_step callee_step expr_step link_step pair_step text_step x
    ∙ ap (λ (key : Shown). pair_shown key (of_expr x.value)) (expr_is x.key)
    ∙ ap (λ (value : Shown). pair_shown (expr_shown x.key) value) (expr_is x.value)

-- what is the same of each is the same of all
pub maps_are : {A B : Type 0} (f g : A → B) → ((x : A) → f x ≡ g x) → (xs : List A) → map f xs ≡ map g xs
maps_are f g same [] = refl
maps_are {A} {B} f g same (x ∷ xs) =
    ap (λ (y : B). y ∷ map f xs) (same x) ∙ ap (λ (ys : List B). g x ∷ ys) (maps_are f g same xs)

-- ---- kinds of expressions

abbrev mapped : ExprKind-F ExprKind Parts Piece Argument Callee Expr Link Pair Text
    → ExprKind-F Shown (List Written) Written ShownArgument ShownCallee Shown ShownLink (List ℕ) (List Written)
mapped = map-ExprKind ExprKind Parts Piece Argument Callee Expr Link Pair Text Shown (List Written) Written ShownArgument ShownCallee Shown ShownLink (List ℕ) (List Written) kind_shown parts_written piece_written by_argument by_callee of_expr by_link by_pair by_text

rolled : (d : ExprKind-F ExprKind Parts Piece Argument Callee Expr Link Pair Text) → kind_shown (roll-ExprKind d) ≡ kind_step (mapped d)
unfolding kind_shown parts_written piece_written
rolled d = fold-roll-ExprKind Shown (List Written) Written ShownArgument ShownCallee Shown ShownLink (List ℕ) (List Written) kind_step parts_step piece_step argument_step callee_step expr_step link_step pair_step text_step d

pub number_is : (x : Number) → (kind_shown (exprs.Number x)).text ≡ number_text x
number_is x = ap (λ k. (kind_shown k).text) (sym (exprs.rolls-Number x)) ∙ ap (λ (s : Shown). s.text) (rolled (ExprKind-F.Number x))

pub quoted_is : (x : Parts) → (kind_shown (exprs.Quoted x)).text ≡ quoted_text (parts_written x)
quoted_is x = ap (λ k. (kind_shown k).text) (sym (exprs.rolls-Quoted x)) ∙ ap (λ (s : Shown). s.text) (rolled (ExprKind-F.Quoted x))

pub word_is : (x : Parts) → (kind_shown (exprs.Word x)).text ≡ pieces_text manners.Joined (parts_written x)
word_is x = ap (λ k. (kind_shown k).text) (sym (exprs.rolls-Word x)) ∙ ap (λ (s : Shown). s.text) (rolled (ExprKind-F.Word x))

pub hash_is : (x : List ℕ) → (kind_shown (exprs.Hash x)).text ≡ x
hash_is x = ap (λ k. (kind_shown k).text) (sym (exprs.rolls-Hash x)) ∙ ap (λ (s : Shown). s.text) (rolled (ExprKind-F.Hash x))

pub constant_is : (x : Constant) → (kind_shown (exprs.Constant x)).text ≡ constant_text x
constant_is x = ap (λ k. (kind_shown k).text) (sym (exprs.rolls-Constant x)) ∙ ap (λ (s : Shown). s.text) (rolled (ExprKind-F.Constant x))

pub url_is : (x : Parts) → (kind_shown (exprs.Url x)).text ≡ pieces_text manners.Joined (parts_written x)
url_is x = ap (λ k. (kind_shown k).text) (sym (exprs.rolls-Url x)) ∙ ap (λ (s : Shown). s.text) (rolled (ExprKind-F.Url x))

pub special_is : (x : Parts) → (kind_shown (exprs.Special x)).text ≡ pieces_text manners.Seamed (parts_written x)
special_is x = ap (λ k. (kind_shown k).text) (sym (exprs.rolls-Special x)) ∙ ap (λ (s : Shown). s.text) (rolled (ExprKind-F.Special x))

pub variable_is : (x : List ℕ) → (kind_shown (exprs.Variable x)).text ≡ dollar_name x
variable_is x = ap (λ k. (kind_shown k).text) (sym (exprs.rolls-Variable x)) ∙ ap (λ (s : Shown). s.text) (rolled (ExprKind-F.Variable x))

pub qualified_is : (x : Qualified) → (kind_shown (exprs.Qualified x)).text ≡ qualified_text x
qualified_is x = ap (λ k. (kind_shown k).text) (sym (exprs.rolls-Qualified x)) ∙ ap (λ (s : Shown). s.text) (rolled (ExprKind-F.Qualified x))

pub call_is : (x : Callee) (xs : List Argument) → (kind_shown (exprs.Call x xs)).text ≡ call_text (of_callee x) (map of_argument xs)
call_is x xs =
    ap (λ k. (kind_shown k).text) (sym (exprs.rolls-Call x xs)) ∙ ap (λ (s : Shown). s.text) (rolled (ExprKind-F.Call x xs))
    ∙ ap (λ (callee : ShownCallee). call_text callee (map by_argument xs)) (callee_is x)
    ∙ ap (λ (arguments : List ShownArgument). call_text (of_callee x) arguments) (maps_are by_argument of_argument argument_is xs)

pub arguments_are : (xs : List Argument) → arguments_text (map of_argument xs) ≡ with_commas true (map argument_text xs)
arguments_are xs = ap (with_commas true) (texts_of xs)
  where
    texts_of : (ys : List Argument) → map (λ (a : ShownArgument). a.text) (map of_argument ys) ≡ map argument_text ys
    texts_of [] = refl
    texts_of (y ∷ ys) = ap (λ (texts : List (List ℕ)). argument_text y ∷ texts) (texts_of ys)

pub parent_is : (kind_shown exprs.Parent).text ≡ codes "&"
parent_is = ap (λ k. (kind_shown k).text) (sym exprs.rolls-Parent) ∙ ap (λ (s : Shown). s.text) (rolled ExprKind-F.Parent)

pub important_is : (kind_shown exprs.Important).text ≡ codes "!important"
important_is = ap (λ k. (kind_shown k).text) (sym exprs.rolls-Important) ∙ ap (λ (s : Shown). s.text) (rolled ExprKind-F.Important)

pub prefixed_is : (signs : List Sign) (x : Expr) → (kind_shown (exprs.Prefixed signs x)).text ≡ signs_text signs ++ expr_text x
prefixed_is signs x =
    ap (λ k. (kind_shown k).text) (sym (exprs.rolls-Prefixed signs x)) ∙ ap (λ (s : Shown). s.text) (rolled (ExprKind-F.Prefixed signs x))
    ∙ ap (λ (s : Shown). signs_text signs ++ s.text) (expr_is x)

pub chain_is : (x : Expr) (xs : List Link) → (kind_shown (exprs.Chain x xs)).text ≡ chain_text (expr_shown x) (map link_shown xs)
chain_is x xs =
    ap (λ k. (kind_shown k).text) (sym (exprs.rolls-Chain x xs)) ∙ ap (λ (s : Shown). s.text) (rolled (ExprKind-F.Chain x xs))
    ∙ ap (λ (first : Shown). chain_text first (map by_link xs)) (expr_is x)
    ∙ ap (λ (links : List ShownLink). chain_text (expr_shown x) links) (maps_are by_link link_shown link_is xs)

texts_are : (xs : List Expr) → map (λ (s : Shown). s.text) (map of_expr xs) ≡ map expr_text xs
texts_are [] = refl
texts_are (x ∷ xs) =
    ap (λ (s : Shown). s.text ∷ map (λ (s : Shown). s.text) (map of_expr xs)) (expr_is x)
    ∙ ap (λ (ys : List (List ℕ)). expr_text x ∷ ys) (texts_are xs)

pub list_is : (xs : List Expr) (separator : Separator) (around : Around)
    → (kind_shown (exprs.List xs separator around)).text ≡ list_text (map expr_text xs) separator around
list_is xs separator around =
    ap (λ k. (kind_shown k).text) (sym (exprs.rolls-List xs separator around)) ∙ ap (λ (s : Shown). s.text) (rolled (ExprKind-F.List xs separator around))
    ∙ ap (λ (items : List (List ℕ)). list_text items separator around) (texts_are xs)

pub paren_is : (x : Expr) → (kind_shown (exprs.Paren x)).text ≡ codes "(" ++ (expr_text x ++ codes ")")
paren_is x =
    ap (λ k. (kind_shown k).text) (sym (exprs.rolls-Paren x)) ∙ ap (λ (s : Shown). s.text) (rolled (ExprKind-F.Paren x))
    ∙ ap (λ (s : Shown). codes "(" ++ (s.text ++ codes ")")) (expr_is x)

pub map_is : (xs : List Pair) → (kind_shown (exprs.Map xs)).text ≡ codes "(" ++ (with_commas true (map pair_text xs) ++ codes ")")
map_is xs =
    ap (λ k. (kind_shown k).text) (sym (exprs.rolls-Map xs)) ∙ ap (λ (s : Shown). s.text) (rolled (ExprKind-F.Map xs))
    ∙ ap (λ (pairs : List (List ℕ)). codes "(" ++ (with_commas true pairs ++ codes ")")) (maps_are by_pair pair_text pair_is xs)

-- ---- texts and their pieces

abbrev mapped_parts : Parts-F ExprKind Parts Piece Argument Callee Expr Link Pair Text
    → Parts-F Shown (List Written) Written ShownArgument ShownCallee Shown ShownLink (List ℕ) (List Written)
mapped_parts = map-Parts ExprKind Parts Piece Argument Callee Expr Link Pair Text Shown (List Written) Written ShownArgument ShownCallee Shown ShownLink (List ℕ) (List Written) kind_shown parts_written piece_written by_argument by_callee of_expr by_link by_pair by_text

rolled_parts : (d : Parts-F ExprKind Parts Piece Argument Callee Expr Link Pair Text) → parts_written (roll-Parts d) ≡ parts_step (mapped_parts d)
unfolding kind_shown parts_written piece_written
rolled_parts d = fold-roll-Parts Shown (List Written) Written ShownArgument ShownCallee Shown ShownLink (List ℕ) (List Written) kind_step parts_step piece_step argument_step callee_step expr_step link_step pair_step text_step d

pub plain_is : (text : List ℕ) → parts_written (texts.Plain text) ≡ Said text ∷ []
plain_is text = ap parts_written (sym (texts.rolls-Plain text)) ∙ rolled_parts (Parts-F.Plain text)

pub mixed_is : (xs : List Piece) → parts_written (texts.Mixed xs) ≡ map piece_written xs
mixed_is xs = ap parts_written (sym (texts.rolls-Mixed xs)) ∙ rolled_parts (Parts-F.Mixed xs)

abbrev mapped_piece : Piece-F ExprKind Parts Piece Argument Callee Expr Link Pair Text
    → Piece-F Shown (List Written) Written ShownArgument ShownCallee Shown ShownLink (List ℕ) (List Written)
mapped_piece = map-Piece ExprKind Parts Piece Argument Callee Expr Link Pair Text Shown (List Written) Written ShownArgument ShownCallee Shown ShownLink (List ℕ) (List Written) kind_shown parts_written piece_written by_argument by_callee of_expr by_link by_pair by_text

rolled_piece : (d : Piece-F ExprKind Parts Piece Argument Callee Expr Link Pair Text) → piece_written (roll-Piece d) ≡ piece_step (mapped_piece d)
unfolding kind_shown parts_written piece_written
rolled_piece d = fold-roll-Piece Shown (List Written) Written ShownArgument ShownCallee Shown ShownLink (List ℕ) (List Written) kind_step parts_step piece_step argument_step callee_step expr_step link_step pair_step text_step d

pub said_is : (text : List ℕ) → piece_written (pieces.Text text) ≡ Said text
said_is text = ap piece_written (sym (pieces.rolls-Text text)) ∙ rolled_piece (Piece-F.Text text)

pub inserted_is : (x : Expr) → piece_written (pieces.Inserted x) ≡ Inserted (expr_text x)
inserted_is x =
    ap piece_written (sym (pieces.rolls-Inserted x)) ∙ rolled_piece (Piece-F.Inserted x) ∙ ap (λ (s : Shown). Inserted s.text) (expr_is x)

pub value_is : (x : Expr) → piece_written (pieces.Value x) ≡ Value (expr_text x)
value_is x =
    ap piece_written (sym (pieces.rolls-Value x)) ∙ rolled_piece (Piece-F.Value x) ∙ ap (λ (s : Shown). Value s.text) (expr_is x)

-- ---- what each kind is

pub number_sort : (x : Number) → (kind_shown (exprs.Number x)).sort ≡ sorts.Number
number_sort x = ap (λ k. (kind_shown k).sort) (sym (exprs.rolls-Number x)) ∙ ap (λ (s : Shown). s.sort) (rolled (ExprKind-F.Number x))

pub quoted_sort : (x : Parts) → (kind_shown (exprs.Quoted x)).sort ≡ sorts.Opaque
quoted_sort x = ap (λ k. (kind_shown k).sort) (sym (exprs.rolls-Quoted x)) ∙ ap (λ (s : Shown). s.sort) (rolled (ExprKind-F.Quoted x))

pub word_sort : (x : Parts) → (kind_shown (exprs.Word x)).sort ≡ sorts.Other
word_sort x = ap (λ k. (kind_shown k).sort) (sym (exprs.rolls-Word x)) ∙ ap (λ (s : Shown). s.sort) (rolled (ExprKind-F.Word x))

pub hash_sort : (x : List ℕ) → (kind_shown (exprs.Hash x)).sort ≡ sorts.Other
hash_sort x = ap (λ k. (kind_shown k).sort) (sym (exprs.rolls-Hash x)) ∙ ap (λ (s : Shown). s.sort) (rolled (ExprKind-F.Hash x))

pub constant_sort : (x : Constant) → (kind_shown (exprs.Constant x)).sort ≡ sorts.Other
constant_sort x = ap (λ k. (kind_shown k).sort) (sym (exprs.rolls-Constant x)) ∙ ap (λ (s : Shown). s.sort) (rolled (ExprKind-F.Constant x))

pub url_sort : (x : Parts) → (kind_shown (exprs.Url x)).sort ≡ sorts.Other
url_sort x = ap (λ k. (kind_shown k).sort) (sym (exprs.rolls-Url x)) ∙ ap (λ (s : Shown). s.sort) (rolled (ExprKind-F.Url x))

pub special_sort : (x : Parts) → (kind_shown (exprs.Special x)).sort ≡ sorts.Other
special_sort x = ap (λ k. (kind_shown k).sort) (sym (exprs.rolls-Special x)) ∙ ap (λ (s : Shown). s.sort) (rolled (ExprKind-F.Special x))

pub variable_sort : (x : List ℕ) → (kind_shown (exprs.Variable x)).sort ≡ sorts.Opaque
variable_sort x = ap (λ k. (kind_shown k).sort) (sym (exprs.rolls-Variable x)) ∙ ap (λ (s : Shown). s.sort) (rolled (ExprKind-F.Variable x))

pub qualified_sort : (x : Qualified) → (kind_shown (exprs.Qualified x)).sort ≡ sorts.Other
qualified_sort x = ap (λ k. (kind_shown k).sort) (sym (exprs.rolls-Qualified x)) ∙ ap (λ (s : Shown). s.sort) (rolled (ExprKind-F.Qualified x))

pub call_sort : (x : Callee) (xs : List Argument) → (kind_shown (exprs.Call x xs)).sort ≡ sorts.Other
call_sort x xs = ap (λ k. (kind_shown k).sort) (sym (exprs.rolls-Call x xs)) ∙ ap (λ (s : Shown). s.sort) (rolled (ExprKind-F.Call x xs))

pub parent_sort : (kind_shown exprs.Parent).sort ≡ sorts.Other
parent_sort = ap (λ k. (kind_shown k).sort) (sym exprs.rolls-Parent) ∙ ap (λ (s : Shown). s.sort) (rolled ExprKind-F.Parent)

pub important_sort : (kind_shown exprs.Important).sort ≡ sorts.Other
important_sort = ap (λ k. (kind_shown k).sort) (sym exprs.rolls-Important) ∙ ap (λ (s : Shown). s.sort) (rolled ExprKind-F.Important)

pub prefixed_sort : (signs : List Sign) (x : Expr) → (kind_shown (exprs.Prefixed signs x)).sort ≡ sorts.Other
prefixed_sort signs x = ap (λ k. (kind_shown k).sort) (sym (exprs.rolls-Prefixed signs x)) ∙ ap (λ (s : Shown). s.sort) (rolled (ExprKind-F.Prefixed signs x))

pub chain_sort : (x : Expr) (xs : List Link) → (kind_shown (exprs.Chain x xs)).sort ≡ sorts.Other
chain_sort x xs = ap (λ k. (kind_shown k).sort) (sym (exprs.rolls-Chain x xs)) ∙ ap (λ (s : Shown). s.sort) (rolled (ExprKind-F.Chain x xs))

pub list_sort : (xs : List Expr) (separator : Separator) (around : Around) → (kind_shown (exprs.List xs separator around)).sort ≡ sorts.Other
list_sort xs separator around = ap (λ k. (kind_shown k).sort) (sym (exprs.rolls-List xs separator around)) ∙ ap (λ (s : Shown). s.sort) (rolled (ExprKind-F.List xs separator around))

pub paren_sort : (x : Expr) → (kind_shown (exprs.Paren x)).sort ≡ sorts.Other
paren_sort x = ap (λ k. (kind_shown k).sort) (sym (exprs.rolls-Paren x)) ∙ ap (λ (s : Shown). s.sort) (rolled (ExprKind-F.Paren x))

pub map_sort : (xs : List Pair) → (kind_shown (exprs.Map xs)).sort ≡ sorts.Other
map_sort xs = ap (λ k. (kind_shown k).sort) (sym (exprs.rolls-Map xs)) ∙ ap (λ (s : Shown). s.sort) (rolled (ExprKind-F.Map xs))
