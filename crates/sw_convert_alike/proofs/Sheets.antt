-- Every statement, and every sheet, is alike itself.
use Rattle.std.proofs.Common.{List, [], ◌∷◌, Option, Some, None, sym, subst, refl}
use Rattle.std.specs.Prelude as prelude
use Rattle.sw_tree.specs.declared.callable.Callable.{Callable, roll-Callable}
use Rattle.sw_tree.specs.declared.callable.Content.{Content, roll-Content}
use Rattle.sw_tree.specs.declared.callable.Mixin.{Mixin}
use Rattle.sw_tree.specs.declared.callable.Param.{Param}
use Rattle.sw_tree.specs.declared.callable.Params.{Params}
use Rattle.sw_tree.specs.declared.load.Given.{Given}
use Rattle.sw_tree.specs.declared.statement.AtRoot.{AtRoot, roll-AtRoot}
use Rattle.sw_tree.specs.declared.statement.AtRule.{AtRule, roll-AtRule}
use Rattle.sw_tree.specs.declared.statement.Bounds.{Bounds}
use Rattle.sw_tree.specs.declared.statement.Branch.{Branch, roll-Branch}
use Rattle.sw_tree.specs.declared.statement.Each.{Each, roll-Each}
use Rattle.sw_tree.specs.declared.statement.For.{For, roll-For}
use Rattle.sw_tree.specs.declared.statement.Media.{Media, roll-Media}
use Rattle.sw_tree.specs.declared.statement.Properties.{Properties, roll-Properties}
use Rattle.sw_tree.specs.declared.statement.Rule.{Rule, roll-Rule}
use Rattle.sw_tree.specs.declared.statement.Statement.{Statement, roll-Statement, map-Statement, ind-Statement}
use Rattle.sw_tree.specs.declared.statement.Statement.TheOpen.{Statement-F}
use Rattle.sw_tree.specs.declared.statement.Statement.TheShapes.{former-Statement-If-1, former-Statement-Include-1}
use Rattle.sw_tree.specs.declared.statement.Statement.TheVariants as statements
use Rattle.sw_tree.specs.declared.statement.Supports.{Supports, roll-Supports}
use Rattle.sw_tree.specs.declared.statement.While.{While, roll-While}
use Rattle.sw_tree.specs.declared.text.Text.{Text}
use Rattle.sw_convert_alike.specs.Expressions.{Like, LikeText}
use Rattle.sw_convert_alike.specs.RawText.{one_line}
use Rattle.sw_convert_alike.specs.Statements.{LikeOption, LikeEach, LikeRaw, LikeParam, LikeParams, LikeGiven, LikeMixin, LikeBounds, LikeStatement, LikeBlock, LikeOptionalBlock, LikeBranches, LikeContent, variable, assignment, declaration, properties, custom, rule, use_, forward, callable, include, content, return, say, if_, each, for_, while_, media, supports, at_root, charset, import, extend, at_rule, comment, no_statements, statement, no_block, block, no_branches, branch, no_content, passed}
use Rattle.sw_convert_alike.specs.Comments.{lined}
use Rattle.sw_convert_alike.proofs.Reflexive.{With, like_self, parts_self, pieces_self, arguments_self}

-- ---- what stands in statements

option_self : {A : Type 0} (R : A → A → Type 0) → ((a : A) → R a a) → (a : Option A) → LikeOption R a a
option_self R self None = tt
option_self R self (Some a) = self a

each_self : {A : Type 0} (R : A → A → Type 0) → ((a : A) → R a a) → (xs : List A) → LikeEach R xs xs
each_self R self [] = tt
each_self R self (x ∷ xs) = (self x, each_self R self xs)

text_self : (a : Text) → LikeText a a
text_self a = parts_self a.parts

raw_self : (a : Text) → LikeRaw a a
raw_self a = pieces_self (one_line a.parts)

param_self : (a : Param) → LikeParam a a
param_self a = (refl, option_self Like like_self a.default)

params_self : (a : Params) → LikeParams a a
params_self a = (each_self LikeParam param_self a.items, refl)

given_self : (a : Given) → LikeGiven a a
given_self a = (refl, like_self a.value, refl)

givens_self : (xs : List Given) → LikeEach LikeGiven xs xs
givens_self xs = each_self LikeGiven given_self xs

mixin_self : (a : Mixin) → LikeMixin a a
mixin_self a = (refl, refl, arguments_self a.arguments)

bounds_self : (a : Bounds) → LikeBounds a a
bounds_self a = (like_self a.from, like_self a.to, refl)

-- ---- statements

abbrev StatementSelf : Statement → Type 0
StatementSelf a = LikeStatement a a

abbrev CallableSelf : Callable → Type 0
CallableSelf a = LikeBlock a.block a.block

abbrev ContentSelf : Content → Type 0
ContentSelf a = LikeBlock a.block a.block

abbrev AtRootSelf : AtRoot → Type 0
AtRootSelf a = LikeBlock a.block a.block

abbrev AtRuleSelf : AtRule → Type 0
AtRuleSelf a = LikeOptionalBlock a.block a.block

abbrev BranchSelf : Branch → Type 0
BranchSelf a = LikeBlock a.block a.block

abbrev EachSelf : Each → Type 0
EachSelf a = LikeBlock a.block a.block

abbrev ForSelf : For → Type 0
ForSelf a = LikeBlock a.block a.block

abbrev MediaSelf : Media → Type 0
MediaSelf a = LikeBlock a.block a.block

abbrev PropertiesSelf : Properties → Type 0
PropertiesSelf a = LikeBlock a.block a.block

abbrev RuleSelf : Rule → Type 0
RuleSelf a = LikeBlock a.block a.block

abbrev SupportsSelf : Supports → Type 0
SupportsSelf a = LikeBlock a.block a.block

abbrev WhileSelf : While → Type 0
WhileSelf a = LikeBlock a.block a.block

block_of : (xs : List (With Statement StatementSelf)) → LikeBlock (prelude.map (λ x. x.0) xs) (prelude.map (λ x. x.0) xs)
block_of [] = no_statements
block_of (x ∷ xs) = statement x.1 (block_of xs)

branches_of : (xs : List (With Branch BranchSelf)) → LikeBranches (prelude.map (λ x. x.0) xs) (prelude.map (λ x. x.0) xs)
branches_of [] = no_branches
branches_of (x ∷ xs) = branch (like_self x.0.condition) x.1 (branches_of xs)

abbrev bare_optional : Option (List (With Statement StatementSelf)) → Option (List Statement)
bare_optional = former-Statement-If-1.map (With Statement StatementSelf) Statement (λ e. e.0)

optional_of : (x : Option (List (With Statement StatementSelf))) → LikeOptionalBlock (bare_optional x) (bare_optional x)
optional_of None = no_block
optional_of (Some xs) = block (block_of xs)

abbrev bare_content : Option (With Content ContentSelf) → Option Content
bare_content = former-Statement-Include-1.map (With Content ContentSelf) Content (λ e. e.0)

content_of : (x : Option (With Content ContentSelf)) → LikeContent (bare_content x) (bare_content x)
content_of None = no_content
content_of (Some x) = passed (params_self x.0.params) x.1

abbrev Layer : Type 0
Layer = Statement-F (With Statement StatementSelf) (With Callable CallableSelf) (With Content ContentSelf) (With AtRoot AtRootSelf) (With AtRule AtRuleSelf) (With Branch BranchSelf) (With Each EachSelf) (With For ForSelf) (With Media MediaSelf) (With Properties PropertiesSelf) (With Rule RuleSelf) (With Supports SupportsSelf) (With While WhileSelf)

abbrev bare : Layer → Statement-F Statement Callable Content AtRoot AtRule Branch Each For Media Properties Rule Supports While
bare = map-Statement (With Statement StatementSelf) (With Callable CallableSelf) (With Content ContentSelf) (With AtRoot AtRootSelf) (With AtRule AtRuleSelf) (With Branch BranchSelf) (With Each EachSelf) (With For ForSelf) (With Media MediaSelf) (With Properties PropertiesSelf) (With Rule RuleSelf) (With Supports SupportsSelf) (With While WhileSelf) Statement Callable Content AtRoot AtRule Branch Each For Media Properties Rule Supports While (λ e. e.0) (λ e. e.0) (λ e. e.0) (λ e. e.0) (λ e. e.0) (λ e. e.0) (λ e. e.0) (λ e. e.0) (λ e. e.0) (λ e. e.0) (λ e. e.0) (λ e. e.0) (λ e. e.0)

layer_self : (y : Layer) → StatementSelf (roll-Statement (bare y))
layer_self (Statement-F.Variable x) = subst StatementSelf (sym (statements.rolls-Variable x)) (variable refl (like_self x.value) refl)
layer_self (Statement-F.Assignment x) = subst StatementSelf (sym (statements.rolls-Assignment x)) (assignment (refl, refl) (like_self x.value) refl)
layer_self (Statement-F.Declaration x) = subst StatementSelf (sym (statements.rolls-Declaration x)) (declaration (text_self x.property) (like_self x.value))
layer_self (Statement-F.Properties x) = subst StatementSelf (sym (statements.rolls-Properties x.0)) (properties x.0 x.0 (text_self x.0.property) (option_self Like like_self x.0.value) x.1)
layer_self (Statement-F.Custom x) = subst StatementSelf (sym (statements.rolls-Custom x)) (custom (text_self x.property) (option_self LikeText text_self x.value))
layer_self (Statement-F.Rule x) = subst StatementSelf (sym (statements.rolls-Rule x.0)) (rule x.0 x.0 (raw_self x.0.selector) x.1)
layer_self (Statement-F.Use x) = subst StatementSelf (sym (statements.rolls-Use x)) (use_ (refl, refl, givens_self x.configuration))
layer_self (Statement-F.Forward x) = subst StatementSelf (sym (statements.rolls-Forward x)) (forward (refl, refl, refl, givens_self x.configuration))
layer_self (Statement-F.Callable x) = subst StatementSelf (sym (statements.rolls-Callable x.0)) (callable x.0 x.0 refl refl (params_self x.0.params) x.1)
layer_self (Statement-F.Include mixin inner span) = subst StatementSelf (sym (statements.rolls-Include mixin (bare_content inner) span)) (include (mixin_self mixin) (content_of inner))
layer_self (Statement-F.Content x) = subst StatementSelf (sym (statements.rolls-Content x)) (content (arguments_self x.arguments))
layer_self (Statement-F.Return x) = subst StatementSelf (sym (statements.rolls-Return x)) (return (like_self x.value))
layer_self (Statement-F.Say x) = subst StatementSelf (sym (statements.rolls-Say x)) (say refl (like_self x.value))
layer_self (Statement-F.If xs otherwise span) = subst StatementSelf (sym (statements.rolls-If (prelude.map (λ x. x.0) xs) (bare_optional otherwise) span)) (if_ (branches_of xs) (optional_of otherwise))
layer_self (Statement-F.Each x) = subst StatementSelf (sym (statements.rolls-Each x.0)) (each x.0 x.0 refl (like_self x.0.value) x.1)
layer_self (Statement-F.For x) = subst StatementSelf (sym (statements.rolls-For x.0)) (for_ x.0 x.0 refl (bounds_self x.0.bounds) x.1)
layer_self (Statement-F.While x) = subst StatementSelf (sym (statements.rolls-While x.0)) (while_ x.0 x.0 (like_self x.0.condition) x.1)
layer_self (Statement-F.Media x) = subst StatementSelf (sym (statements.rolls-Media x.0)) (media x.0 x.0 (text_self x.0.queries) x.1)
layer_self (Statement-F.Supports x) = subst StatementSelf (sym (statements.rolls-Supports x.0)) (supports x.0 x.0 (raw_self x.0.condition) x.1)
layer_self (Statement-F.AtRoot x) = subst StatementSelf (sym (statements.rolls-AtRoot x.0)) (at_root x.0 x.0 (option_self LikeRaw raw_self x.0.selector) x.1)
layer_self (Statement-F.Charset span) = subst StatementSelf (sym (statements.rolls-Charset span)) charset
layer_self (Statement-F.Import x) = subst StatementSelf (sym (statements.rolls-Import x)) (import (raw_self x.text))
layer_self (Statement-F.Extend x) = subst StatementSelf (sym (statements.rolls-Extend x)) (extend (raw_self x.text))
layer_self (Statement-F.AtRule x) = subst StatementSelf (sym (statements.rolls-AtRule x.0)) (at_rule x.0 x.0 (text_self x.0.name) (option_self LikeRaw raw_self x.0.prelude) x.1)
layer_self (Statement-F.Comment x) = subst StatementSelf (sym (statements.rolls-Comment x)) (comment (parts_self (lined x.parts)))

pub statement_self : (a : Statement) → LikeStatement a a
statement_self =
    ind-Statement StatementSelf CallableSelf ContentSelf AtRootSelf AtRuleSelf BranchSelf EachSelf ForSelf MediaSelf PropertiesSelf RuleSelf SupportsSelf WhileSelf
    (λ x y is. subst (λ k. StatementSelf (roll-Statement k)) is (layer_self y))
    (λ x y is. subst (λ k. CallableSelf (roll-Callable k)) is (block_of y.block))
    (λ x y is. subst (λ k. ContentSelf (roll-Content k)) is (block_of y.block))
    (λ x y is. subst (λ k. AtRootSelf (roll-AtRoot k)) is (block_of y.block))
    (λ x y is. subst (λ k. AtRuleSelf (roll-AtRule k)) is (optional_of y.block))
    (λ x y is. subst (λ k. BranchSelf (roll-Branch k)) is (block_of y.block))
    (λ x y is. subst (λ k. EachSelf (roll-Each k)) is (block_of y.block))
    (λ x y is. subst (λ k. ForSelf (roll-For k)) is (block_of y.block))
    (λ x y is. subst (λ k. MediaSelf (roll-Media k)) is (block_of y.block))
    (λ x y is. subst (λ k. PropertiesSelf (roll-Properties k)) is (block_of y.block))
    (λ x y is. subst (λ k. RuleSelf (roll-Rule k)) is (block_of y.block))
    (λ x y is. subst (λ k. SupportsSelf (roll-Supports k)) is (block_of y.block))
    (λ x y is. subst (λ k. WhileSelf (roll-While k)) is (block_of y.block))

pub block_self : (xs : List Statement) → LikeBlock xs xs
block_self [] = no_statements
block_self (x ∷ xs) = statement (statement_self x) (block_self xs)
