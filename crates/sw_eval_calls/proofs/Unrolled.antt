-- What the definition of `@content` in a statement says of each kind of statement.
use Rattle.std.proofs.Common.{◌≡◌, Bool, false, true, ◌||◌, List, [], ◌∷◌, map, Option, Some, None, refl, sym, ◌∙◌, ap}
use Rattle.std.specs.List.{list_any}
use Rattle.sw_text.specs.declared.place.Span.{Span}
use Rattle.sw_tree.specs.declared.callable.Callable.{Callable, fold-Callable}
use Rattle.sw_tree.specs.declared.callable.Content.{Content, fold-Content, fold_out-Content}
use Rattle.sw_tree.specs.declared.callable.Mixin.{Mixin}
use Rattle.sw_tree.specs.declared.statement.AtRoot.{AtRoot, fold-AtRoot, fold_out-AtRoot}
use Rattle.sw_tree.specs.declared.statement.AtRule.{AtRule, fold-AtRule, fold_out-AtRule}
use Rattle.sw_tree.specs.declared.statement.Branch.{Branch, fold-Branch, fold_out-Branch}
use Rattle.sw_tree.specs.declared.statement.Each.{Each, fold-Each, fold_out-Each}
use Rattle.sw_tree.specs.declared.statement.For.{For, fold-For, fold_out-For}
use Rattle.sw_tree.specs.declared.statement.Media.{Media, fold-Media, fold_out-Media}
use Rattle.sw_tree.specs.declared.statement.Properties.{Properties, fold-Properties, fold_out-Properties}
use Rattle.sw_tree.specs.declared.statement.Rule.{Rule, fold-Rule, fold_out-Rule}
use Rattle.sw_tree.specs.declared.statement.Supports.{Supports, fold-Supports, fold_out-Supports}
use Rattle.sw_tree.specs.declared.statement.While.{While, fold-While, fold_out-While}
use Rattle.sw_tree.specs.declared.statement.Assignment.{Assignment}
use Rattle.sw_tree.specs.declared.statement.Declaration.{Declaration}
use Rattle.sw_tree.specs.declared.statement.Custom.{Custom}
use Rattle.sw_tree.specs.declared.statement.ContentCall.{ContentCall}
use Rattle.sw_tree.specs.declared.statement.Return.{Return}
use Rattle.sw_tree.specs.declared.statement.Say.{Say}
use Rattle.sw_tree.specs.declared.statement.Import.{Import}
use Rattle.sw_tree.specs.declared.statement.Extend.{Extend}
use Rattle.sw_tree.specs.declared.statement.Variable.{Variable}
use Rattle.sw_tree.specs.declared.load.Use.{Use}
use Rattle.sw_tree.specs.declared.load.Forward.{Forward}
use Rattle.sw_tree.specs.declared.text.Text.{Text}
use Rattle.sw_tree.specs.declared.statement.Statement.{Statement, fold-roll-Statement, roll-Statement, map-Statement}
use Rattle.sw_tree.specs.declared.statement.Statement.TheOpen.{Statement-F}
use Rattle.sw_tree.specs.declared.statement.Statement.TheShapes.{former-Statement-If-1, former-Statement-Include-1}
use Rattle.sw_tree.specs.declared.statement.Statement.TheVariants as statements
use Rattle.sw_eval_calls.specs.Layers.{Layer}
use Rattle.sw_eval_calls.specs.Contents.{some, optional_some, given_some, found_step, has_content, block_has, optional_has, content_has, branches_have}

abbrev callable_found : Callable → Bool
callable_found =
    fold-Callable Bool Bool Bool Bool Bool Bool Bool Bool Bool Bool Bool Bool Bool
    found_step (λ callable. false) (λ content. some content.block) (λ root. some root.block) (λ at_rule. optional_some at_rule.block) (λ branch. some branch.block) (λ each. some each.block) (λ count. some count.block) (λ media. some media.block) (λ properties. some properties.block) (λ rule. some rule.block) (λ supports. some supports.block) (λ loop. some loop.block)

abbrev content_found : Content → Bool
content_found =
    fold-Content Bool Bool Bool Bool Bool Bool Bool Bool Bool Bool Bool Bool Bool
    found_step (λ callable. false) (λ content. some content.block) (λ root. some root.block) (λ at_rule. optional_some at_rule.block) (λ branch. some branch.block) (λ each. some each.block) (λ count. some count.block) (λ media. some media.block) (λ properties. some properties.block) (λ rule. some rule.block) (λ supports. some supports.block) (λ loop. some loop.block)

abbrev at_root_found : AtRoot → Bool
at_root_found =
    fold-AtRoot Bool Bool Bool Bool Bool Bool Bool Bool Bool Bool Bool Bool Bool
    found_step (λ callable. false) (λ content. some content.block) (λ root. some root.block) (λ at_rule. optional_some at_rule.block) (λ branch. some branch.block) (λ each. some each.block) (λ count. some count.block) (λ media. some media.block) (λ properties. some properties.block) (λ rule. some rule.block) (λ supports. some supports.block) (λ loop. some loop.block)

abbrev at_rule_found : AtRule → Bool
at_rule_found =
    fold-AtRule Bool Bool Bool Bool Bool Bool Bool Bool Bool Bool Bool Bool Bool
    found_step (λ callable. false) (λ content. some content.block) (λ root. some root.block) (λ at_rule. optional_some at_rule.block) (λ branch. some branch.block) (λ each. some each.block) (λ count. some count.block) (λ media. some media.block) (λ properties. some properties.block) (λ rule. some rule.block) (λ supports. some supports.block) (λ loop. some loop.block)

abbrev branch_found : Branch → Bool
branch_found =
    fold-Branch Bool Bool Bool Bool Bool Bool Bool Bool Bool Bool Bool Bool Bool
    found_step (λ callable. false) (λ content. some content.block) (λ root. some root.block) (λ at_rule. optional_some at_rule.block) (λ branch. some branch.block) (λ each. some each.block) (λ count. some count.block) (λ media. some media.block) (λ properties. some properties.block) (λ rule. some rule.block) (λ supports. some supports.block) (λ loop. some loop.block)

abbrev each_found : Each → Bool
each_found =
    fold-Each Bool Bool Bool Bool Bool Bool Bool Bool Bool Bool Bool Bool Bool
    found_step (λ callable. false) (λ content. some content.block) (λ root. some root.block) (λ at_rule. optional_some at_rule.block) (λ branch. some branch.block) (λ each. some each.block) (λ count. some count.block) (λ media. some media.block) (λ properties. some properties.block) (λ rule. some rule.block) (λ supports. some supports.block) (λ loop. some loop.block)

abbrev for_found : For → Bool
for_found =
    fold-For Bool Bool Bool Bool Bool Bool Bool Bool Bool Bool Bool Bool Bool
    found_step (λ callable. false) (λ content. some content.block) (λ root. some root.block) (λ at_rule. optional_some at_rule.block) (λ branch. some branch.block) (λ each. some each.block) (λ count. some count.block) (λ media. some media.block) (λ properties. some properties.block) (λ rule. some rule.block) (λ supports. some supports.block) (λ loop. some loop.block)

abbrev media_found : Media → Bool
media_found =
    fold-Media Bool Bool Bool Bool Bool Bool Bool Bool Bool Bool Bool Bool Bool
    found_step (λ callable. false) (λ content. some content.block) (λ root. some root.block) (λ at_rule. optional_some at_rule.block) (λ branch. some branch.block) (λ each. some each.block) (λ count. some count.block) (λ media. some media.block) (λ properties. some properties.block) (λ rule. some rule.block) (λ supports. some supports.block) (λ loop. some loop.block)

abbrev properties_found : Properties → Bool
properties_found =
    fold-Properties Bool Bool Bool Bool Bool Bool Bool Bool Bool Bool Bool Bool Bool
    found_step (λ callable. false) (λ content. some content.block) (λ root. some root.block) (λ at_rule. optional_some at_rule.block) (λ branch. some branch.block) (λ each. some each.block) (λ count. some count.block) (λ media. some media.block) (λ properties. some properties.block) (λ rule. some rule.block) (λ supports. some supports.block) (λ loop. some loop.block)

abbrev rule_found : Rule → Bool
rule_found =
    fold-Rule Bool Bool Bool Bool Bool Bool Bool Bool Bool Bool Bool Bool Bool
    found_step (λ callable. false) (λ content. some content.block) (λ root. some root.block) (λ at_rule. optional_some at_rule.block) (λ branch. some branch.block) (λ each. some each.block) (λ count. some count.block) (λ media. some media.block) (λ properties. some properties.block) (λ rule. some rule.block) (λ supports. some supports.block) (λ loop. some loop.block)

abbrev supports_found : Supports → Bool
supports_found =
    fold-Supports Bool Bool Bool Bool Bool Bool Bool Bool Bool Bool Bool Bool Bool
    found_step (λ callable. false) (λ content. some content.block) (λ root. some root.block) (λ at_rule. optional_some at_rule.block) (λ branch. some branch.block) (λ each. some each.block) (λ count. some count.block) (λ media. some media.block) (λ properties. some properties.block) (λ rule. some rule.block) (λ supports. some supports.block) (λ loop. some loop.block)

abbrev while_found : While → Bool
while_found =
    fold-While Bool Bool Bool Bool Bool Bool Bool Bool Bool Bool Bool Bool Bool
    found_step (λ callable. false) (λ content. some content.block) (λ root. some root.block) (λ at_rule. optional_some at_rule.block) (λ branch. some branch.block) (λ each. some each.block) (λ count. some count.block) (λ media. some media.block) (λ properties. some properties.block) (λ rule. some rule.block) (λ supports. some supports.block) (λ loop. some loop.block)

any_mapped : {A : Type 0} (f : A → Bool) (xs : List A) → some (map f xs) ≡ list_any f xs
any_mapped f [] = refl
any_mapped f (x ∷ xs) = ap (λ b. f x || b) (any_mapped f xs)

abbrev mapped_block : Option (List Statement) → Option (List Bool)
mapped_block = former-Statement-If-1.map Statement Bool has_content

optional : (block : Option (List Statement)) → optional_some (mapped_block block) ≡ optional_has block
optional None = refl
optional (Some block) = any_mapped has_content block

content_is : (x : Content) → content_found x ≡ block_has x.block
unfolding has_content
content_is x = fold_out-Content Bool Bool Bool Bool Bool Bool Bool Bool Bool Bool Bool Bool Bool
    found_step (λ callable. false) (λ content. some content.block) (λ root. some root.block) (λ at_rule. optional_some at_rule.block) (λ branch. some branch.block) (λ each. some each.block) (λ count. some count.block) (λ media. some media.block) (λ properties. some properties.block) (λ rule. some rule.block) (λ supports. some supports.block) (λ loop. some loop.block) x
    ∙ any_mapped has_content x.block

at_root_is : (x : AtRoot) → at_root_found x ≡ block_has x.block
unfolding has_content
at_root_is x = fold_out-AtRoot Bool Bool Bool Bool Bool Bool Bool Bool Bool Bool Bool Bool Bool
    found_step (λ callable. false) (λ content. some content.block) (λ root. some root.block) (λ at_rule. optional_some at_rule.block) (λ branch. some branch.block) (λ each. some each.block) (λ count. some count.block) (λ media. some media.block) (λ properties. some properties.block) (λ rule. some rule.block) (λ supports. some supports.block) (λ loop. some loop.block) x
    ∙ any_mapped has_content x.block

at_rule_is : (x : AtRule) → at_rule_found x ≡ optional_has x.block
unfolding has_content
at_rule_is x = fold_out-AtRule Bool Bool Bool Bool Bool Bool Bool Bool Bool Bool Bool Bool Bool
    found_step (λ callable. false) (λ content. some content.block) (λ root. some root.block) (λ at_rule. optional_some at_rule.block) (λ branch. some branch.block) (λ each. some each.block) (λ count. some count.block) (λ media. some media.block) (λ properties. some properties.block) (λ rule. some rule.block) (λ supports. some supports.block) (λ loop. some loop.block) x
    ∙ optional x.block

branch_is : (x : Branch) → branch_found x ≡ block_has x.block
unfolding has_content
branch_is x = fold_out-Branch Bool Bool Bool Bool Bool Bool Bool Bool Bool Bool Bool Bool Bool
    found_step (λ callable. false) (λ content. some content.block) (λ root. some root.block) (λ at_rule. optional_some at_rule.block) (λ branch. some branch.block) (λ each. some each.block) (λ count. some count.block) (λ media. some media.block) (λ properties. some properties.block) (λ rule. some rule.block) (λ supports. some supports.block) (λ loop. some loop.block) x
    ∙ any_mapped has_content x.block

each_is : (x : Each) → each_found x ≡ block_has x.block
unfolding has_content
each_is x = fold_out-Each Bool Bool Bool Bool Bool Bool Bool Bool Bool Bool Bool Bool Bool
    found_step (λ callable. false) (λ content. some content.block) (λ root. some root.block) (λ at_rule. optional_some at_rule.block) (λ branch. some branch.block) (λ each. some each.block) (λ count. some count.block) (λ media. some media.block) (λ properties. some properties.block) (λ rule. some rule.block) (λ supports. some supports.block) (λ loop. some loop.block) x
    ∙ any_mapped has_content x.block

for_is : (x : For) → for_found x ≡ block_has x.block
unfolding has_content
for_is x = fold_out-For Bool Bool Bool Bool Bool Bool Bool Bool Bool Bool Bool Bool Bool
    found_step (λ callable. false) (λ content. some content.block) (λ root. some root.block) (λ at_rule. optional_some at_rule.block) (λ branch. some branch.block) (λ each. some each.block) (λ count. some count.block) (λ media. some media.block) (λ properties. some properties.block) (λ rule. some rule.block) (λ supports. some supports.block) (λ loop. some loop.block) x
    ∙ any_mapped has_content x.block

media_is : (x : Media) → media_found x ≡ block_has x.block
unfolding has_content
media_is x = fold_out-Media Bool Bool Bool Bool Bool Bool Bool Bool Bool Bool Bool Bool Bool
    found_step (λ callable. false) (λ content. some content.block) (λ root. some root.block) (λ at_rule. optional_some at_rule.block) (λ branch. some branch.block) (λ each. some each.block) (λ count. some count.block) (λ media. some media.block) (λ properties. some properties.block) (λ rule. some rule.block) (λ supports. some supports.block) (λ loop. some loop.block) x
    ∙ any_mapped has_content x.block

properties_is : (x : Properties) → properties_found x ≡ block_has x.block
unfolding has_content
properties_is x = fold_out-Properties Bool Bool Bool Bool Bool Bool Bool Bool Bool Bool Bool Bool Bool
    found_step (λ callable. false) (λ content. some content.block) (λ root. some root.block) (λ at_rule. optional_some at_rule.block) (λ branch. some branch.block) (λ each. some each.block) (λ count. some count.block) (λ media. some media.block) (λ properties. some properties.block) (λ rule. some rule.block) (λ supports. some supports.block) (λ loop. some loop.block) x
    ∙ any_mapped has_content x.block

rule_is : (x : Rule) → rule_found x ≡ block_has x.block
unfolding has_content
rule_is x = fold_out-Rule Bool Bool Bool Bool Bool Bool Bool Bool Bool Bool Bool Bool Bool
    found_step (λ callable. false) (λ content. some content.block) (λ root. some root.block) (λ at_rule. optional_some at_rule.block) (λ branch. some branch.block) (λ each. some each.block) (λ count. some count.block) (λ media. some media.block) (λ properties. some properties.block) (λ rule. some rule.block) (λ supports. some supports.block) (λ loop. some loop.block) x
    ∙ any_mapped has_content x.block

supports_is : (x : Supports) → supports_found x ≡ block_has x.block
unfolding has_content
supports_is x = fold_out-Supports Bool Bool Bool Bool Bool Bool Bool Bool Bool Bool Bool Bool Bool
    found_step (λ callable. false) (λ content. some content.block) (λ root. some root.block) (λ at_rule. optional_some at_rule.block) (λ branch. some branch.block) (λ each. some each.block) (λ count. some count.block) (λ media. some media.block) (λ properties. some properties.block) (λ rule. some rule.block) (λ supports. some supports.block) (λ loop. some loop.block) x
    ∙ any_mapped has_content x.block

while_is : (x : While) → while_found x ≡ block_has x.block
unfolding has_content
while_is x = fold_out-While Bool Bool Bool Bool Bool Bool Bool Bool Bool Bool Bool Bool Bool
    found_step (λ callable. false) (λ content. some content.block) (λ root. some root.block) (λ at_rule. optional_some at_rule.block) (λ branch. some branch.block) (λ each. some each.block) (λ count. some count.block) (λ media. some media.block) (λ properties. some properties.block) (λ rule. some rule.block) (λ supports. some supports.block) (λ loop. some loop.block) x
    ∙ any_mapped has_content x.block

branches : (xs : List Branch) → some (map branch_found xs) ≡ branches_have xs
branches [] = refl
branches (x ∷ xs) = ap (λ b. b || some (map branch_found xs)) (branch_is x) ∙ ap (λ b. block_has x.block || b) (branches xs)

abbrev mapped : Layer → Statement-F Bool Bool Bool Bool Bool Bool Bool Bool Bool Bool Bool Bool Bool
mapped = map-Statement Statement Callable Content AtRoot AtRule Branch Each For Media Properties Rule Supports While Bool Bool Bool Bool Bool Bool Bool Bool Bool Bool Bool Bool Bool has_content callable_found content_found at_root_found at_rule_found branch_found each_found for_found media_found properties_found rule_found supports_found while_found

rolled : (d : Layer) → has_content (roll-Statement d) ≡ found_step (mapped d)
unfolding has_content
rolled d = fold-roll-Statement Bool Bool Bool Bool Bool Bool Bool Bool Bool Bool Bool Bool Bool
    found_step (λ callable. false) (λ content. some content.block) (λ root. some root.block) (λ at_rule. optional_some at_rule.block) (λ branch. some branch.block) (λ each. some each.block) (λ count. some count.block) (λ media. some media.block) (λ properties. some properties.block) (λ rule. some rule.block) (λ supports. some supports.block) (λ loop. some loop.block) d

pub of_variable : (x : Variable) → has_content (statements.Variable x) ≡ false
of_variable x = ap has_content (sym (statements.rolls-Variable x)) ∙ rolled (Statement-F.Variable x)

pub of_assignment : (x : Assignment) → has_content (statements.Assignment x) ≡ false
of_assignment x = ap has_content (sym (statements.rolls-Assignment x)) ∙ rolled (Statement-F.Assignment x)

pub of_declaration : (x : Declaration) → has_content (statements.Declaration x) ≡ false
of_declaration x = ap has_content (sym (statements.rolls-Declaration x)) ∙ rolled (Statement-F.Declaration x)

pub of_custom : (x : Custom) → has_content (statements.Custom x) ≡ false
of_custom x = ap has_content (sym (statements.rolls-Custom x)) ∙ rolled (Statement-F.Custom x)

pub of_use : (x : Use) → has_content (statements.Use x) ≡ false
of_use x = ap has_content (sym (statements.rolls-Use x)) ∙ rolled (Statement-F.Use x)

pub of_forward : (x : Forward) → has_content (statements.Forward x) ≡ false
of_forward x = ap has_content (sym (statements.rolls-Forward x)) ∙ rolled (Statement-F.Forward x)

pub of_callable : (x : Callable) → has_content (statements.Callable x) ≡ false
of_callable x = ap has_content (sym (statements.rolls-Callable x)) ∙ rolled (Statement-F.Callable x)

pub of_return : (x : Return) → has_content (statements.Return x) ≡ false
of_return x = ap has_content (sym (statements.rolls-Return x)) ∙ rolled (Statement-F.Return x)

pub of_say : (x : Say) → has_content (statements.Say x) ≡ false
of_say x = ap has_content (sym (statements.rolls-Say x)) ∙ rolled (Statement-F.Say x)

pub of_charset : (x : Span) → has_content (statements.Charset x) ≡ false
of_charset x = ap has_content (sym (statements.rolls-Charset x)) ∙ rolled (Statement-F.Charset x)

pub of_import : (x : Import) → has_content (statements.Import x) ≡ false
of_import x = ap has_content (sym (statements.rolls-Import x)) ∙ rolled (Statement-F.Import x)

pub of_extend : (x : Extend) → has_content (statements.Extend x) ≡ false
of_extend x = ap has_content (sym (statements.rolls-Extend x)) ∙ rolled (Statement-F.Extend x)

pub of_comment : (x : Text) → has_content (statements.Comment x) ≡ false
of_comment x = ap has_content (sym (statements.rolls-Comment x)) ∙ rolled (Statement-F.Comment x)

pub of_content : (x : ContentCall) → has_content (statements.Content x) ≡ true
of_content x = ap has_content (sym (statements.rolls-Content x)) ∙ rolled (Statement-F.Content x)

pub of_at_root : (x : AtRoot) → has_content (statements.AtRoot x) ≡ block_has x.block
of_at_root x = ap has_content (sym (statements.rolls-AtRoot x)) ∙ rolled (Statement-F.AtRoot x) ∙ at_root_is x

pub of_at_rule : (x : AtRule) → has_content (statements.AtRule x) ≡ optional_has x.block
of_at_rule x = ap has_content (sym (statements.rolls-AtRule x)) ∙ rolled (Statement-F.AtRule x) ∙ at_rule_is x

pub of_each : (x : Each) → has_content (statements.Each x) ≡ block_has x.block
of_each x = ap has_content (sym (statements.rolls-Each x)) ∙ rolled (Statement-F.Each x) ∙ each_is x

pub of_for : (x : For) → has_content (statements.For x) ≡ block_has x.block
of_for x = ap has_content (sym (statements.rolls-For x)) ∙ rolled (Statement-F.For x) ∙ for_is x

pub of_media : (x : Media) → has_content (statements.Media x) ≡ block_has x.block
of_media x = ap has_content (sym (statements.rolls-Media x)) ∙ rolled (Statement-F.Media x) ∙ media_is x

pub of_properties : (x : Properties) → has_content (statements.Properties x) ≡ block_has x.block
of_properties x = ap has_content (sym (statements.rolls-Properties x)) ∙ rolled (Statement-F.Properties x) ∙ properties_is x

pub of_rule : (x : Rule) → has_content (statements.Rule x) ≡ block_has x.block
of_rule x = ap has_content (sym (statements.rolls-Rule x)) ∙ rolled (Statement-F.Rule x) ∙ rule_is x

pub of_supports : (x : Supports) → has_content (statements.Supports x) ≡ block_has x.block
of_supports x = ap has_content (sym (statements.rolls-Supports x)) ∙ rolled (Statement-F.Supports x) ∙ supports_is x

pub of_while : (x : While) → has_content (statements.While x) ≡ block_has x.block
of_while x = ap has_content (sym (statements.rolls-While x)) ∙ rolled (Statement-F.While x) ∙ while_is x

given : (x : Option Content) → given_some (former-Statement-Include-1.map Content Bool content_found x) ≡ content_has x
given None = refl
given (Some x) = content_is x

pub of_include : (mixin : Mixin) (x : Option Content) (span : Span) → has_content (statements.Include mixin x span) ≡ content_has x
of_include mixin x span =
    ap has_content (sym (statements.rolls-Include mixin x span)) ∙ rolled (Statement-F.Include mixin x span) ∙ given x

pub of_if : (xs : List Branch) (otherwise : Option (List Statement)) (span : Span)
    → has_content (statements.If xs otherwise span) ≡ (branches_have xs || optional_has otherwise)
of_if xs otherwise span =
    ap has_content (sym (statements.rolls-If xs otherwise span)) ∙ rolled (Statement-F.If xs otherwise span)
    ∙ ap (λ b. b || optional_some (mapped_block otherwise)) (branches xs) ∙ ap (λ b. branches_have xs || b) (optional otherwise)
