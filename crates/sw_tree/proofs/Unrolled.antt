-- What the definition of a module's variables says of each kind of statement.
use Rattle.std.proofs.Common.{◌≡◌, List, [], ◌∷◌, ◌++◌, map, Option, Some, None, refl, sym, ◌∙◌, ap}
use Rattle.std.proofs.lemmas.List.Folds.{flat_map-map}
use Rattle.sw_tree.specs.declared.callable.Callable.{Callable, fold-Callable, fold_out-Callable}
use Rattle.sw_tree.specs.declared.callable.Content.{Content, fold-Content, fold_out-Content}
use Rattle.sw_tree.specs.declared.statement.AtRoot.{AtRoot, fold-AtRoot, fold_out-AtRoot}
use Rattle.sw_tree.specs.declared.statement.AtRule.{AtRule, fold-AtRule, fold_out-AtRule}
use Rattle.sw_tree.specs.declared.statement.Branch.{Branch, fold-Branch, fold_out-Branch}
use Rattle.sw_tree.specs.declared.statement.Each.{Each, fold-Each, fold_out-Each}
use Rattle.sw_tree.specs.declared.statement.For.{For, fold-For, fold_out-For}
use Rattle.sw_tree.specs.declared.statement.Media.{Media, fold-Media, fold_out-Media}
use Rattle.sw_tree.specs.declared.statement.Properties.{Properties, fold-Properties, fold_out-Properties}
use Rattle.sw_tree.specs.declared.statement.Rule.{Rule, fold-Rule, fold_out-Rule}
use Rattle.sw_tree.specs.declared.statement.Supports.{Supports, fold-Supports, fold_out-Supports}
use Rattle.sw_tree.specs.declared.statement.While.{While, fold-While, fold_out-While}
use Rattle.sw_tree.specs.declared.statement.Assignment.{Assignment}
use Rattle.sw_tree.specs.declared.statement.Declaration.{Declaration}
use Rattle.sw_tree.specs.declared.statement.Custom.{Custom}
use Rattle.sw_tree.specs.declared.load.Use.{Use}
use Rattle.sw_tree.specs.declared.load.Forward.{Forward}
use Rattle.sw_tree.specs.declared.statement.ContentCall.{ContentCall}
use Rattle.sw_tree.specs.declared.statement.Return.{Return}
use Rattle.sw_tree.specs.declared.statement.Say.{Say}
use Rattle.sw_text.specs.declared.place.Span.{Span}
use Rattle.sw_tree.specs.declared.statement.Import.{Import}
use Rattle.sw_tree.specs.declared.statement.Extend.{Extend}
use Rattle.sw_tree.specs.declared.text.Text.{Text}
use Rattle.sw_tree.specs.declared.callable.Mixin.{Mixin}
use Rattle.sw_tree.specs.declared.statement.Variable.{Variable}
use Rattle.sw_tree.specs.declared.statement.Statement.{Statement, fold-roll-Statement, roll-Statement, map-Statement}
use Rattle.sw_tree.specs.declared.statement.Statement.TheOpen.{Statement-F}
use Rattle.sw_tree.specs.declared.statement.Statement.TheShapes.{former-Statement-If-1, former-Statement-Include-1}
use Rattle.sw_tree.specs.declared.statement.Statement.TheVariants as statements
use Rattle.sw_tree.specs.Globals.{Names, global_name, block_names, optional_names, content_names, global_step, globals_in, block_globals, optional_globals, content_globals, branches_globals}

abbrev callable_names : Callable → Names
callable_names =
    fold-Callable Names Names Names Names Names Names Names Names Names Names Names Names Names
    global_step (λ callable. block_names callable.block) (λ content. block_names content.block) (λ root. block_names root.block) (λ at_rule. optional_names at_rule.block) (λ branch. block_names branch.block) (λ each. block_names each.block) (λ count. block_names count.block) (λ media. block_names media.block) (λ properties. block_names properties.block) (λ rule. block_names rule.block) (λ supports. block_names supports.block) (λ loop. block_names loop.block)

abbrev content_names_of : Content → Names
content_names_of =
    fold-Content Names Names Names Names Names Names Names Names Names Names Names Names Names
    global_step (λ callable. block_names callable.block) (λ content. block_names content.block) (λ root. block_names root.block) (λ at_rule. optional_names at_rule.block) (λ branch. block_names branch.block) (λ each. block_names each.block) (λ count. block_names count.block) (λ media. block_names media.block) (λ properties. block_names properties.block) (λ rule. block_names rule.block) (λ supports. block_names supports.block) (λ loop. block_names loop.block)

abbrev at_root_names : AtRoot → Names
at_root_names =
    fold-AtRoot Names Names Names Names Names Names Names Names Names Names Names Names Names
    global_step (λ callable. block_names callable.block) (λ content. block_names content.block) (λ root. block_names root.block) (λ at_rule. optional_names at_rule.block) (λ branch. block_names branch.block) (λ each. block_names each.block) (λ count. block_names count.block) (λ media. block_names media.block) (λ properties. block_names properties.block) (λ rule. block_names rule.block) (λ supports. block_names supports.block) (λ loop. block_names loop.block)

abbrev at_rule_names : AtRule → Names
at_rule_names =
    fold-AtRule Names Names Names Names Names Names Names Names Names Names Names Names Names
    global_step (λ callable. block_names callable.block) (λ content. block_names content.block) (λ root. block_names root.block) (λ at_rule. optional_names at_rule.block) (λ branch. block_names branch.block) (λ each. block_names each.block) (λ count. block_names count.block) (λ media. block_names media.block) (λ properties. block_names properties.block) (λ rule. block_names rule.block) (λ supports. block_names supports.block) (λ loop. block_names loop.block)

abbrev branch_names : Branch → Names
branch_names =
    fold-Branch Names Names Names Names Names Names Names Names Names Names Names Names Names
    global_step (λ callable. block_names callable.block) (λ content. block_names content.block) (λ root. block_names root.block) (λ at_rule. optional_names at_rule.block) (λ branch. block_names branch.block) (λ each. block_names each.block) (λ count. block_names count.block) (λ media. block_names media.block) (λ properties. block_names properties.block) (λ rule. block_names rule.block) (λ supports. block_names supports.block) (λ loop. block_names loop.block)

abbrev each_names : Each → Names
each_names =
    fold-Each Names Names Names Names Names Names Names Names Names Names Names Names Names
    global_step (λ callable. block_names callable.block) (λ content. block_names content.block) (λ root. block_names root.block) (λ at_rule. optional_names at_rule.block) (λ branch. block_names branch.block) (λ each. block_names each.block) (λ count. block_names count.block) (λ media. block_names media.block) (λ properties. block_names properties.block) (λ rule. block_names rule.block) (λ supports. block_names supports.block) (λ loop. block_names loop.block)

abbrev for_names : For → Names
for_names =
    fold-For Names Names Names Names Names Names Names Names Names Names Names Names Names
    global_step (λ callable. block_names callable.block) (λ content. block_names content.block) (λ root. block_names root.block) (λ at_rule. optional_names at_rule.block) (λ branch. block_names branch.block) (λ each. block_names each.block) (λ count. block_names count.block) (λ media. block_names media.block) (λ properties. block_names properties.block) (λ rule. block_names rule.block) (λ supports. block_names supports.block) (λ loop. block_names loop.block)

abbrev media_names : Media → Names
media_names =
    fold-Media Names Names Names Names Names Names Names Names Names Names Names Names Names
    global_step (λ callable. block_names callable.block) (λ content. block_names content.block) (λ root. block_names root.block) (λ at_rule. optional_names at_rule.block) (λ branch. block_names branch.block) (λ each. block_names each.block) (λ count. block_names count.block) (λ media. block_names media.block) (λ properties. block_names properties.block) (λ rule. block_names rule.block) (λ supports. block_names supports.block) (λ loop. block_names loop.block)

abbrev properties_names : Properties → Names
properties_names =
    fold-Properties Names Names Names Names Names Names Names Names Names Names Names Names Names
    global_step (λ callable. block_names callable.block) (λ content. block_names content.block) (λ root. block_names root.block) (λ at_rule. optional_names at_rule.block) (λ branch. block_names branch.block) (λ each. block_names each.block) (λ count. block_names count.block) (λ media. block_names media.block) (λ properties. block_names properties.block) (λ rule. block_names rule.block) (λ supports. block_names supports.block) (λ loop. block_names loop.block)

abbrev rule_names : Rule → Names
rule_names =
    fold-Rule Names Names Names Names Names Names Names Names Names Names Names Names Names
    global_step (λ callable. block_names callable.block) (λ content. block_names content.block) (λ root. block_names root.block) (λ at_rule. optional_names at_rule.block) (λ branch. block_names branch.block) (λ each. block_names each.block) (λ count. block_names count.block) (λ media. block_names media.block) (λ properties. block_names properties.block) (λ rule. block_names rule.block) (λ supports. block_names supports.block) (λ loop. block_names loop.block)

abbrev supports_names : Supports → Names
supports_names =
    fold-Supports Names Names Names Names Names Names Names Names Names Names Names Names Names
    global_step (λ callable. block_names callable.block) (λ content. block_names content.block) (λ root. block_names root.block) (λ at_rule. optional_names at_rule.block) (λ branch. block_names branch.block) (λ each. block_names each.block) (λ count. block_names count.block) (λ media. block_names media.block) (λ properties. block_names properties.block) (λ rule. block_names rule.block) (λ supports. block_names supports.block) (λ loop. block_names loop.block)

abbrev while_names : While → Names
while_names =
    fold-While Names Names Names Names Names Names Names Names Names Names Names Names Names
    global_step (λ callable. block_names callable.block) (λ content. block_names content.block) (λ root. block_names root.block) (λ at_rule. optional_names at_rule.block) (λ branch. block_names branch.block) (λ each. block_names each.block) (λ count. block_names count.block) (λ media. block_names media.block) (λ properties. block_names properties.block) (λ rule. block_names rule.block) (λ supports. block_names supports.block) (λ loop. block_names loop.block)

abbrev mapped_block : Option (List Statement) → Option (List Names)
mapped_block = former-Statement-If-1.map Statement Names globals_in

optional : (block : Option (List Statement)) → optional_names (mapped_block block) ≡ optional_globals block
optional None = refl
optional (Some block) = flat_map-map (λ names. names) globals_in block

callable_is : (x : Callable) → callable_names x ≡ block_globals x.block
unfolding globals_in
callable_is x = fold_out-Callable Names Names Names Names Names Names Names Names Names Names Names Names Names
    global_step (λ callable. block_names callable.block) (λ content. block_names content.block) (λ root. block_names root.block) (λ at_rule. optional_names at_rule.block) (λ branch. block_names branch.block) (λ each. block_names each.block) (λ count. block_names count.block) (λ media. block_names media.block) (λ properties. block_names properties.block) (λ rule. block_names rule.block) (λ supports. block_names supports.block) (λ loop. block_names loop.block) x
    ∙ flat_map-map (λ names. names) globals_in x.block

content_is : (x : Content) → content_names_of x ≡ block_globals x.block
unfolding globals_in
content_is x = fold_out-Content Names Names Names Names Names Names Names Names Names Names Names Names Names
    global_step (λ callable. block_names callable.block) (λ content. block_names content.block) (λ root. block_names root.block) (λ at_rule. optional_names at_rule.block) (λ branch. block_names branch.block) (λ each. block_names each.block) (λ count. block_names count.block) (λ media. block_names media.block) (λ properties. block_names properties.block) (λ rule. block_names rule.block) (λ supports. block_names supports.block) (λ loop. block_names loop.block) x
    ∙ flat_map-map (λ names. names) globals_in x.block

at_root_is : (x : AtRoot) → at_root_names x ≡ block_globals x.block
unfolding globals_in
at_root_is x = fold_out-AtRoot Names Names Names Names Names Names Names Names Names Names Names Names Names
    global_step (λ callable. block_names callable.block) (λ content. block_names content.block) (λ root. block_names root.block) (λ at_rule. optional_names at_rule.block) (λ branch. block_names branch.block) (λ each. block_names each.block) (λ count. block_names count.block) (λ media. block_names media.block) (λ properties. block_names properties.block) (λ rule. block_names rule.block) (λ supports. block_names supports.block) (λ loop. block_names loop.block) x
    ∙ flat_map-map (λ names. names) globals_in x.block

at_rule_is : (x : AtRule) → at_rule_names x ≡ optional_globals x.block
unfolding globals_in
at_rule_is x = fold_out-AtRule Names Names Names Names Names Names Names Names Names Names Names Names Names
    global_step (λ callable. block_names callable.block) (λ content. block_names content.block) (λ root. block_names root.block) (λ at_rule. optional_names at_rule.block) (λ branch. block_names branch.block) (λ each. block_names each.block) (λ count. block_names count.block) (λ media. block_names media.block) (λ properties. block_names properties.block) (λ rule. block_names rule.block) (λ supports. block_names supports.block) (λ loop. block_names loop.block) x
    ∙ optional x.block

branch_is : (x : Branch) → branch_names x ≡ block_globals x.block
unfolding globals_in
branch_is x = fold_out-Branch Names Names Names Names Names Names Names Names Names Names Names Names Names
    global_step (λ callable. block_names callable.block) (λ content. block_names content.block) (λ root. block_names root.block) (λ at_rule. optional_names at_rule.block) (λ branch. block_names branch.block) (λ each. block_names each.block) (λ count. block_names count.block) (λ media. block_names media.block) (λ properties. block_names properties.block) (λ rule. block_names rule.block) (λ supports. block_names supports.block) (λ loop. block_names loop.block) x
    ∙ flat_map-map (λ names. names) globals_in x.block

each_is : (x : Each) → each_names x ≡ block_globals x.block
unfolding globals_in
each_is x = fold_out-Each Names Names Names Names Names Names Names Names Names Names Names Names Names
    global_step (λ callable. block_names callable.block) (λ content. block_names content.block) (λ root. block_names root.block) (λ at_rule. optional_names at_rule.block) (λ branch. block_names branch.block) (λ each. block_names each.block) (λ count. block_names count.block) (λ media. block_names media.block) (λ properties. block_names properties.block) (λ rule. block_names rule.block) (λ supports. block_names supports.block) (λ loop. block_names loop.block) x
    ∙ flat_map-map (λ names. names) globals_in x.block

for_is : (x : For) → for_names x ≡ block_globals x.block
unfolding globals_in
for_is x = fold_out-For Names Names Names Names Names Names Names Names Names Names Names Names Names
    global_step (λ callable. block_names callable.block) (λ content. block_names content.block) (λ root. block_names root.block) (λ at_rule. optional_names at_rule.block) (λ branch. block_names branch.block) (λ each. block_names each.block) (λ count. block_names count.block) (λ media. block_names media.block) (λ properties. block_names properties.block) (λ rule. block_names rule.block) (λ supports. block_names supports.block) (λ loop. block_names loop.block) x
    ∙ flat_map-map (λ names. names) globals_in x.block

media_is : (x : Media) → media_names x ≡ block_globals x.block
unfolding globals_in
media_is x = fold_out-Media Names Names Names Names Names Names Names Names Names Names Names Names Names
    global_step (λ callable. block_names callable.block) (λ content. block_names content.block) (λ root. block_names root.block) (λ at_rule. optional_names at_rule.block) (λ branch. block_names branch.block) (λ each. block_names each.block) (λ count. block_names count.block) (λ media. block_names media.block) (λ properties. block_names properties.block) (λ rule. block_names rule.block) (λ supports. block_names supports.block) (λ loop. block_names loop.block) x
    ∙ flat_map-map (λ names. names) globals_in x.block

properties_is : (x : Properties) → properties_names x ≡ block_globals x.block
unfolding globals_in
properties_is x = fold_out-Properties Names Names Names Names Names Names Names Names Names Names Names Names Names
    global_step (λ callable. block_names callable.block) (λ content. block_names content.block) (λ root. block_names root.block) (λ at_rule. optional_names at_rule.block) (λ branch. block_names branch.block) (λ each. block_names each.block) (λ count. block_names count.block) (λ media. block_names media.block) (λ properties. block_names properties.block) (λ rule. block_names rule.block) (λ supports. block_names supports.block) (λ loop. block_names loop.block) x
    ∙ flat_map-map (λ names. names) globals_in x.block

rule_is : (x : Rule) → rule_names x ≡ block_globals x.block
unfolding globals_in
rule_is x = fold_out-Rule Names Names Names Names Names Names Names Names Names Names Names Names Names
    global_step (λ callable. block_names callable.block) (λ content. block_names content.block) (λ root. block_names root.block) (λ at_rule. optional_names at_rule.block) (λ branch. block_names branch.block) (λ each. block_names each.block) (λ count. block_names count.block) (λ media. block_names media.block) (λ properties. block_names properties.block) (λ rule. block_names rule.block) (λ supports. block_names supports.block) (λ loop. block_names loop.block) x
    ∙ flat_map-map (λ names. names) globals_in x.block

supports_is : (x : Supports) → supports_names x ≡ block_globals x.block
unfolding globals_in
supports_is x = fold_out-Supports Names Names Names Names Names Names Names Names Names Names Names Names Names
    global_step (λ callable. block_names callable.block) (λ content. block_names content.block) (λ root. block_names root.block) (λ at_rule. optional_names at_rule.block) (λ branch. block_names branch.block) (λ each. block_names each.block) (λ count. block_names count.block) (λ media. block_names media.block) (λ properties. block_names properties.block) (λ rule. block_names rule.block) (λ supports. block_names supports.block) (λ loop. block_names loop.block) x
    ∙ flat_map-map (λ names. names) globals_in x.block

while_is : (x : While) → while_names x ≡ block_globals x.block
unfolding globals_in
while_is x = fold_out-While Names Names Names Names Names Names Names Names Names Names Names Names Names
    global_step (λ callable. block_names callable.block) (λ content. block_names content.block) (λ root. block_names root.block) (λ at_rule. optional_names at_rule.block) (λ branch. block_names branch.block) (λ each. block_names each.block) (λ count. block_names count.block) (λ media. block_names media.block) (λ properties. block_names properties.block) (λ rule. block_names rule.block) (λ supports. block_names supports.block) (λ loop. block_names loop.block) x
    ∙ flat_map-map (λ names. names) globals_in x.block

branches : (xs : List Branch) → block_names (map branch_names xs) ≡ branches_globals xs
branches [] = refl
branches (x ∷ xs) = ap (λ names. names ++ block_names (map branch_names xs)) (branch_is x) ∙ ap (λ names. block_globals x.block ++ names) (branches xs)

abbrev mapped : Statement-F Statement Callable Content AtRoot AtRule Branch Each For Media Properties Rule Supports While → Statement-F Names Names Names Names Names Names Names Names Names Names Names Names Names
mapped = map-Statement Statement Callable Content AtRoot AtRule Branch Each For Media Properties Rule Supports While Names Names Names Names Names Names Names Names Names Names Names Names Names globals_in callable_names content_names_of at_root_names at_rule_names branch_names each_names for_names media_names properties_names rule_names supports_names while_names

rolled : (d : Statement-F Statement Callable Content AtRoot AtRule Branch Each For Media Properties Rule Supports While) → globals_in (roll-Statement d) ≡ global_step (mapped d)
unfolding globals_in
rolled d = fold-roll-Statement Names Names Names Names Names Names Names Names Names Names Names Names Names
    global_step (λ callable. block_names callable.block) (λ content. block_names content.block) (λ root. block_names root.block) (λ at_rule. optional_names at_rule.block) (λ branch. block_names branch.block) (λ each. block_names each.block) (λ count. block_names count.block) (λ media. block_names media.block) (λ properties. block_names properties.block) (λ rule. block_names rule.block) (λ supports. block_names supports.block) (λ loop. block_names loop.block) d

pub of_variable : (x : Variable) → globals_in (statements.Variable x) ≡ global_name x
of_variable x = ap globals_in (sym (statements.rolls-Variable x)) ∙ rolled (Statement-F.Variable x)

pub of_assignment : (x : Assignment) → globals_in (statements.Assignment x) ≡ []
of_assignment x = ap globals_in (sym (statements.rolls-Assignment x)) ∙ rolled (Statement-F.Assignment x)

pub of_declaration : (x : Declaration) → globals_in (statements.Declaration x) ≡ []
of_declaration x = ap globals_in (sym (statements.rolls-Declaration x)) ∙ rolled (Statement-F.Declaration x)

pub of_custom : (x : Custom) → globals_in (statements.Custom x) ≡ []
of_custom x = ap globals_in (sym (statements.rolls-Custom x)) ∙ rolled (Statement-F.Custom x)

pub of_use : (x : Use) → globals_in (statements.Use x) ≡ []
of_use x = ap globals_in (sym (statements.rolls-Use x)) ∙ rolled (Statement-F.Use x)

pub of_forward : (x : Forward) → globals_in (statements.Forward x) ≡ []
of_forward x = ap globals_in (sym (statements.rolls-Forward x)) ∙ rolled (Statement-F.Forward x)

pub of_content_call : (x : ContentCall) → globals_in (statements.Content x) ≡ []
of_content_call x = ap globals_in (sym (statements.rolls-Content x)) ∙ rolled (Statement-F.Content x)

pub of_return : (x : Return) → globals_in (statements.Return x) ≡ []
of_return x = ap globals_in (sym (statements.rolls-Return x)) ∙ rolled (Statement-F.Return x)

pub of_say : (x : Say) → globals_in (statements.Say x) ≡ []
of_say x = ap globals_in (sym (statements.rolls-Say x)) ∙ rolled (Statement-F.Say x)

pub of_charset : (x : Span) → globals_in (statements.Charset x) ≡ []
of_charset x = ap globals_in (sym (statements.rolls-Charset x)) ∙ rolled (Statement-F.Charset x)

pub of_import : (x : Import) → globals_in (statements.Import x) ≡ []
of_import x = ap globals_in (sym (statements.rolls-Import x)) ∙ rolled (Statement-F.Import x)

pub of_extend : (x : Extend) → globals_in (statements.Extend x) ≡ []
of_extend x = ap globals_in (sym (statements.rolls-Extend x)) ∙ rolled (Statement-F.Extend x)

pub of_comment : (x : Text) → globals_in (statements.Comment x) ≡ []
of_comment x = ap globals_in (sym (statements.rolls-Comment x)) ∙ rolled (Statement-F.Comment x)

pub of_callable : (x : Callable) → globals_in (statements.Callable x) ≡ block_globals x.block
of_callable x = ap globals_in (sym (statements.rolls-Callable x)) ∙ rolled (Statement-F.Callable x) ∙ callable_is x

pub of_at_root : (x : AtRoot) → globals_in (statements.AtRoot x) ≡ block_globals x.block
of_at_root x = ap globals_in (sym (statements.rolls-AtRoot x)) ∙ rolled (Statement-F.AtRoot x) ∙ at_root_is x

pub of_at_rule : (x : AtRule) → globals_in (statements.AtRule x) ≡ optional_globals x.block
of_at_rule x = ap globals_in (sym (statements.rolls-AtRule x)) ∙ rolled (Statement-F.AtRule x) ∙ at_rule_is x

pub of_each : (x : Each) → globals_in (statements.Each x) ≡ block_globals x.block
of_each x = ap globals_in (sym (statements.rolls-Each x)) ∙ rolled (Statement-F.Each x) ∙ each_is x

pub of_for : (x : For) → globals_in (statements.For x) ≡ block_globals x.block
of_for x = ap globals_in (sym (statements.rolls-For x)) ∙ rolled (Statement-F.For x) ∙ for_is x

pub of_media : (x : Media) → globals_in (statements.Media x) ≡ block_globals x.block
of_media x = ap globals_in (sym (statements.rolls-Media x)) ∙ rolled (Statement-F.Media x) ∙ media_is x

pub of_properties : (x : Properties) → globals_in (statements.Properties x) ≡ block_globals x.block
of_properties x = ap globals_in (sym (statements.rolls-Properties x)) ∙ rolled (Statement-F.Properties x) ∙ properties_is x

pub of_rule : (x : Rule) → globals_in (statements.Rule x) ≡ block_globals x.block
of_rule x = ap globals_in (sym (statements.rolls-Rule x)) ∙ rolled (Statement-F.Rule x) ∙ rule_is x

pub of_supports : (x : Supports) → globals_in (statements.Supports x) ≡ block_globals x.block
of_supports x = ap globals_in (sym (statements.rolls-Supports x)) ∙ rolled (Statement-F.Supports x) ∙ supports_is x

pub of_while : (x : While) → globals_in (statements.While x) ≡ block_globals x.block
of_while x = ap globals_in (sym (statements.rolls-While x)) ∙ rolled (Statement-F.While x) ∙ while_is x

abbrev mapped_content : Option Content → Option Names
mapped_content = former-Statement-Include-1.map Content Names content_names_of

content : (x : Option Content) → content_names (mapped_content x) ≡ content_globals x
content None = refl
content (Some x) = content_is x

pub of_include : (mixin : Mixin) (x : Option Content) (span : Span) → globals_in (statements.Include mixin x span) ≡ content_globals x
of_include mixin x span =
    ap globals_in (sym (statements.rolls-Include mixin x span)) ∙ rolled (Statement-F.Include mixin x span) ∙ content x

pub of_if : (xs : List Branch) (otherwise : Option (List Statement)) (span : Span)
    → globals_in (statements.If xs otherwise span) ≡ branches_globals xs ++ optional_globals otherwise
of_if xs otherwise span =
    ap globals_in (sym (statements.rolls-If xs otherwise span)) ∙ rolled (Statement-F.If xs otherwise span)
    ∙ ap (λ names. names ++ optional_names (mapped_block otherwise)) (branches xs) ∙ ap (λ names. branches_globals xs ++ names) (optional otherwise)
