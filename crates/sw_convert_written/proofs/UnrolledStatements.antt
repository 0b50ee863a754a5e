-- What the definition of a text says of each kind of statement.
use Rattle.std.proofs.Common.{◌≡◌, ℕ, List, ◌++◌, map, Option, Some, None, refl, sym, ◌∙◌, ap}
use Rattle.std.specs.Prelude.{codes, true, false}
use Rattle.sw_text.specs.declared.place.Span.{Span}
use Rattle.sw_tree.specs.declared.callable.Mixin.{Mixin}
use Rattle.sw_tree.specs.declared.text.Text.{Text}
use Rattle.sw_tree.specs.declared.callable.Callable.{Callable, fold-Callable, fold_out-Callable}
use Rattle.sw_tree.specs.declared.callable.Content.{Content, fold-Content, fold_out-Content}
use Rattle.sw_tree.specs.declared.statement.AtRoot.{AtRoot, fold-AtRoot, fold_out-AtRoot}
use Rattle.sw_tree.specs.declared.statement.AtRule.{AtRule, fold-AtRule, fold_out-AtRule}
use Rattle.sw_tree.specs.declared.statement.Branch.{Branch, fold-Branch, fold_out-Branch}
use Rattle.sw_tree.specs.declared.statement.Each.{Each, fold-Each, fold_out-Each}
use Rattle.sw_tree.specs.declared.statement.For.{For, fold-For, fold_out-For}
use Rattle.sw_tree.specs.declared.statement.Media.{Media, fold-Media, fold_out-Media}
use Rattle.sw_tree.specs.declared.statement.Properties.{Properties, fold-Properties, fold_out-Properties}
use Rattle.sw_tree.specs.declared.statement.Rule.{Rule, fold-Rule, fold_out-Rule}
use Rattle.sw_tree.specs.declared.statement.Supports.{Supports, fold-Supports, fold_out-Supports}
use Rattle.sw_tree.specs.declared.statement.While.{While, fold-While, fold_out-While}
use Rattle.sw_tree.specs.declared.statement.Variable.{Variable}
use Rattle.sw_tree.specs.declared.statement.Assignment.{Assignment}
use Rattle.sw_tree.specs.declared.statement.Declaration.{Declaration}
use Rattle.sw_tree.specs.declared.statement.Custom.{Custom}
use Rattle.sw_tree.specs.declared.load.Use.{Use}
use Rattle.sw_tree.specs.declared.load.Forward.{Forward}
use Rattle.sw_tree.specs.declared.statement.ContentCall.{ContentCall}
use Rattle.sw_tree.specs.declared.statement.Return.{Return}
use Rattle.sw_tree.specs.declared.statement.Say.{Say}
use Rattle.sw_tree.specs.declared.statement.Import.{Import}
use Rattle.sw_tree.specs.declared.statement.Extend.{Extend}
use Rattle.sw_tree.specs.declared.statement.Statement.{Statement, roll-Statement, map-Statement, fold-roll-Statement}
use Rattle.sw_tree.specs.declared.statement.Statement.TheOpen.{Statement-F}
use Rattle.sw_tree.specs.declared.statement.Statement.TheShapes.{former-Statement-If-1, former-Statement-Include-1}
use Rattle.sw_tree.specs.declared.statement.Statement.TheVariants as statements
use Rattle.sw_convert_written.specs.Expressions.{expr_text}
use Rattle.sw_convert_written.proofs.Unrolled.{maps_are}
use Rattle.sw_convert_written.specs.Heads.{plain_text, raw_text, queries_text, selector_text, variable_text, assignment_text, declaration_text, custom_text, properties_head, use_text, forward_text, callable_head, content_text, say_text, each_head, for_head, at_root_head, at_rule_head}
use Rattle.sw_convert_written.specs.Statements.{ShownStatement, Blocked, Optional, Passed, block_text, optional_by, optional, include, shown_optional, passed_of, branch_shown, branches_text, otherwise_text, statement_step, callable_step, content_step, at_root_step, at_rule_step, branch_step, each_step, for_step, media_step, properties_step, rule_step, supports_step, while_step, statement_shown}

abbrev by_callable : Callable → Blocked
by_callable = fold-Callable ShownStatement Blocked Passed Blocked Optional Blocked Blocked Blocked Blocked Blocked Blocked Blocked Blocked statement_step callable_step content_step at_root_step at_rule_step branch_step each_step for_step media_step properties_step rule_step supports_step while_step

abbrev by_content : Content → Passed
by_content = fold-Content ShownStatement Blocked Passed Blocked Optional Blocked Blocked Blocked Blocked Blocked Blocked Blocked Blocked statement_step callable_step content_step at_root_step at_rule_step branch_step each_step for_step media_step properties_step rule_step supports_step while_step

abbrev by_at_root : AtRoot → Blocked
by_at_root = fold-AtRoot ShownStatement Blocked Passed Blocked Optional Blocked Blocked Blocked Blocked Blocked Blocked Blocked Blocked statement_step callable_step content_step at_root_step at_rule_step branch_step each_step for_step media_step properties_step rule_step supports_step while_step

abbrev by_at_rule : AtRule → Optional
by_at_rule = fold-AtRule ShownStatement Blocked Passed Blocked Optional Blocked Blocked Blocked Blocked Blocked Blocked Blocked Blocked statement_step callable_step content_step at_root_step at_rule_step branch_step each_step for_step media_step properties_step rule_step supports_step while_step

abbrev by_branch : Branch → Blocked
by_branch = fold-Branch ShownStatement Blocked Passed Blocked Optional Blocked Blocked Blocked Blocked Blocked Blocked Blocked Blocked statement_step callable_step content_step at_root_step at_rule_step branch_step each_step for_step media_step properties_step rule_step supports_step while_step

abbrev by_each : Each → Blocked
by_each = fold-Each ShownStatement Blocked Passed Blocked Optional Blocked Blocked Blocked Blocked Blocked Blocked Blocked Blocked statement_step callable_step content_step at_root_step at_rule_step branch_step each_step for_step media_step properties_step rule_step supports_step while_step

abbrev by_for : For → Blocked
by_for = fold-For ShownStatement Blocked Passed Blocked Optional Blocked Blocked Blocked Blocked Blocked Blocked Blocked Blocked statement_step callable_step content_step at_root_step at_rule_step branch_step each_step for_step media_step properties_step rule_step supports_step while_step

abbrev by_media : Media → Blocked
by_media = fold-Media ShownStatement Blocked Passed Blocked Optional Blocked Blocked Blocked Blocked Blocked Blocked Blocked Blocked statement_step callable_step content_step at_root_step at_rule_step branch_step each_step for_step media_step properties_step rule_step supports_step while_step

abbrev by_properties : Properties → Blocked
by_properties = fold-Properties ShownStatement Blocked Passed Blocked Optional Blocked Blocked Blocked Blocked Blocked Blocked Blocked Blocked statement_step callable_step content_step at_root_step at_rule_step branch_step each_step for_step media_step properties_step rule_step supports_step while_step

abbrev by_rule : Rule → Blocked
by_rule = fold-Rule ShownStatement Blocked Passed Blocked Optional Blocked Blocked Blocked Blocked Blocked Blocked Blocked Blocked statement_step callable_step content_step at_root_step at_rule_step branch_step each_step for_step media_step properties_step rule_step supports_step while_step

abbrev by_supports : Supports → Blocked
by_supports = fold-Supports ShownStatement Blocked Passed Blocked Optional Blocked Blocked Blocked Blocked Blocked Blocked Blocked Blocked statement_step callable_step content_step at_root_step at_rule_step branch_step each_step for_step media_step properties_step rule_step supports_step while_step

abbrev by_while : While → Blocked
by_while = fold-While ShownStatement Blocked Passed Blocked Optional Blocked Blocked Blocked Blocked Blocked Blocked Blocked Blocked statement_step callable_step content_step at_root_step at_rule_step branch_step each_step for_step media_step properties_step rule_step supports_step while_step

abbrev mapped_block : Option (List Statement) → Option (List ShownStatement)
mapped_block = former-Statement-If-1.map Statement ShownStatement statement_shown

optional_is : (block : Option (List Statement)) → mapped_block block ≡ shown_optional block
optional_is None = refl
optional_is (Some block) = refl

callable_is : (x : Callable) → by_callable x ≡ record { head = callable_head x.kind x.name x.params; inner = map statement_shown x.block }
unfolding statement_shown
callable_is x = fold_out-Callable ShownStatement Blocked Passed Blocked Optional Blocked Blocked Blocked Blocked Blocked Blocked Blocked Blocked statement_step callable_step content_step at_root_step at_rule_step branch_step each_step for_step media_step properties_step rule_step supports_step while_step x

content_is : (x : Content) → by_content x ≡ record { params = x.params; inner = map statement_shown x.block }
unfolding statement_shown
content_is x = fold_out-Content ShownStatement Blocked Passed Blocked Optional Blocked Blocked Blocked Blocked Blocked Blocked Blocked Blocked statement_step callable_step content_step at_root_step at_rule_step branch_step each_step for_step media_step properties_step rule_step supports_step while_step x

at_root_is : (x : AtRoot) → by_at_root x ≡ record { head = at_root_head x.selector; inner = map statement_shown x.block }
unfolding statement_shown
at_root_is x = fold_out-AtRoot ShownStatement Blocked Passed Blocked Optional Blocked Blocked Blocked Blocked Blocked Blocked Blocked Blocked statement_step callable_step content_step at_root_step at_rule_step branch_step each_step for_step media_step properties_step rule_step supports_step while_step x

at_rule_is : (x : AtRule) → by_at_rule x ≡ record { head = at_rule_head x.name x.prelude; inner = shown_optional x.block }
unfolding statement_shown
at_rule_is x = fold_out-AtRule ShownStatement Blocked Passed Blocked Optional Blocked Blocked Blocked Blocked Blocked Blocked Blocked Blocked statement_step callable_step content_step at_root_step at_rule_step branch_step each_step for_step media_step properties_step rule_step supports_step while_step x
    ∙ ap (λ (inner : Option (List ShownStatement)). record { head = at_rule_head x.name x.prelude; inner = inner }) (optional_is x.block)

branch_is : (x : Branch) → by_branch x ≡ record { head = expr_text x.condition; inner = map statement_shown x.block }
unfolding statement_shown
branch_is x = fold_out-Branch ShownStatement Blocked Passed Blocked Optional Blocked Blocked Blocked Blocked Blocked Blocked Blocked Blocked statement_step callable_step content_step at_root_step at_rule_step branch_step each_step for_step media_step properties_step rule_step supports_step while_step x

each_is : (x : Each) → by_each x ≡ record { head = each_head x.names x.value; inner = map statement_shown x.block }
unfolding statement_shown
each_is x = fold_out-Each ShownStatement Blocked Passed Blocked Optional Blocked Blocked Blocked Blocked Blocked Blocked Blocked Blocked statement_step callable_step content_step at_root_step at_rule_step branch_step each_step for_step media_step properties_step rule_step supports_step while_step x

for_is : (x : For) → by_for x ≡ record { head = for_head x.name x.bounds; inner = map statement_shown x.block }
unfolding statement_shown
for_is x = fold_out-For ShownStatement Blocked Passed Blocked Optional Blocked Blocked Blocked Blocked Blocked Blocked Blocked Blocked statement_step callable_step content_step at_root_step at_rule_step branch_step each_step for_step media_step properties_step rule_step supports_step while_step x

media_is : (x : Media) → by_media x ≡ record { head = codes "@media " ++ queries_text x.queries; inner = map statement_shown x.block }
unfolding statement_shown
media_is x = fold_out-Media ShownStatement Blocked Passed Blocked Optional Blocked Blocked Blocked Blocked Blocked Blocked Blocked Blocked statement_step callable_step content_step at_root_step at_rule_step branch_step each_step for_step media_step properties_step rule_step supports_step while_step x

properties_is : (x : Properties) → by_properties x ≡ record { head = properties_head x.property x.value; inner = map statement_shown x.block }
unfolding statement_shown
properties_is x = fold_out-Properties ShownStatement Blocked Passed Blocked Optional Blocked Blocked Blocked Blocked Blocked Blocked Blocked Blocked statement_step callable_step content_step at_root_step at_rule_step branch_step each_step for_step media_step properties_step rule_step supports_step while_step x

rule_is : (x : Rule) → by_rule x ≡ record { head = selector_text x.selector; inner = map statement_shown x.block }
unfolding statement_shown
rule_is x = fold_out-Rule ShownStatement Blocked Passed Blocked Optional Blocked Blocked Blocked Blocked Blocked Blocked Blocked Blocked statement_step callable_step content_step at_root_step at_rule_step branch_step each_step for_step media_step properties_step rule_step supports_step while_step x

supports_is : (x : Supports) → by_supports x ≡ record { head = codes "@supports " ++ raw_text x.condition; inner = map statement_shown x.block }
unfolding statement_shown
supports_is x = fold_out-Supports ShownStatement Blocked Passed Blocked Optional Blocked Blocked Blocked Blocked Blocked Blocked Blocked Blocked statement_step callable_step content_step at_root_step at_rule_step branch_step each_step for_step media_step properties_step rule_step supports_step while_step x

while_is : (x : While) → by_while x ≡ record { head = codes "@while " ++ expr_text x.condition; inner = map statement_shown x.block }
unfolding statement_shown
while_is x = fold_out-While ShownStatement Blocked Passed Blocked Optional Blocked Blocked Blocked Blocked Blocked Blocked Blocked Blocked statement_step callable_step content_step at_root_step at_rule_step branch_step each_step for_step media_step properties_step rule_step supports_step while_step x

abbrev mapped : Statement-F Statement Callable Content AtRoot AtRule Branch Each For Media Properties Rule Supports While → Statement-F ShownStatement Blocked Passed Blocked Optional Blocked Blocked Blocked Blocked Blocked Blocked Blocked Blocked
mapped = map-Statement Statement Callable Content AtRoot AtRule Branch Each For Media Properties Rule Supports While ShownStatement Blocked Passed Blocked Optional Blocked Blocked Blocked Blocked Blocked Blocked Blocked Blocked statement_shown by_callable by_content by_at_root by_at_rule by_branch by_each by_for by_media by_properties by_rule by_supports by_while

rolled : (d : Statement-F Statement Callable Content AtRoot AtRule Branch Each For Media Properties Rule Supports While) → statement_shown (roll-Statement d) ≡ statement_step (mapped d)
unfolding statement_shown
rolled d = fold-roll-Statement ShownStatement Blocked Passed Blocked Optional Blocked Blocked Blocked Blocked Blocked Blocked Blocked Blocked statement_step callable_step content_step at_root_step at_rule_step branch_step each_step for_step media_step properties_step rule_step supports_step while_step d

-- ---- statements without a block

pub variable_line : (x : Variable) (level : ℕ) → (statement_shown (statements.Variable x)).text level ≡ (variable_text x) ++ codes ";\n"
variable_line x level = ap (λ k. (statement_shown k).text level) (sym (statements.rolls-Variable x)) ∙ ap (λ (s : ShownStatement). s.text level) (rolled (Statement-F.Variable x))

pub variable_flat : (x : Variable) → (statement_shown (statements.Variable x)).block ≡ false
variable_flat x = ap (λ k. (statement_shown k).block) (sym (statements.rolls-Variable x)) ∙ ap (λ (s : ShownStatement). s.block) (rolled (Statement-F.Variable x))

pub assignment_line : (x : Assignment) (level : ℕ) → (statement_shown (statements.Assignment x)).text level ≡ (assignment_text x) ++ codes ";\n"
assignment_line x level = ap (λ k. (statement_shown k).text level) (sym (statements.rolls-Assignment x)) ∙ ap (λ (s : ShownStatement). s.text level) (rolled (Statement-F.Assignment x))

pub assignment_flat : (x : Assignment) → (statement_shown (statements.Assignment x)).block ≡ false
assignment_flat x = ap (λ k. (statement_shown k).block) (sym (statements.rolls-Assignment x)) ∙ ap (λ (s : ShownStatement). s.block) (rolled (Statement-F.Assignment x))

pub declaration_line : (x : Declaration) (level : ℕ) → (statement_shown (statements.Declaration x)).text level ≡ (declaration_text x) ++ codes ";\n"
declaration_line x level = ap (λ k. (statement_shown k).text level) (sym (statements.rolls-Declaration x)) ∙ ap (λ (s : ShownStatement). s.text level) (rolled (Statement-F.Declaration x))

pub declaration_flat : (x : Declaration) → (statement_shown (statements.Declaration x)).block ≡ false
declaration_flat x = ap (λ k. (statement_shown k).block) (sym (statements.rolls-Declaration x)) ∙ ap (λ (s : ShownStatement). s.block) (rolled (Statement-F.Declaration x))

pub custom_line : (x : Custom) (level : ℕ) → (statement_shown (statements.Custom x)).text level ≡ (custom_text x) ++ codes ";\n"
custom_line x level = ap (λ k. (statement_shown k).text level) (sym (statements.rolls-Custom x)) ∙ ap (λ (s : ShownStatement). s.text level) (rolled (Statement-F.Custom x))

pub custom_flat : (x : Custom) → (statement_shown (statements.Custom x)).block ≡ false
custom_flat x = ap (λ k. (statement_shown k).block) (sym (statements.rolls-Custom x)) ∙ ap (λ (s : ShownStatement). s.block) (rolled (Statement-F.Custom x))

pub use_line : (x : Use) (level : ℕ) → (statement_shown (statements.Use x)).text level ≡ (use_text x) ++ codes ";\n"
use_line x level = ap (λ k. (statement_shown k).text level) (sym (statements.rolls-Use x)) ∙ ap (λ (s : ShownStatement). s.text level) (rolled (Statement-F.Use x))

pub use_flat : (x : Use) → (statement_shown (statements.Use x)).block ≡ false
use_flat x = ap (λ k. (statement_shown k).block) (sym (statements.rolls-Use x)) ∙ ap (λ (s : ShownStatement). s.block) (rolled (Statement-F.Use x))

pub forward_line : (x : Forward) (level : ℕ) → (statement_shown (statements.Forward x)).text level ≡ (forward_text x) ++ codes ";\n"
forward_line x level = ap (λ k. (statement_shown k).text level) (sym (statements.rolls-Forward x)) ∙ ap (λ (s : ShownStatement). s.text level) (rolled (Statement-F.Forward x))

pub forward_flat : (x : Forward) → (statement_shown (statements.Forward x)).block ≡ false
forward_flat x = ap (λ k. (statement_shown k).block) (sym (statements.rolls-Forward x)) ∙ ap (λ (s : ShownStatement). s.block) (rolled (Statement-F.Forward x))

pub content_line : (x : ContentCall) (level : ℕ) → (statement_shown (statements.Content x)).text level ≡ (content_text x) ++ codes ";\n"
content_line x level = ap (λ k. (statement_shown k).text level) (sym (statements.rolls-Content x)) ∙ ap (λ (s : ShownStatement). s.text level) (rolled (Statement-F.Content x))

pub content_flat : (x : ContentCall) → (statement_shown (statements.Content x)).block ≡ false
content_flat x = ap (λ k. (statement_shown k).block) (sym (statements.rolls-Content x)) ∙ ap (λ (s : ShownStatement). s.block) (rolled (Statement-F.Content x))

pub return_line : (x : Return) (level : ℕ) → (statement_shown (statements.Return x)).text level ≡ (codes "@return " ++ expr_text x.value) ++ codes ";\n"
return_line x level = ap (λ k. (statement_shown k).text level) (sym (statements.rolls-Return x)) ∙ ap (λ (s : ShownStatement). s.text level) (rolled (Statement-F.Return x))

pub return_flat : (x : Return) → (statement_shown (statements.Return x)).block ≡ false
return_flat x = ap (λ k. (statement_shown k).block) (sym (statements.rolls-Return x)) ∙ ap (λ (s : ShownStatement). s.block) (rolled (Statement-F.Return x))

pub say_line : (x : Say) (level : ℕ) → (statement_shown (statements.Say x)).text level ≡ (say_text x) ++ codes ";\n"
say_line x level = ap (λ k. (statement_shown k).text level) (sym (statements.rolls-Say x)) ∙ ap (λ (s : ShownStatement). s.text level) (rolled (Statement-F.Say x))

pub say_flat : (x : Say) → (statement_shown (statements.Say x)).block ≡ false
say_flat x = ap (λ k. (statement_shown k).block) (sym (statements.rolls-Say x)) ∙ ap (λ (s : ShownStatement). s.block) (rolled (Statement-F.Say x))

pub import_line : (x : Import) (level : ℕ) → (statement_shown (statements.Import x)).text level ≡ (codes "@import " ++ raw_text x.text) ++ codes ";\n"
import_line x level = ap (λ k. (statement_shown k).text level) (sym (statements.rolls-Import x)) ∙ ap (λ (s : ShownStatement). s.text level) (rolled (Statement-F.Import x))

pub import_flat : (x : Import) → (statement_shown (statements.Import x)).block ≡ false
import_flat x = ap (λ k. (statement_shown k).block) (sym (statements.rolls-Import x)) ∙ ap (λ (s : ShownStatement). s.block) (rolled (Statement-F.Import x))

pub extend_line : (x : Extend) (level : ℕ) → (statement_shown (statements.Extend x)).text level ≡ (codes "@extend " ++ raw_text x.text) ++ codes ";\n"
extend_line x level = ap (λ k. (statement_shown k).text level) (sym (statements.rolls-Extend x)) ∙ ap (λ (s : ShownStatement). s.text level) (rolled (Statement-F.Extend x))

pub extend_flat : (x : Extend) → (statement_shown (statements.Extend x)).block ≡ false
extend_flat x = ap (λ k. (statement_shown k).block) (sym (statements.rolls-Extend x)) ∙ ap (λ (s : ShownStatement). s.block) (rolled (Statement-F.Extend x))

pub charset_line : (x : Span) (level : ℕ) → (statement_shown (statements.Charset x)).text level ≡ codes "@charset \"UTF-8\"" ++ codes ";\n"
charset_line x level = ap (λ k. (statement_shown k).text level) (sym (statements.rolls-Charset x)) ∙ ap (λ (s : ShownStatement). s.text level) (rolled (Statement-F.Charset x))

pub charset_flat : (x : Span) → (statement_shown (statements.Charset x)).block ≡ false
charset_flat x = ap (λ k. (statement_shown k).block) (sym (statements.rolls-Charset x)) ∙ ap (λ (s : ShownStatement). s.block) (rolled (Statement-F.Charset x))

pub comment_line : (x : Text) (level : ℕ) → (statement_shown (statements.Comment x)).text level ≡ plain_text x ++ codes "\n"
comment_line x level = ap (λ k. (statement_shown k).text level) (sym (statements.rolls-Comment x)) ∙ ap (λ (s : ShownStatement). s.text level) (rolled (Statement-F.Comment x))

pub comment_flat : (x : Text) → (statement_shown (statements.Comment x)).block ≡ false
comment_flat x = ap (λ k. (statement_shown k).block) (sym (statements.rolls-Comment x)) ∙ ap (λ (s : ShownStatement). s.block) (rolled (Statement-F.Comment x))

-- ---- statements with a block

pub callable_lines : (x : Callable) (level : ℕ) → (statement_shown (statements.Callable x)).text level ≡ block_text level (callable_head x.kind x.name x.params) (map statement_shown x.block)
callable_lines x level =
    ap (λ k. (statement_shown k).text level) (sym (statements.rolls-Callable x)) ∙ ap (λ (s : ShownStatement). s.text level) (rolled (Statement-F.Callable x))
    ∙ ap (λ (b : Blocked). block_text level b.head b.inner) (callable_is x)

pub callable_nests : (x : Callable) → (statement_shown (statements.Callable x)).block ≡ true
callable_nests x = ap (λ k. (statement_shown k).block) (sym (statements.rolls-Callable x)) ∙ ap (λ (s : ShownStatement). s.block) (rolled (Statement-F.Callable x))

pub at_root_lines : (x : AtRoot) (level : ℕ) → (statement_shown (statements.AtRoot x)).text level ≡ block_text level (at_root_head x.selector) (map statement_shown x.block)
at_root_lines x level =
    ap (λ k. (statement_shown k).text level) (sym (statements.rolls-AtRoot x)) ∙ ap (λ (s : ShownStatement). s.text level) (rolled (Statement-F.AtRoot x))
    ∙ ap (λ (b : Blocked). block_text level b.head b.inner) (at_root_is x)

pub at_root_nests : (x : AtRoot) → (statement_shown (statements.AtRoot x)).block ≡ true
at_root_nests x = ap (λ k. (statement_shown k).block) (sym (statements.rolls-AtRoot x)) ∙ ap (λ (s : ShownStatement). s.block) (rolled (Statement-F.AtRoot x))

pub each_lines : (x : Each) (level : ℕ) → (statement_shown (statements.Each x)).text level ≡ block_text level (each_head x.names x.value) (map statement_shown x.block)
each_lines x level =
    ap (λ k. (statement_shown k).text level) (sym (statements.rolls-Each x)) ∙ ap (λ (s : ShownStatement). s.text level) (rolled (Statement-F.Each x))
    ∙ ap (λ (b : Blocked). block_text level b.head b.inner) (each_is x)

pub each_nests : (x : Each) → (statement_shown (statements.Each x)).block ≡ true
each_nests x = ap (λ k. (statement_shown k).block) (sym (statements.rolls-Each x)) ∙ ap (λ (s : ShownStatement). s.block) (rolled (Statement-F.Each x))

pub for_lines : (x : For) (level : ℕ) → (statement_shown (statements.For x)).text level ≡ block_text level (for_head x.name x.bounds) (map statement_shown x.block)
for_lines x level =
    ap (λ k. (statement_shown k).text level) (sym (statements.rolls-For x)) ∙ ap (λ (s : ShownStatement). s.text level) (rolled (Statement-F.For x))
    ∙ ap (λ (b : Blocked). block_text level b.head b.inner) (for_is x)

pub for_nests : (x : For) → (statement_shown (statements.For x)).block ≡ true
for_nests x = ap (λ k. (statement_shown k).block) (sym (statements.rolls-For x)) ∙ ap (λ (s : ShownStatement). s.block) (rolled (Statement-F.For x))

pub media_lines : (x : Media) (level : ℕ) → (statement_shown (statements.Media x)).text level ≡ block_text level (codes "@media " ++ queries_text x.queries) (map statement_shown x.block)
media_lines x level =
    ap (λ k. (statement_shown k).text level) (sym (statements.rolls-Media x)) ∙ ap (λ (s : ShownStatement). s.text level) (rolled (Statement-F.Media x))
    ∙ ap (λ (b : Blocked). block_text level b.head b.inner) (media_is x)

pub media_nests : (x : Media) → (statement_shown (statements.Media x)).block ≡ true
media_nests x = ap (λ k. (statement_shown k).block) (sym (statements.rolls-Media x)) ∙ ap (λ (s : ShownStatement). s.block) (rolled (Statement-F.Media x))

pub properties_lines : (x : Properties) (level : ℕ) → (statement_shown (statements.Properties x)).text level ≡ block_text level (properties_head x.property x.value) (map statement_shown x.block)
properties_lines x level =
    ap (λ k. (statement_shown k).text level) (sym (statements.rolls-Properties x)) ∙ ap (λ (s : ShownStatement). s.text level) (rolled (Statement-F.Properties x))
    ∙ ap (λ (b : Blocked). block_text level b.head b.inner) (properties_is x)

pub properties_nests : (x : Properties) → (statement_shown (statements.Properties x)).block ≡ true
properties_nests x = ap (λ k. (statement_shown k).block) (sym (statements.rolls-Properties x)) ∙ ap (λ (s : ShownStatement). s.block) (rolled (Statement-F.Properties x))

pub rule_lines : (x : Rule) (level : ℕ) → (statement_shown (statements.Rule x)).text level ≡ block_text level (selector_text x.selector) (map statement_shown x.block)
rule_lines x level =
    ap (λ k. (statement_shown k).text level) (sym (statements.rolls-Rule x)) ∙ ap (λ (s : ShownStatement). s.text level) (rolled (Statement-F.Rule x))
    ∙ ap (λ (b : Blocked). block_text level b.head b.inner) (rule_is x)

pub rule_nests : (x : Rule) → (statement_shown (statements.Rule x)).block ≡ true
rule_nests x = ap (λ k. (statement_shown k).block) (sym (statements.rolls-Rule x)) ∙ ap (λ (s : ShownStatement). s.block) (rolled (Statement-F.Rule x))

pub supports_lines : (x : Supports) (level : ℕ) → (statement_shown (statements.Supports x)).text level ≡ block_text level (codes "@supports " ++ raw_text x.condition) (map statement_shown x.block)
supports_lines x level =
    ap (λ k. (statement_shown k).text level) (sym (statements.rolls-Supports x)) ∙ ap (λ (s : ShownStatement). s.text level) (rolled (Statement-F.Supports x))
    ∙ ap (λ (b : Blocked). block_text level b.head b.inner) (supports_is x)

pub supports_nests : (x : Supports) → (statement_shown (statements.Supports x)).block ≡ true
supports_nests x = ap (λ k. (statement_shown k).block) (sym (statements.rolls-Supports x)) ∙ ap (λ (s : ShownStatement). s.block) (rolled (Statement-F.Supports x))

pub while_lines : (x : While) (level : ℕ) → (statement_shown (statements.While x)).text level ≡ block_text level (codes "@while " ++ expr_text x.condition) (map statement_shown x.block)
while_lines x level =
    ap (λ k. (statement_shown k).text level) (sym (statements.rolls-While x)) ∙ ap (λ (s : ShownStatement). s.text level) (rolled (Statement-F.While x))
    ∙ ap (λ (b : Blocked). block_text level b.head b.inner) (while_is x)

pub while_nests : (x : While) → (statement_shown (statements.While x)).block ≡ true
while_nests x = ap (λ k. (statement_shown k).block) (sym (statements.rolls-While x)) ∙ ap (λ (s : ShownStatement). s.block) (rolled (Statement-F.While x))

pub at_rule_lines : (x : AtRule) (level : ℕ)
    → (statement_shown (statements.AtRule x)).text level ≡ (optional_by (at_rule_head x.name x.prelude) (shown_optional x.block)).text level
at_rule_lines x level =
    ap (λ k. (statement_shown k).text level) (sym (statements.rolls-AtRule x)) ∙ ap (λ (s : ShownStatement). s.text level) (rolled (Statement-F.AtRule x))
    ∙ ap (λ (o : Optional). (optional o).text level) (at_rule_is x)

pub at_rule_block : (x : AtRule) → (statement_shown (statements.AtRule x)).block ≡ (optional_by (at_rule_head x.name x.prelude) (shown_optional x.block)).block
at_rule_block x =
    ap (λ k. (statement_shown k).block) (sym (statements.rolls-AtRule x)) ∙ ap (λ (s : ShownStatement). s.block) (rolled (Statement-F.AtRule x))
    ∙ ap (λ (o : Optional). (optional o).block) (at_rule_is x)

abbrev mapped_content : Option Content → Option Passed
mapped_content = former-Statement-Include-1.map Content Passed by_content

passed_is : (x : Option Content) → mapped_content x ≡ passed_of x
passed_is None = refl
passed_is (Some x) = ap (λ (p : Passed). Some p) (content_is x)

pub include_lines : (mixin : Mixin) (x : Option Content) (span : Span) (level : ℕ)
    → (statement_shown (statements.Include mixin x span)).text level ≡ (include mixin (passed_of x)).text level
include_lines mixin x span level =
    ap (λ k. (statement_shown k).text level) (sym (statements.rolls-Include mixin x span))
    ∙ ap (λ (s : ShownStatement). s.text level) (rolled (Statement-F.Include mixin x span))
    ∙ ap (λ (p : Option Passed). (include mixin p).text level) (passed_is x)

pub include_block : (mixin : Mixin) (x : Option Content) (span : Span)
    → (statement_shown (statements.Include mixin x span)).block ≡ (include mixin (passed_of x)).block
include_block mixin x span =
    ap (λ k. (statement_shown k).block) (sym (statements.rolls-Include mixin x span))
    ∙ ap (λ (s : ShownStatement). s.block) (rolled (Statement-F.Include mixin x span))
    ∙ ap (λ (p : Option Passed). (include mixin p).block) (passed_is x)

pub if_lines : (xs : List Branch) (otherwise : Option (List Statement)) (span : Span) (level : ℕ)
    → (statement_shown (statements.If xs otherwise span)).text level
    ≡ branches_text level true (map branch_shown xs) ++ otherwise_text level (shown_optional otherwise)
if_lines xs otherwise span level =
    ap (λ k. (statement_shown k).text level) (sym (statements.rolls-If xs otherwise span))
    ∙ ap (λ (s : ShownStatement). s.text level) (rolled (Statement-F.If xs otherwise span))
    ∙ ap (λ (bs : List Blocked). branches_text level true bs ++ otherwise_text level (mapped_block otherwise)) (maps_are by_branch branch_shown branch_is xs)
    ∙ ap (λ (b : Option (List ShownStatement)). branches_text level true (map branch_shown xs) ++ otherwise_text level b) (optional_is otherwise)

pub if_nests : (xs : List Branch) (otherwise : Option (List Statement)) (span : Span) → (statement_shown (statements.If xs otherwise span)).block ≡ true
if_nests xs otherwise span =
    ap (λ k. (statement_shown k).block) (sym (statements.rolls-If xs otherwise span))
    ∙ ap (λ (s : ShownStatement). s.block) (rolled (Statement-F.If xs otherwise span))
