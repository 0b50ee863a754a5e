-- What the definition of the text in lines says of each kind of statement.
use Rattle.std.proofs.Common.{◌≡◌, ℕ, List, ◌++◌, map, Option, Some, None, refl, sym, ◌∙◌, ap}
use Rattle.std.specs.Prelude.{codes}
use Rattle.sw_text.specs.declared.place.Span.{Span}
use Rattle.sw_tree.specs.declared.callable.Mixin.{Mixin}
use Rattle.sw_tree.specs.declared.text.Text.{Text}
use Rattle.sw_tree.specs.declared.callable.Callable.{Callable, fold-Callable, fold_out-Callable}
use Rattle.sw_tree.specs.declared.callable.Content.{Content, fold-Content, fold_out-Content}
use Rattle.sw_tree.specs.declared.statement.AtRoot.{AtRoot, fold-AtRoot, fold_out-AtRoot}
use Rattle.sw_tree.specs.declared.statement.AtRule.{AtRule, fold-AtRule, fold_out-AtRule}
use Rattle.sw_tree.specs.declared.statement.Branch.{Branch, fold-Branch, fold_out-Branch}
use Rattle.sw_tree.specs.declared.statement.Each.{Each, fold-Each, fold_out-Each}
use Rattle.sw_tree.specs.declared.statement.For.{For, fold-For, fold_out-For}
use Rattle.sw_tree.specs.declared.statement.Media.{Media, fold-Media, fold_out-Media}
use Rattle.sw_tree.specs.declared.statement.Properties.{Properties, fold-Properties, fold_out-Properties}
use Rattle.sw_tree.specs.declared.statement.Rule.{Rule, fold-Rule, fold_out-Rule}
use Rattle.sw_tree.specs.declared.statement.Supports.{Supports, fold-Supports, fold_out-Supports}
use Rattle.sw_tree.specs.declared.statement.While.{While, fold-While, fold_out-While}
use Rattle.sw_tree.specs.declared.statement.Variable.{Variable}
use Rattle.sw_tree.specs.declared.statement.Assignment.{Assignment}
use Rattle.sw_tree.specs.declared.statement.Declaration.{Declaration}
use Rattle.sw_tree.specs.declared.statement.Custom.{Custom}
use Rattle.sw_tree.specs.declared.load.Use.{Use}
use Rattle.sw_tree.specs.declared.load.Forward.{Forward}
use Rattle.sw_tree.specs.declared.statement.ContentCall.{ContentCall}
use Rattle.sw_tree.specs.declared.statement.Return.{Return}
use Rattle.sw_tree.specs.declared.statement.Say.{Say}
use Rattle.sw_tree.specs.declared.statement.Import.{Import}
use Rattle.sw_tree.specs.declared.statement.Extend.{Extend}
use Rattle.sw_tree.specs.declared.statement.Statement.{Statement, roll-Statement, map-Statement, fold-roll-Statement}
use Rattle.sw_tree.specs.declared.statement.Statement.TheOpen.{Statement-F}
use Rattle.sw_tree.specs.declared.statement.Statement.TheShapes.{former-Statement-If-1, former-Statement-Include-1}
use Rattle.sw_tree.specs.declared.statement.Statement.TheVariants as statements
use Rattle.sw_convert_written.specs.Expressions.{expr_text}
use Rattle.sw_convert_written.proofs.Unrolled.{maps_are}
use Rattle.sw_convert_written.specs.Heads.{queries_text, variable_text, assignment_text, declaration_text, properties_head, use_text, forward_text, callable_head, content_text, say_text, each_head, for_head}
use Rattle.sw_convert_lines.specs.RawTexts.{line_text}
use Rattle.sw_convert_lines.specs.Comments.{comment_lines}
use Rattle.sw_convert_lines.specs.Layout.{Shown, line}
use Rattle.sw_convert_lines.specs.Lines.{Whole, Condition, Optional, Passed, head_of, charset_text, selector_head, custom_head, at_root_line, at_rule_line, whole, whole_of, optional_by, include, conditions, comment, statement_step, callable_step, content_step, at_root_step, at_rule_step, branch_step, each_step, for_step, media_step, properties_step, rule_step, supports_step, while_step, in_lines, optional_lines, passed_of, condition_of}

abbrev by_callable : Callable → Whole
by_callable = fold-Callable Shown Whole Passed Whole Optional Condition Whole Whole Whole Whole Whole Whole Whole statement_step callable_step content_step at_root_step at_rule_step branch_step each_step for_step media_step properties_step rule_step supports_step while_step

abbrev by_content : Content → Passed
by_content = fold-Content Shown Whole Passed Whole Optional Condition Whole Whole Whole Whole Whole Whole Whole statement_step callable_step content_step at_root_step at_rule_step branch_step each_step for_step media_step properties_step rule_step supports_step while_step

abbrev by_at_root : AtRoot → Whole
by_at_root = fold-AtRoot Shown Whole Passed Whole Optional Condition Whole Whole Whole Whole Whole Whole Whole statement_step callable_step content_step at_root_step at_rule_step branch_step each_step for_step media_step properties_step rule_step supports_step while_step

abbrev by_at_rule : AtRule → Optional
by_at_rule = fold-AtRule Shown Whole Passed Whole Optional Condition Whole Whole Whole Whole Whole Whole Whole statement_step callable_step content_step at_root_step at_rule_step branch_step each_step for_step media_step properties_step rule_step supports_step while_step

abbrev by_branch : Branch → Condition
by_branch = fold-Branch Shown Whole Passed Whole Optional Condition Whole Whole Whole Whole Whole Whole Whole statement_step callable_step content_step at_root_step at_rule_step branch_step each_step for_step media_step properties_step rule_step supports_step while_step

abbrev by_each : Each → Whole
by_each = fold-Each Shown Whole Passed Whole Optional Condition Whole Whole Whole Whole Whole Whole Whole statement_step callable_step content_step at_root_step at_rule_step branch_step each_step for_step media_step properties_step rule_step supports_step while_step

abbrev by_for : For → Whole
by_for = fold-For Shown Whole Passed Whole Optional Condition Whole Whole Whole Whole Whole Whole Whole statement_step callable_step content_step at_root_step at_rule_step branch_step each_step for_step media_step properties_step rule_step supports_step while_step

abbrev by_media : Media → Whole
by_media = fold-Media Shown Whole Passed Whole Optional Condition Whole Whole Whole Whole Whole Whole Whole statement_step callable_step content_step at_root_step at_rule_step branch_step each_step for_step media_step properties_step rule_step supports_step while_step

abbrev by_properties : Properties → Whole
by_properties = fold-Properties Shown Whole Passed Whole Optional Condition Whole Whole Whole Whole Whole Whole Whole statement_step callable_step content_step at_root_step at_rule_step branch_step each_step for_step media_step properties_step rule_step supports_step while_step

abbrev by_rule : Rule → Whole
by_rule = fold-Rule Shown Whole Passed Whole Optional Condition Whole Whole Whole Whole Whole Whole Whole statement_step callable_step content_step at_root_step at_rule_step branch_step each_step for_step media_step properties_step rule_step supports_step while_step

abbrev by_supports : Supports → Whole
by_supports = fold-Supports Shown Whole Passed Whole Optional Condition Whole Whole Whole Whole Whole Whole Whole statement_step callable_step content_step at_root_step at_rule_step branch_step each_step for_step media_step properties_step rule_step supports_step while_step

abbrev by_while : While → Whole
by_while = fold-While Shown Whole Passed Whole Optional Condition Whole Whole Whole Whole Whole Whole Whole statement_step callable_step content_step at_root_step at_rule_step branch_step each_step for_step media_step properties_step rule_step supports_step while_step

abbrev mapped_block : Option (List Statement) → Option (List Shown)
mapped_block = former-Statement-If-1.map Statement Shown in_lines

optional_is : (block : Option (List Statement)) → mapped_block block ≡ optional_lines block
optional_is None = refl
optional_is (Some block) = refl

callable_is : (x : Callable) → by_callable x ≡ whole_of x.span (callable_head x.kind x.name x.params) (map in_lines x.block)
unfolding in_lines
callable_is x = fold_out-Callable Shown Whole Passed Whole Optional Condition Whole Whole Whole Whole Whole Whole Whole statement_step callable_step content_step at_root_step at_rule_step branch_step each_step for_step media_step properties_step rule_step supports_step while_step x

at_root_is : (x : AtRoot) → by_at_root x ≡ whole_of x.span (at_root_line x.selector) (map in_lines x.block)
unfolding in_lines
at_root_is x = fold_out-AtRoot Shown Whole Passed Whole Optional Condition Whole Whole Whole Whole Whole Whole Whole statement_step callable_step content_step at_root_step at_rule_step branch_step each_step for_step media_step properties_step rule_step supports_step while_step x

each_is : (x : Each) → by_each x ≡ whole_of x.span (each_head x.names x.value) (map in_lines x.block)
unfolding in_lines
each_is x = fold_out-Each Shown Whole Passed Whole Optional Condition Whole Whole Whole Whole Whole Whole Whole statement_step callable_step content_step at_root_step at_rule_step branch_step each_step for_step media_step properties_step rule_step supports_step while_step x

for_is : (x : For) → by_for x ≡ whole_of x.span (for_head x.name x.bounds) (map in_lines x.block)
unfolding in_lines
for_is x = fold_out-For Shown Whole Passed Whole Optional Condition Whole Whole Whole Whole Whole Whole Whole statement_step callable_step content_step at_root_step at_rule_step branch_step each_step for_step media_step properties_step rule_step supports_step while_step x

media_is : (x : Media) → by_media x ≡ whole_of x.span (codes "@media " ++ queries_text x.queries) (map in_lines x.block)
unfolding in_lines
media_is x = fold_out-Media Shown Whole Passed Whole Optional Condition Whole Whole Whole Whole Whole Whole Whole statement_step callable_step content_step at_root_step at_rule_step branch_step each_step for_step media_step properties_step rule_step supports_step while_step x

properties_is : (x : Properties) → by_properties x ≡ whole_of x.span (properties_head x.property x.value) (map in_lines x.block)
unfolding in_lines
properties_is x = fold_out-Properties Shown Whole Passed Whole Optional Condition Whole Whole Whole Whole Whole Whole Whole statement_step callable_step content_step at_root_step at_rule_step branch_step each_step for_step media_step properties_step rule_step supports_step while_step x

rule_is : (x : Rule) → by_rule x ≡ record { span = x.span; one = record { head = selector_head x.selector; inner = map in_lines x.block } }
unfolding in_lines
rule_is x = fold_out-Rule Shown Whole Passed Whole Optional Condition Whole Whole Whole Whole Whole Whole Whole statement_step callable_step content_step at_root_step at_rule_step branch_step each_step for_step media_step properties_step rule_step supports_step while_step x

supports_is : (x : Supports) → by_supports x ≡ whole_of x.span (codes "@supports " ++ line_text x.condition) (map in_lines x.block)
unfolding in_lines
supports_is x = fold_out-Supports Shown Whole Passed Whole Optional Condition Whole Whole Whole Whole Whole Whole Whole statement_step callable_step content_step at_root_step at_rule_step branch_step each_step for_step media_step properties_step rule_step supports_step while_step x

while_is : (x : While) → by_while x ≡ whole_of x.span (codes "@while " ++ expr_text x.condition) (map in_lines x.block)
unfolding in_lines
while_is x = fold_out-While Shown Whole Passed Whole Optional Condition Whole Whole Whole Whole Whole Whole Whole statement_step callable_step content_step at_root_step at_rule_step branch_step each_step for_step media_step properties_step rule_step supports_step while_step x

content_is : (x : Content) → by_content x ≡ record { params = x.params; inner = map in_lines x.block }
unfolding in_lines
content_is x = fold_out-Content Shown Whole Passed Whole Optional Condition Whole Whole Whole Whole Whole Whole Whole statement_step callable_step content_step at_root_step at_rule_step branch_step each_step for_step media_step properties_step rule_step supports_step while_step x

branch_is : (x : Branch) → by_branch x ≡ condition_of x
unfolding in_lines
branch_is x = fold_out-Branch Shown Whole Passed Whole Optional Condition Whole Whole Whole Whole Whole Whole Whole statement_step callable_step content_step at_root_step at_rule_step branch_step each_step for_step media_step properties_step rule_step supports_step while_step x

at_rule_is : (x : AtRule) → by_at_rule x ≡ record { span = x.span; head = head_of (at_rule_line x.name x.prelude); inner = optional_lines x.block }
unfolding in_lines
at_rule_is x = fold_out-AtRule Shown Whole Passed Whole Optional Condition Whole Whole Whole Whole Whole Whole Whole statement_step callable_step content_step at_root_step at_rule_step branch_step each_step for_step media_step properties_step rule_step supports_step while_step x
    ∙ ap (λ (inner : Option (List Shown)). record { span = x.span; head = head_of (at_rule_line x.name x.prelude); inner = inner }) (optional_is x.block)

abbrev mapped : Statement-F Statement Callable Content AtRoot AtRule Branch Each For Media Properties Rule Supports While → Statement-F Shown Whole Passed Whole Optional Condition Whole Whole Whole Whole Whole Whole Whole
mapped = map-Statement Statement Callable Content AtRoot AtRule Branch Each For Media Properties Rule Supports While Shown Whole Passed Whole Optional Condition Whole Whole Whole Whole Whole Whole Whole in_lines by_callable by_content by_at_root by_at_rule by_branch by_each by_for by_media by_properties by_rule by_supports by_while

rolled : (d : Statement-F Statement Callable Content AtRoot AtRule Branch Each For Media Properties Rule Supports While) → in_lines (roll-Statement d) ≡ statement_step (mapped d)
unfolding in_lines
rolled d = fold-roll-Statement Shown Whole Passed Whole Optional Condition Whole Whole Whole Whole Whole Whole Whole statement_step callable_step content_step at_root_step at_rule_step branch_step each_step for_step media_step properties_step rule_step supports_step while_step d

-- ---- statements without a block

pub variable_in : (x : Variable) → in_lines (statements.Variable x) ≡ line x.span (head_of (variable_text x))
variable_in x = ap (λ (s : Statement). in_lines s) (sym (statements.rolls-Variable x)) ∙ rolled (Statement-F.Variable x)

pub assignment_in : (x : Assignment) → in_lines (statements.Assignment x) ≡ line x.span (head_of (assignment_text x))
assignment_in x = ap (λ (s : Statement). in_lines s) (sym (statements.rolls-Assignment x)) ∙ rolled (Statement-F.Assignment x)

pub declaration_in : (x : Declaration) → in_lines (statements.Declaration x) ≡ line x.span (head_of (declaration_text x))
declaration_in x = ap (λ (s : Statement). in_lines s) (sym (statements.rolls-Declaration x)) ∙ rolled (Statement-F.Declaration x)

pub custom_in : (x : Custom) → in_lines (statements.Custom x) ≡ line x.span (custom_head x)
custom_in x = ap (λ (s : Statement). in_lines s) (sym (statements.rolls-Custom x)) ∙ rolled (Statement-F.Custom x)

pub use_in : (x : Use) → in_lines (statements.Use x) ≡ line x.span (head_of (use_text x))
use_in x = ap (λ (s : Statement). in_lines s) (sym (statements.rolls-Use x)) ∙ rolled (Statement-F.Use x)

pub forward_in : (x : Forward) → in_lines (statements.Forward x) ≡ line x.span (head_of (forward_text x))
forward_in x = ap (λ (s : Statement). in_lines s) (sym (statements.rolls-Forward x)) ∙ rolled (Statement-F.Forward x)

pub content_in : (x : ContentCall) → in_lines (statements.Content x) ≡ line x.span (head_of (content_text x))
content_in x = ap (λ (s : Statement). in_lines s) (sym (statements.rolls-Content x)) ∙ rolled (Statement-F.Content x)

pub return_in : (x : Return) → in_lines (statements.Return x) ≡ line x.span (head_of (codes "@return " ++ expr_text x.value))
return_in x = ap (λ (s : Statement). in_lines s) (sym (statements.rolls-Return x)) ∙ rolled (Statement-F.Return x)

pub say_in : (x : Say) → in_lines (statements.Say x) ≡ line x.span (head_of (say_text x))
say_in x = ap (λ (s : Statement). in_lines s) (sym (statements.rolls-Say x)) ∙ rolled (Statement-F.Say x)

pub import_in : (x : Import) → in_lines (statements.Import x) ≡ line x.span (head_of (codes "@import " ++ line_text x.text))
import_in x = ap (λ (s : Statement). in_lines s) (sym (statements.rolls-Import x)) ∙ rolled (Statement-F.Import x)

pub extend_in : (x : Extend) → in_lines (statements.Extend x) ≡ line x.span (head_of (codes "@extend " ++ line_text x.text))
extend_in x = ap (λ (s : Statement). in_lines s) (sym (statements.rolls-Extend x)) ∙ rolled (Statement-F.Extend x)

pub charset_in : (x : Span) → in_lines (statements.Charset x) ≡ line x (head_of charset_text)
charset_in x = ap (λ (s : Statement). in_lines s) (sym (statements.rolls-Charset x)) ∙ rolled (Statement-F.Charset x)

pub comment_in : (x : Text) → in_lines (statements.Comment x) ≡ comment x.span (comment_lines x.parts)
comment_in x = ap (λ (s : Statement). in_lines s) (sym (statements.rolls-Comment x)) ∙ rolled (Statement-F.Comment x)

-- ---- statements with a block

pub callable_in : (x : Callable) → in_lines (statements.Callable x) ≡ whole (whole_of x.span (callable_head x.kind x.name x.params) (map in_lines x.block))
callable_in x = ap (λ (s : Statement). in_lines s) (sym (statements.rolls-Callable x)) ∙ rolled (Statement-F.Callable x) ∙ ap (λ (w : Whole). whole w) (callable_is x)

pub at_root_in : (x : AtRoot) → in_lines (statements.AtRoot x) ≡ whole (whole_of x.span (at_root_line x.selector) (map in_lines x.block))
at_root_in x = ap (λ (s : Statement). in_lines s) (sym (statements.rolls-AtRoot x)) ∙ rolled (Statement-F.AtRoot x) ∙ ap (λ (w : Whole). whole w) (at_root_is x)

pub each_in : (x : Each) → in_lines (statements.Each x) ≡ whole (whole_of x.span (each_head x.names x.value) (map in_lines x.block))
each_in x = ap (λ (s : Statement). in_lines s) (sym (statements.rolls-Each x)) ∙ rolled (Statement-F.Each x) ∙ ap (λ (w : Whole). whole w) (each_is x)

pub for_in : (x : For) → in_lines (statements.For x) ≡ whole (whole_of x.span (for_head x.name x.bounds) (map in_lines x.block))
for_in x = ap (λ (s : Statement). in_lines s) (sym (statements.rolls-For x)) ∙ rolled (Statement-F.For x) ∙ ap (λ (w : Whole). whole w) (for_is x)

pub media_in : (x : Media) → in_lines (statements.Media x) ≡ whole (whole_of x.span (codes "@media " ++ queries_text x.queries) (map in_lines x.block))
media_in x = ap (λ (s : Statement). in_lines s) (sym (statements.rolls-Media x)) ∙ rolled (Statement-F.Media x) ∙ ap (λ (w : Whole). whole w) (media_is x)

pub properties_in : (x : Properties) → in_lines (statements.Properties x) ≡ whole (whole_of x.span (properties_head x.property x.value) (map in_lines x.block))
properties_in x = ap (λ (s : Statement). in_lines s) (sym (statements.rolls-Properties x)) ∙ rolled (Statement-F.Properties x) ∙ ap (λ (w : Whole). whole w) (properties_is x)

pub rule_in : (x : Rule) → in_lines (statements.Rule x) ≡ whole (record { span = x.span; one = record { head = selector_head x.selector; inner = map in_lines x.block } })
rule_in x = ap (λ (s : Statement). in_lines s) (sym (statements.rolls-Rule x)) ∙ rolled (Statement-F.Rule x) ∙ ap (λ (w : Whole). whole w) (rule_is x)

pub supports_in : (x : Supports) → in_lines (statements.Supports x) ≡ whole (whole_of x.span (codes "@supports " ++ line_text x.condition) (map in_lines x.block))
supports_in x = ap (λ (s : Statement). in_lines s) (sym (statements.rolls-Supports x)) ∙ rolled (Statement-F.Supports x) ∙ ap (λ (w : Whole). whole w) (supports_is x)

pub while_in : (x : While) → in_lines (statements.While x) ≡ whole (whole_of x.span (codes "@while " ++ expr_text x.condition) (map in_lines x.block))
while_in x = ap (λ (s : Statement). in_lines s) (sym (statements.rolls-While x)) ∙ rolled (Statement-F.While x) ∙ ap (λ (w : Whole). whole w) (while_is x)

pub at_rule_in : (x : AtRule) → in_lines (statements.AtRule x) ≡ optional_by x.span (head_of (at_rule_line x.name x.prelude)) (optional_lines x.block)
at_rule_in x =
    ap (λ (s : Statement). in_lines s) (sym (statements.rolls-AtRule x)) ∙ rolled (Statement-F.AtRule x)
    ∙ ap (λ (o : Optional). optional_by o.span o.head o.inner) (at_rule_is x)

abbrev mapped_content : Option Content → Option Passed
mapped_content = former-Statement-Include-1.map Content Passed by_content

passed_is : (x : Option Content) → mapped_content x ≡ passed_of x
passed_is None = refl
passed_is (Some x) = ap (λ (p : Passed). Some p) (content_is x)

pub include_in : (mixin : Mixin) (x : Option Content) (span : Span) → in_lines (statements.Include mixin x span) ≡ include span mixin (passed_of x)
include_in mixin x span =
    ap (λ (s : Statement). in_lines s) (sym (statements.rolls-Include mixin x span)) ∙ rolled (Statement-F.Include mixin x span)
    ∙ ap (λ (p : Option Passed). include span mixin p) (passed_is x)

pub if_in : (xs : List Branch) (otherwise : Option (List Statement)) (span : Span)
    → in_lines (statements.If xs otherwise span) ≡ conditions span (map condition_of xs) (optional_lines otherwise)
if_in xs otherwise span =
    ap (λ (s : Statement). in_lines s) (sym (statements.rolls-If xs otherwise span)) ∙ rolled (Statement-F.If xs otherwise span)
    ∙ ap (λ (bs : List Condition). conditions span bs (mapped_block otherwise)) (maps_are by_branch condition_of branch_is xs)
    ∙ ap (λ (b : Option (List Shown)). conditions span (map condition_of xs) b) (optional_is otherwise)

-- ---- text and place of each

pub variable_in_text : (x : Variable) (level : ℕ) → (in_lines (statements.Variable x)).text level ≡ (line x.span (head_of (variable_text x))).text level
variable_in_text x level = ap (λ (s : Shown). s.text level) (variable_in x)

pub variable_in_refused : (x : Variable) → (in_lines (statements.Variable x)).refused ≡ (line x.span (head_of (variable_text x))).refused
variable_in_refused x = ap (λ (s : Shown). s.refused) (variable_in x)

pub assignment_in_text : (x : Assignment) (level : ℕ) → (in_lines (statements.Assignment x)).text level ≡ (line x.span (head_of (assignment_text x))).text level
assignment_in_text x level = ap (λ (s : Shown). s.text level) (assignment_in x)

pub assignment_in_refused : (x : Assignment) → (in_lines (statements.Assignment x)).refused ≡ (line x.span (head_of (assignment_text x))).refused
assignment_in_refused x = ap (λ (s : Shown). s.refused) (assignment_in x)

pub declaration_in_text : (x : Declaration) (level : ℕ) → (in_lines (statements.Declaration x)).text level ≡ (line x.span (head_of (declaration_text x))).text level
declaration_in_text x level = ap (λ (s : Shown). s.text level) (declaration_in x)

pub declaration_in_refused : (x : Declaration) → (in_lines (statements.Declaration x)).refused ≡ (line x.span (head_of (declaration_text x))).refused
declaration_in_refused x = ap (λ (s : Shown). s.refused) (declaration_in x)

pub custom_in_text : (x : Custom) (level : ℕ) → (in_lines (statements.Custom x)).text level ≡ (line x.span (custom_head x)).text level
custom_in_text x level = ap (λ (s : Shown). s.text level) (custom_in x)

pub custom_in_refused : (x : Custom) → (in_lines (statements.Custom x)).refused ≡ (line x.span (custom_head x)).refused
custom_in_refused x = ap (λ (s : Shown). s.refused) (custom_in x)

pub use_in_text : (x : Use) (level : ℕ) → (in_lines (statements.Use x)).text level ≡ (line x.span (head_of (use_text x))).text level
use_in_text x level = ap (λ (s : Shown). s.text level) (use_in x)

pub use_in_refused : (x : Use) → (in_lines (statements.Use x)).refused ≡ (line x.span (head_of (use_text x))).refused
use_in_refused x = ap (λ (s : Shown). s.refused) (use_in x)

pub forward_in_text : (x : Forward) (level : ℕ) → (in_lines (statements.Forward x)).text level ≡ (line x.span (head_of (forward_text x))).text level
forward_in_text x level = ap (λ (s : Shown). s.text level) (forward_in x)

pub forward_in_refused : (x : Forward) → (in_lines (statements.Forward x)).refused ≡ (line x.span (head_of (forward_text x))).refused
forward_in_refused x = ap (λ (s : Shown). s.refused) (forward_in x)

pub content_in_text : (x : ContentCall) (level : ℕ) → (in_lines (statements.Content x)).text level ≡ (line x.span (head_of (content_text x))).text level
content_in_text x level = ap (λ (s : Shown). s.text level) (content_in x)

pub content_in_refused : (x : ContentCall) → (in_lines (statements.Content x)).refused ≡ (line x.span (head_of (content_text x))).refused
content_in_refused x = ap (λ (s : Shown). s.refused) (content_in x)

pub return_in_text : (x : Return) (level : ℕ) → (in_lines (statements.Return x)).text level ≡ (line x.span (head_of (codes "@return " ++ expr_text x.value))).text level
return_in_text x level = ap (λ (s : Shown). s.text level) (return_in x)

pub return_in_refused : (x : Return) → (in_lines (statements.Return x)).refused ≡ (line x.span (head_of (codes "@return " ++ expr_text x.value))).refused
return_in_refused x = ap (λ (s : Shown). s.refused) (return_in x)

pub say_in_text : (x : Say) (level : ℕ) → (in_lines (statements.Say x)).text level ≡ (line x.span (head_of (say_text x))).text level
say_in_text x level = ap (λ (s : Shown). s.text level) (say_in x)

pub say_in_refused : (x : Say) → (in_lines (statements.Say x)).refused ≡ (line x.span (head_of (say_text x))).refused
say_in_refused x = ap (λ (s : Shown). s.refused) (say_in x)

pub import_in_text : (x : Import) (level : ℕ) → (in_lines (statements.Import x)).text level ≡ (line x.span (head_of (codes "@import " ++ line_text x.text))).text level
import_in_text x level = ap (λ (s : Shown). s.text level) (import_in x)

pub import_in_refused : (x : Import) → (in_lines (statements.Import x)).refused ≡ (line x.span (head_of (codes "@import " ++ line_text x.text))).refused
import_in_refused x = ap (λ (s : Shown). s.refused) (import_in x)

pub extend_in_text : (x : Extend) (level : ℕ) → (in_lines (statements.Extend x)).text level ≡ (line x.span (head_of (codes "@extend " ++ line_text x.text))).text level
extend_in_text x level = ap (λ (s : Shown). s.text level) (extend_in x)

pub extend_in_refused : (x : Extend) → (in_lines (statements.Extend x)).refused ≡ (line x.span (head_of (codes "@extend " ++ line_text x.text))).refused
extend_in_refused x = ap (λ (s : Shown). s.refused) (extend_in x)

pub charset_in_text : (x : Span) (level : ℕ) → (in_lines (statements.Charset x)).text level ≡ (line x (head_of charset_text)).text level
charset_in_text x level = ap (λ (s : Shown). s.text level) (charset_in x)

pub charset_in_refused : (x : Span) → (in_lines (statements.Charset x)).refused ≡ (line x (head_of charset_text)).refused
charset_in_refused x = ap (λ (s : Shown). s.refused) (charset_in x)

pub comment_in_text : (x : Text) (level : ℕ) → (in_lines (statements.Comment x)).text level ≡ (comment x.span (comment_lines x.parts)).text level
comment_in_text x level = ap (λ (s : Shown). s.text level) (comment_in x)

pub comment_in_refused : (x : Text) → (in_lines (statements.Comment x)).refused ≡ (comment x.span (comment_lines x.parts)).refused
comment_in_refused x = ap (λ (s : Shown). s.refused) (comment_in x)

pub callable_in_text : (x : Callable) (level : ℕ) → (in_lines (statements.Callable x)).text level ≡ (whole (whole_of x.span (callable_head x.kind x.name x.params) (map in_lines x.block))).text level
callable_in_text x level = ap (λ (s : Shown). s.text level) (callable_in x)

pub callable_in_refused : (x : Callable) → (in_lines (statements.Callable x)).refused ≡ (whole (whole_of x.span (callable_head x.kind x.name x.params) (map in_lines x.block))).refused
callable_in_refused x = ap (λ (s : Shown). s.refused) (callable_in x)

pub at_root_in_text : (x : AtRoot) (level : ℕ) → (in_lines (statements.AtRoot x)).text level ≡ (whole (whole_of x.span (at_root_line x.selector) (map in_lines x.block))).text level
at_root_in_text x level = ap (λ (s : Shown). s.text level) (at_root_in x)

pub at_root_in_refused : (x : AtRoot) → (in_lines (statements.AtRoot x)).refused ≡ (whole (whole_of x.span (at_root_line x.selector) (map in_lines x.block))).refused
at_root_in_refused x = ap (λ (s : Shown). s.refused) (at_root_in x)

pub each_in_text : (x : Each) (level : ℕ) → (in_lines (statements.Each x)).text level ≡ (whole (whole_of x.span (each_head x.names x.value) (map in_lines x.block))).text level
each_in_text x level = ap (λ (s : Shown). s.text level) (each_in x)

pub each_in_refused : (x : Each) → (in_lines (statements.Each x)).refused ≡ (whole (whole_of x.span (each_head x.names x.value) (map in_lines x.block))).refused
each_in_refused x = ap (λ (s : Shown). s.refused) (each_in x)

pub for_in_text : (x : For) (level : ℕ) → (in_lines (statements.For x)).text level ≡ (whole (whole_of x.span (for_head x.name x.bounds) (map in_lines x.block))).text level
for_in_text x level = ap (λ (s : Shown). s.text level) (for_in x)

pub for_in_refused : (x : For) → (in_lines (statements.For x)).refused ≡ (whole (whole_of x.span (for_head x.name x.bounds) (map in_lines x.block))).refused
for_in_refused x = ap (λ (s : Shown). s.refused) (for_in x)

pub media_in_text : (x : Media) (level : ℕ) → (in_lines (statements.Media x)).text level ≡ (whole (whole_of x.span (codes "@media " ++ queries_text x.queries) (map in_lines x.block))).text level
media_in_text x level = ap (λ (s : Shown). s.text level) (media_in x)

pub media_in_refused : (x : Media) → (in_lines (statements.Media x)).refused ≡ (whole (whole_of x.span (codes "@media " ++ queries_text x.queries) (map in_lines x.block))).refused
media_in_refused x = ap (λ (s : Shown). s.refused) (media_in x)

pub properties_in_text : (x : Properties) (level : ℕ) → (in_lines (statements.Properties x)).text level ≡ (whole (whole_of x.span (properties_head x.property x.value) (map in_lines x.block))).text level
properties_in_text x level = ap (λ (s : Shown). s.text level) (properties_in x)

pub properties_in_refused : (x : Properties) → (in_lines (statements.Properties x)).refused ≡ (whole (whole_of x.span (properties_head x.property x.value) (map in_lines x.block))).refused
properties_in_refused x = ap (λ (s : Shown). s.refused) (properties_in x)

pub rule_in_text : (x : Rule) (level : ℕ) → (in_lines (statements.Rule x)).text level ≡ (whole (record { span = x.span; one = record { head = selector_head x.selector; inner = map in_lines x.block } })).text level
rule_in_text x level = ap (λ (s : Shown). s.text level) (rule_in x)

pub rule_in_refused : (x : Rule) → (in_lines (statements.Rule x)).refused ≡ (whole (record { span = x.span; one = record { head = selector_head x.selector; inner = map in_lines x.block } })).refused
rule_in_refused x = ap (λ (s : Shown). s.refused) (rule_in x)

pub supports_in_text : (x : Supports) (level : ℕ) → (in_lines (statements.Supports x)).text level ≡ (whole (whole_of x.span (codes "@supports " ++ line_text x.condition) (map in_lines x.block))).text level
supports_in_text x level = ap (λ (s : Shown). s.text level) (supports_in x)

pub supports_in_refused : (x : Supports) → (in_lines (statements.Supports x)).refused ≡ (whole (whole_of x.span (codes "@supports " ++ line_text x.condition) (map in_lines x.block))).refused
supports_in_refused x = ap (λ (s : Shown). s.refused) (supports_in x)

pub while_in_text : (x : While) (level : ℕ) → (in_lines (statements.While x)).text level ≡ (whole (whole_of x.span (codes "@while " ++ expr_text x.condition) (map in_lines x.block))).text level
while_in_text x level = ap (λ (s : Shown). s.text level) (while_in x)

pub while_in_refused : (x : While) → (in_lines (statements.While x)).refused ≡ (whole (whole_of x.span (codes "@while " ++ expr_text x.condition) (map in_lines x.block))).refused
while_in_refused x = ap (λ (s : Shown). s.refused) (while_in x)

pub at_rule_in_text : (x : AtRule) (level : ℕ) → (in_lines (statements.AtRule x)).text level ≡ (optional_by x.span (head_of (at_rule_line x.name x.prelude)) (optional_lines x.block)).text level
at_rule_in_text x level = ap (λ (s : Shown). s.text level) (at_rule_in x)

pub at_rule_in_refused : (x : AtRule) → (in_lines (statements.AtRule x)).refused ≡ (optional_by x.span (head_of (at_rule_line x.name x.prelude)) (optional_lines x.block)).refused
at_rule_in_refused x = ap (λ (s : Shown). s.refused) (at_rule_in x)

pub include_in_text : (mixin : Mixin) (x : Option Content) (span : Span) (level : ℕ)
    → (in_lines (statements.Include mixin x span)).text level ≡ (include span mixin (passed_of x)).text level
include_in_text mixin x span level = ap (λ (s : Shown). s.text level) (include_in mixin x span)

pub include_in_refused : (mixin : Mixin) (x : Option Content) (span : Span)
    → (in_lines (statements.Include mixin x span)).refused ≡ (include span mixin (passed_of x)).refused
include_in_refused mixin x span = ap (λ (s : Shown). s.refused) (include_in mixin x span)

pub if_in_text : (xs : List Branch) (otherwise : Option (List Statement)) (span : Span) (level : ℕ)
    → (in_lines (statements.If xs otherwise span)).text level ≡ (conditions span (map condition_of xs) (optional_lines otherwise)).text level
if_in_text xs otherwise span level = ap (λ (s : Shown). s.text level) (if_in xs otherwise span)

pub if_in_refused : (xs : List Branch) (otherwise : Option (List Statement)) (span : Span)
    → (in_lines (statements.If xs otherwise span)).refused ≡ (conditions span (map condition_of xs) (optional_lines otherwise)).refused
if_in_refused xs otherwise span = ap (λ (s : Shown). s.refused) (if_in xs otherwise span)
