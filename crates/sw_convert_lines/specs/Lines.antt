-- The text of a sheet in lines, or where the first statement stands that lines can't hold.
use Rattle.std.specs.Prelude.{◌≡◌, ℕ, Bool, true, false, not, ◌&&◌, if◌then◌else◌, List, [], ◌∷◌, ◌++◌, map, Option, Some, None, codes}
use Rattle.sw_text.specs.declared.place.Span.{Span}
use Rattle.sw_tree.specs.declared.callable.Content.{Content}
use Rattle.sw_tree.specs.declared.callable.Mixin.{Mixin}
use Rattle.sw_tree.specs.declared.callable.Params.{Params}
use Rattle.sw_tree.specs.declared.sheet.Sheet.{Sheet}
use Rattle.sw_tree.specs.declared.statement.Branch.{Branch}
use Rattle.sw_tree.specs.declared.statement.Custom.{Custom}
use Rattle.sw_tree.specs.declared.statement.Statement.{Statement, fold-Statement}
use Rattle.sw_tree.specs.declared.statement.Statement.TheOpen.{Statement-F, Callable-F, Content-F, AtRoot-F, AtRule-F, Branch-F, Each-F, For-F, Media-F, Properties-F, Rule-F, Supports-F, While-F}
use Rattle.sw_tree.specs.declared.text.Text.{Text}
use Rattle.sw_convert_written.specs.Escapes.{space_behind}
use Rattle.sw_convert_written.specs.Expressions.{expr_text, parts_written}
use Rattle.sw_convert_written.specs.Heads.{plain_text, queries_text, variable_text, assignment_text, declaration_text, custom_text, properties_head, use_text, forward_text, callable_head, include_text, using_params, content_text, say_text, each_head, for_head}
use Rattle.sw_convert_written.specs.Statements.{branch_indent, statement_shown, marked}
use Rattle.sw_convert_lines.specs.declared.fault.ConvertFault.{ConvertFault}
use Rattle.sw_convert_lines.specs.declared.fault.ConvertFault.TheVariants as faults
use Rattle.sw_convert_lines.specs.RawTexts.{line_text, selector_line, spaced_line}
use Rattle.sw_convert_lines.specs.Comments.{comment_lines, lines_text}
use Rattle.sw_convert_lines.specs.Held.{is_held, breaks_pieces, begins_member}
use Rattle.sw_convert_lines.specs.Layout.{Head, Shown, Blocked, has_none, first_of, first_refused, block_text, are_held, line, blocked, refused_unless}

-- ---- heads

abbrev pub head_of : List ℕ → Head
head_of text = record { text = text; held = is_held false text }

abbrev pub selector_head : Text → Head
selector_head selector =
    let text = selector_line selector in record { text = text; held = not (begins_member text) && is_held false text }

abbrev pub breaks_value : Option Text → Bool
breaks_value None = false
breaks_value (Some value) = breaks_pieces (parts_written value.parts)

abbrev pub custom_head : Custom → Head
custom_head custom =
    record { text = custom_text custom; held = not (breaks_value custom.value) && is_held true (custom_text custom) }

abbrev pub at_root_line : Option Text → List ℕ
at_root_line selector = codes "@at-root" ++ spaced_line selector

-- an at-rule's name, and what stands behind it
abbrev pub prelude_line : Option Text → List ℕ → List ℕ
prelude_line None name = []
prelude_line (Some prelude) name = space_behind name ++ line_text prelude

abbrev pub at_rule_line : Text → Option Text → List ℕ
at_rule_line name prelude = plain_text name ++ prelude_line prelude (plain_text name)

unfoldable pub charset_text : List ℕ
charset_text = codes "@charset \"UTF-8\""

abbrev pub branch_word : Bool → List ℕ
branch_word true = codes "@if "
branch_word false = codes "@else if "

-- ---- one layer of each, over what its parts show

-- a statement with a block
pub record Whole : Type 0 where
  pub span : Span
  pub one : Blocked

-- a condition, and the statements in its block
pub record Condition : Type 0 where
  pub text : List ℕ
  pub inner : List Shown

-- an at-rule with a block or without one
pub record Optional : Type 0 where
  pub span : Span
  pub head : Head
  pub inner : Option (List Shown)

-- a content block
pub record Passed : Type 0 where
  pub params : Params
  pub inner : List Shown

abbrev pub whole : Whole → Shown
whole x = blocked x.span x.one

abbrev pub whole_of : Span → List ℕ → List Shown → Whole
whole_of span text inner = record { span = span; one = record { head = head_of text; inner = inner } }

abbrev pub optional_by : Span → Head → Option (List Shown) → Shown
optional_by span head None = line span head
optional_by span head (Some inner) = blocked span (record { head = head; inner = inner })

abbrev pub include : Span → Mixin → Option Passed → Shown
include span mixin None = line span (head_of (include_text mixin))
include span mixin (Some content) =
    blocked span (record { head = head_of (using_params content.params (include_text mixin)); inner = content.inner })

abbrev pub condition_block : Bool → Condition → Blocked
condition_block first x = record { head = head_of (branch_word first ++ x.text); inner = x.inner }

abbrev pub else_block : Option (List Shown) → List Blocked
else_block None = []
else_block (Some inner) = record { head = head_of (codes "@else"); inner = inner } ∷ []

abbrev pub blocks_of : Bool → List Condition → Option (List Shown) → List Blocked
blocks_of first [] otherwise = else_block otherwise
blocks_of first (x ∷ more) otherwise = condition_block first x ∷ blocks_of false more otherwise

-- conditions with their blocks, of which the next is the first or not
abbrev pub conditions_text : ℕ → Bool → List Condition → List ℕ
conditions_text level first [] = []
conditions_text level first (x ∷ more) =
    branch_indent level first
    ++ (block_text level (branch_word first ++ x.text) x.inner ++ conditions_text level false more)

abbrev pub refused_conditions : List Condition → Option Span
refused_conditions [] = None
refused_conditions (x ∷ more) = first_of (first_refused x.inner) (refused_conditions more)

abbrev pub else_text : ℕ → Bool → List Shown → List ℕ
else_text level first inner = branch_indent level first ++ block_text level (codes "@else") inner

abbrev pub otherwise_text : ℕ → Bool → Option (List Shown) → List ℕ
otherwise_text level first None = []
otherwise_text level first (Some inner) = else_text level first inner

abbrev pub refused_otherwise : Option (List Shown) → Option Span
refused_otherwise None = None
refused_otherwise (Some inner) = first_refused inner

abbrev pub conditions : Span → List Condition → Option (List Shown) → Shown
conditions span branches otherwise = record {
  text = λ level. conditions_text level true branches ++ otherwise_text level (has_none branches) otherwise;
  refused = refused_unless (are_held (blocks_of true branches otherwise)) span
      (first_of (refused_conditions branches) (refused_otherwise otherwise));
}

abbrev pub comment : Span → List (List ℕ) → Shown
comment span lines = record {
  text = λ level. lines_text level lines ++ codes "\n";
  refused = refused_unless (not (has_none lines)) span None;
}

abbrev pub statement_step : Statement-F Shown Whole Passed Whole Optional Condition Whole Whole Whole Whole Whole Whole Whole → Shown
statement_step (Statement-F.Variable x) = line x.span (head_of (variable_text x))
statement_step (Statement-F.Assignment x) = line x.span (head_of (assignment_text x))
statement_step (Statement-F.Declaration x) = line x.span (head_of (declaration_text x))
statement_step (Statement-F.Properties x) = whole x
statement_step (Statement-F.Custom x) = line x.span (custom_head x)
statement_step (Statement-F.Rule x) = whole x
statement_step (Statement-F.Use x) = line x.span (head_of (use_text x))
statement_step (Statement-F.Forward x) = line x.span (head_of (forward_text x))
statement_step (Statement-F.Callable x) = whole x
statement_step (Statement-F.Include mixin content span) = include span mixin content
statement_step (Statement-F.Content x) = line x.span (head_of (content_text x))
statement_step (Statement-F.Return x) = line x.span (head_of (codes "@return " ++ expr_text x.value))
statement_step (Statement-F.Say x) = line x.span (head_of (say_text x))
statement_step (Statement-F.If branches otherwise span) = conditions span branches otherwise
statement_step (Statement-F.Each x) = whole x
statement_step (Statement-F.For x) = whole x
statement_step (Statement-F.While x) = whole x
statement_step (Statement-F.Media x) = whole x
statement_step (Statement-F.Supports x) = whole x
statement_step (Statement-F.AtRoot x) = whole x
statement_step (Statement-F.Charset span) = line span (head_of charset_text)
statement_step (Statement-F.Import x) = line x.span (head_of (codes "@import " ++ line_text x.text))
statement_step (Statement-F.Extend x) = line x.span (head_of (codes "@extend " ++ line_text x.text))
statement_step (Statement-F.AtRule x) = optional_by x.span x.head x.inner
statement_step (Statement-F.Comment x) = comment x.span (comment_lines x.parts)

abbrev pub callable_step : Callable-F Shown Whole Passed Whole Optional Condition Whole Whole Whole Whole Whole Whole Whole → Whole
callable_step x = whole_of x.span (callable_head x.kind x.name x.params) x.block

abbrev pub content_step : Content-F Shown Whole Passed Whole Optional Condition Whole Whole Whole Whole Whole Whole Whole → Passed
content_step x = record { params = x.params; inner = x.block }

abbrev pub at_root_step : AtRoot-F Shown Whole Passed Whole Optional Condition Whole Whole Whole Whole Whole Whole Whole → Whole
at_root_step x = whole_of x.span (at_root_line x.selector) x.block

abbrev pub at_rule_step : AtRule-F Shown Whole Passed Whole Optional Condition Whole Whole Whole Whole Whole Whole Whole → Optional
at_rule_step x = record { span = x.span; head = head_of (at_rule_line x.name x.prelude); inner = x.block }

abbrev pub branch_step : Branch-F Shown Whole Passed Whole Optional Condition Whole Whole Whole Whole Whole Whole Whole → Condition
branch_step x = record { text = expr_text x.condition; inner = x.block }

abbrev pub each_step : Each-F Shown Whole Passed Whole Optional Condition Whole Whole Whole Whole Whole Whole Whole → Whole
each_step x = whole_of x.span (each_head x.names x.value) x.block

abbrev pub for_step : For-F Shown Whole Passed Whole Optional Condition Whole Whole Whole Whole Whole Whole Whole → Whole
for_step x = whole_of x.span (for_head x.name x.bounds) x.block

abbrev pub media_step : Media-F Shown Whole Passed Whole Optional Condition Whole Whole Whole Whole Whole Whole Whole → Whole
media_step x = whole_of x.span (codes "@media " ++ queries_text x.queries) x.block

abbrev pub properties_step : Properties-F Shown Whole Passed Whole Optional Condition Whole Whole Whole Whole Whole Whole Whole → Whole
properties_step x = whole_of x.span (properties_head x.property x.value) x.block

abbrev pub rule_step : Rule-F Shown Whole Passed Whole Optional Condition Whole Whole Whole Whole Whole Whole Whole → Whole
rule_step x = record { span = x.span; one = record { head = selector_head x.selector; inner = x.block } }

abbrev pub supports_step : Supports-F Shown Whole Passed Whole Optional Condition Whole Whole Whole Whole Whole Whole Whole → Whole
supports_step x = whole_of x.span (codes "@supports " ++ line_text x.condition) x.block

abbrev pub while_step : While-F Shown Whole Passed Whole Optional Condition Whole Whole Whole Whole Whole Whole Whole → Whole
while_step x = whole_of x.span (codes "@while " ++ expr_text x.condition) x.block

-- ---- whole statements and sheets

unfoldable pub in_lines : Statement → Shown
in_lines = fold-Statement Shown Whole Passed Whole Optional Condition Whole Whole Whole Whole Whole Whole Whole statement_step callable_step content_step at_root_step at_rule_step branch_step each_step for_step media_step properties_step rule_step supports_step while_step

abbrev pub optional_lines : Option (List Statement) → Option (List Shown)
optional_lines None = None
optional_lines (Some block) = Some (map in_lines block)

abbrev pub passed_of : Option Content → Option Passed
passed_of None = None
passed_of (Some content) = Some (record { params = content.params; inner = map in_lines content.block })

abbrev pub condition_of : Branch → Condition
condition_of branch = record { text = expr_text branch.condition; inner = map in_lines branch.block }

-- a blank line between two statements that both have a block
abbrev pub blank_before : Statement → List Statement → List ℕ
blank_before statement [] = []
blank_before statement (next ∷ statements) =
    if (statement_shown statement).block && (statement_shown next).block then codes "\n" else []

abbrev pub top_lines : List Statement → List ℕ
top_lines [] = []
top_lines (statement ∷ statements) =
    (in_lines statement).text 0 ++ (blank_before statement statements ++ top_lines statements)

-- the text of a sheet in lines
abbrev pub indented_text : Sheet → List ℕ
indented_text sheet = marked (top_lines sheet.statements)

-- where the first statement in it stands that lines can't hold
abbrev pub refused_at : Sheet → Option Span
refused_at sheet = first_refused (map in_lines sheet.statements)

-- why a sheet isn't written in lines
abbrev pub IsFault : Option Span → ConvertFault → Type 0
IsFault refused (faults.NotIndentable span) = refused ≡ Some span
IsFault refused faults.Memory = Unit {0}

-- a rule isn't written that begins as a mixin or an include, or memory ran out
abbrev pub IsMember : Bool → Span → ConvertFault → Type 0
IsMember begins span (faults.NotIndentable found) = (begins ≡ true) × (found ≡ span)
IsMember begins span faults.Memory = Unit {0}
