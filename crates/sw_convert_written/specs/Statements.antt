-- The text of statements and sheets (the layout is this project's own): two spaces of indent a level, one statement a
-- line, `head {`, the statements, `}`, and a blank line between two statements of the top level that both have a block.
use Rattle.std.specs.Prelude.{ℕ, zero, suc, ◌+◌, Bool, true, false, ◌&&◌, ◌==◌, if◌then◌else◌, List, [], ◌∷◌, ◌++◌, map, Option, Some, None, codes}
use Rattle.sw_text.specs.Places.{mark_length}
use Rattle.sw_tree.specs.declared.callable.Content.{Content}
use Rattle.sw_tree.specs.declared.callable.Params.{Params}
use Rattle.sw_tree.specs.declared.callable.Mixin.{Mixin}
use Rattle.sw_tree.specs.declared.sheet.Sheet.{Sheet}
use Rattle.sw_tree.specs.declared.statement.Branch.{Branch}
use Rattle.sw_tree.specs.declared.statement.Statement.{Statement, fold-Statement}
use Rattle.sw_tree.specs.declared.statement.Statement.TheOpen.{Statement-F, Callable-F, Content-F, AtRoot-F, AtRule-F, Branch-F, Each-F, For-F, Media-F, Properties-F, Rule-F, Supports-F, While-F}
use Rattle.sw_convert_written.specs.Escapes.{space_behind}
use Rattle.sw_convert_written.specs.Expressions.{expr_text}
use Rattle.sw_convert_written.specs.Heads.{plain_text, raw_text, queries_text, selector_text, variable_text, assignment_text, declaration_text, custom_text, properties_head, use_text, forward_text, callable_head, include_text, using_params, content_text, say_text, each_head, for_head, at_root_head, at_rule_head}

-- two spaces for each block around
abbrev pub indent : ℕ → List ℕ
indent zero = []
indent (suc level) = codes "  " ++ indent level

-- what is written of a statement behind the indent of its first line, in so many blocks, and whether it has a block
pub record ShownStatement : Type 0 where
  pub text : ℕ → List ℕ
  pub block : Bool

-- what stands before a block, and the statements in it
pub record Blocked : Type 0 where
  pub head : List ℕ
  pub inner : List ShownStatement

-- the same where there may be no block
pub record Optional : Type 0 where
  pub head : List ℕ
  pub inner : Option (List ShownStatement)

-- a content block
pub record Passed : Type 0 where
  pub params : Params
  pub inner : List ShownStatement

abbrev pub inner_text : ℕ → List ShownStatement → List ℕ
inner_text level [] = []
inner_text level (statement ∷ statements) =
    indent level ++ (statement.text level ++ inner_text level statements)

-- a block behind its head
abbrev pub behind_head : ℕ → List ℕ → List ShownStatement → List ℕ
behind_head level head inner =
    space_behind head ++ (codes "{\n" ++ (inner_text (level + 1) inner ++ (indent level ++ codes "}\n")))

abbrev pub block_text : ℕ → List ℕ → List ShownStatement → List ℕ
block_text level head inner = head ++ behind_head level head inner

-- a statement without a block
abbrev pub line : List ℕ → ShownStatement
line text = record { text = λ level. text ++ codes ";\n"; block = false }

abbrev pub blocked : Blocked → ShownStatement
blocked x = record { text = λ level. block_text level x.head x.inner; block = true }

abbrev pub optional_by : List ℕ → Option (List ShownStatement) → ShownStatement
optional_by head None = line head
optional_by head (Some inner) = blocked (record { head = head; inner = inner })

abbrev pub optional : Optional → ShownStatement
optional x = optional_by x.head x.inner

abbrev pub include : Mixin → Option Passed → ShownStatement
include mixin None = line (include_text mixin)
include mixin (Some content) =
    blocked (record { head = using_params content.params (include_text mixin); inner = content.inner })

-- `@if`, and then each `@else if` on a line of its own
abbrev pub branch_word : Bool → List ℕ
branch_word true = codes "@if "
branch_word false = codes "@else if "

abbrev pub branch_indent : ℕ → Bool → List ℕ
branch_indent level true = []
branch_indent level false = indent level

abbrev pub branches_text : ℕ → Bool → List Blocked → List ℕ
branches_text level first [] = []
branches_text level first (branch ∷ branches) =
    branch_indent level first
    ++ (block_text level (branch_word first ++ branch.head) branch.inner ++ branches_text level false branches)

abbrev pub else_text : ℕ → List ShownStatement → List ℕ
else_text level inner = indent level ++ block_text level (codes "@else") inner

abbrev pub otherwise_text : ℕ → Option (List ShownStatement) → List ℕ
otherwise_text level None = []
otherwise_text level (Some inner) = else_text level inner

-- ---- one layer of each, over what its parts show

abbrev pub statement_step : Statement-F ShownStatement Blocked Passed Blocked Optional Blocked Blocked Blocked Blocked Blocked Blocked Blocked Blocked → ShownStatement
statement_step (Statement-F.Variable x) = line (variable_text x)
statement_step (Statement-F.Assignment x) = line (assignment_text x)
statement_step (Statement-F.Declaration x) = line (declaration_text x)
statement_step (Statement-F.Properties x) = blocked x
statement_step (Statement-F.Custom x) = line (custom_text x)
statement_step (Statement-F.Rule x) = blocked x
statement_step (Statement-F.Use x) = line (use_text x)
statement_step (Statement-F.Forward x) = line (forward_text x)
statement_step (Statement-F.Callable x) = blocked x
statement_step (Statement-F.Include mixin content span) = include mixin content
statement_step (Statement-F.Content x) = line (content_text x)
statement_step (Statement-F.Return x) = line (codes "@return " ++ expr_text x.value)
statement_step (Statement-F.Say x) = line (say_text x)
statement_step (Statement-F.If branches otherwise span) =
    record { text = λ level. branches_text level true branches ++ otherwise_text level otherwise; block = true }
statement_step (Statement-F.Each x) = blocked x
statement_step (Statement-F.For x) = blocked x
statement_step (Statement-F.While x) = blocked x
statement_step (Statement-F.Media x) = blocked x
statement_step (Statement-F.Supports x) = blocked x
statement_step (Statement-F.AtRoot x) = blocked x
statement_step (Statement-F.Charset span) = line (codes "@charset \"UTF-8\"")
statement_step (Statement-F.Import x) = line (codes "@import " ++ raw_text x.text)
statement_step (Statement-F.Extend x) = line (codes "@extend " ++ raw_text x.text)
statement_step (Statement-F.AtRule x) = optional x
statement_step (Statement-F.Comment x) = record { text = λ level. plain_text x ++ codes "\n"; block = false }

abbrev pub callable_step : Callable-F ShownStatement Blocked Passed Blocked Optional Blocked Blocked Blocked Blocked Blocked Blocked Blocked Blocked → Blocked
callable_step x = record { head = callable_head x.kind x.name x.params; inner = x.block }

abbrev pub content_step : Content-F ShownStatement Blocked Passed Blocked Optional Blocked Blocked Blocked Blocked Blocked Blocked Blocked Blocked → Passed
content_step x = record { params = x.params; inner = x.block }

abbrev pub at_root_step : AtRoot-F ShownStatement Blocked Passed Blocked Optional Blocked Blocked Blocked Blocked Blocked Blocked Blocked Blocked → Blocked
at_root_step x = record { head = at_root_head x.selector; inner = x.block }

abbrev pub at_rule_step : AtRule-F ShownStatement Blocked Passed Blocked Optional Blocked Blocked Blocked Blocked Blocked Blocked Blocked Blocked → Optional
at_rule_step x = record { head = at_rule_head x.name x.prelude; inner = x.block }

abbrev pub branch_step : Branch-F ShownStatement Blocked Passed Blocked Optional Blocked Blocked Blocked Blocked Blocked Blocked Blocked Blocked → Blocked
branch_step x = record { head = expr_text x.condition; inner = x.block }

abbrev pub each_step : Each-F ShownStatement Blocked Passed Blocked Optional Blocked Blocked Blocked Blocked Blocked Blocked Blocked Blocked → Blocked
each_step x = record { head = each_head x.names x.value; inner = x.block }

abbrev pub for_step : For-F ShownStatement Blocked Passed Blocked Optional Blocked Blocked Blocked Blocked Blocked Blocked Blocked Blocked → Blocked
for_step x = record { head = for_head x.name x.bounds; inner = x.block }

abbrev pub media_step : Media-F ShownStatement Blocked Passed Blocked Optional Blocked Blocked Blocked Blocked Blocked Blocked Blocked Blocked → Blocked
media_step x = record { head = codes "@media " ++ queries_text x.queries; inner = x.block }

abbrev pub properties_step : Properties-F ShownStatement Blocked Passed Blocked Optional Blocked Blocked Blocked Blocked Blocked Blocked Blocked Blocked → Blocked
properties_step x = record { head = properties_head x.property x.value; inner = x.block }

abbrev pub rule_step : Rule-F ShownStatement Blocked Passed Blocked Optional Blocked Blocked Blocked Blocked Blocked Blocked Blocked Blocked → Blocked
rule_step x = record { head = selector_text x.selector; inner = x.block }

abbrev pub supports_step : Supports-F ShownStatement Blocked Passed Blocked Optional Blocked Blocked Blocked Blocked Blocked Blocked Blocked Blocked → Blocked
supports_step x = record { head = codes "@supports " ++ raw_text x.condition; inner = x.block }

abbrev pub while_step : While-F ShownStatement Blocked Passed Blocked Optional Blocked Blocked Blocked Blocked Blocked Blocked Blocked Blocked → Blocked
while_step x = record { head = codes "@while " ++ expr_text x.condition; inner = x.block }

-- ---- whole statements and sheets

unfoldable pub statement_shown : Statement → ShownStatement
statement_shown = fold-Statement ShownStatement Blocked Passed Blocked Optional Blocked Blocked Blocked Blocked Blocked Blocked Blocked Blocked statement_step callable_step content_step at_root_step at_rule_step branch_step each_step for_step media_step properties_step rule_step supports_step while_step

abbrev pub shown_optional : Option (List Statement) → Option (List ShownStatement)
shown_optional None = None
shown_optional (Some block) = Some (map statement_shown block)

abbrev pub passed_of : Option Content → Option Passed
passed_of None = None
passed_of (Some content) = Some (record { params = content.params; inner = map statement_shown content.block })

abbrev pub branch_shown : Branch → Blocked
branch_shown branch = record { head = expr_text branch.condition; inner = map statement_shown branch.block }

-- a blank line between two statements
abbrev pub blank : ShownStatement → ShownStatement → List ℕ
blank statement next = if statement.block && next.block then codes "\n" else []

abbrev pub top_text : List ShownStatement → List ℕ
top_text [] = []
top_text (statement ∷ []) = statement.text 0
top_text (statement ∷ next ∷ statements) =
    statement.text 0 ++ (blank statement next ++ top_text (next ∷ statements))

-- a text that begins with a byte order mark has another before it, since a sheet's first one is no part of it
abbrev pub marked : List ℕ → List ℕ
marked text = if mark_length text == 3 then 239 ∷ 187 ∷ 191 ∷ text else text

-- the text of a sheet
abbrev pub sheet_text : Sheet → List ℕ
sheet_text sheet = marked (top_text (map statement_shown sheet.statements))
