-- Parts of the table's rows that readers of statements with blocks answer.
use Rattle.std.specs.Prelude.{ℕ, List, [], ◌∷◌, ◌++◌, map, Option, Some, None}
use Rattle.sw_parse_grammar.specs.Grammar.{Grammar, skip, seq, many, build}
use Rattle.sw_parse_terminals.specs.declared.terminal.Terminal.TheVariants as terminals
use Rattle.sw_parse_terminals.specs.Numbers.{these, just}
use Rattle.sw_tree.specs.declared.expr.Expr.{Expr}
use Rattle.sw_tree.specs.declared.statement.Statement.{Statement}
use Rattle.sw_parse_statement_blocks.specs.declared.declaration.Opening.{Opening}
use Rattle.sw_parse_table.specs.declared.source.Source.{Source}
use Rattle.sw_parse_table.specs.Parts.{Part, Form, Texts, Values, Behind, Branches, Blocks}
use Rattle.sw_parse_table.specs.Queries.{queries}
use Rattle.sw_parse_table.specs.Statements.{else_if, else_}
use Rattle.sw_parse_table.specs.Actions.{to_behind}
use Rattle.sw_parse_statement_blocks.specs.declared.branch.Tail.{Tail}
use Rattle.sw_parse_statement_blocks.specs.declared.branch.Chosen.{Chosen}

-- what was read, as the parts that the table builds
abbrev pub block_in : Option (List Statement) → List Part
block_in None = []
block_in (Some block) = Blocks block ∷ []

-- what a further condition of `@if` begins with
abbrev pub else_ifs : List ℕ
else_ifs = these (terminals.AtElseIfWhole ∷ terminals.AtElseIf ∷ [])

-- what stands behind the first block of `@if`
abbrev pub tail_row : Source → Grammar Part Form
tail_row source = seq (many (else_if source)) (else_ source)

abbrev pub tail_parts : Tail → List Part
tail_parts tail = map Branches tail.branches ++ block_in tail.otherwise

abbrev pub chosen_parts : Chosen → List Part
chosen_parts chosen = Blocks chosen.first.block ∷ tail_parts chosen.tail

-- what stands before the block of nested properties, and where that block opens
abbrev pub valued_parts : Option (Expr × ℕ) → List Part
valued_parts None = []
valued_parts (Some read) = Values read.0 ∷ Behind read.1 ∷ []

abbrev pub opening_parts : Opening → List Part
opening_parts opening = Texts opening.property ∷ Behind opening.place ∷ valued_parts opening.value

abbrev pub place_behind : ℕ → Option (Expr × ℕ) → ℕ
place_behind place None = place
place_behind place (Some read) = read.1

abbrev pub block_place : Opening → ℕ
block_place opening = place_behind opening.place opening.value

-- the head of `@media`
abbrev pub media_head : Source → Grammar Part Form
media_head source = build to_behind (seq (skip (just terminals.AtMedia)) (queries source))
