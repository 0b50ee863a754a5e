-- Where the name of a variable stands that a statement assigns to.
use Rattle.std.specs.Prelude.{ℕ, ◌+◌, nat_le, if◌then◌else◌, List, false}
use Rattle.sw_text.specs.Places.{Place, place_after}
use Rattle.sw_text.specs.declared.place.Pos.{Pos}
use Rattle.sw_text.specs.declared.place.Span.{Span}
use Rattle.sw_tree.specs.declared.statement.Variable.{Variable}
use Rattle.sw_eval_statements.specs.declared.names.Reached.{Reached}

abbrev pub as_place : Reached → Place
as_place reached = record { line = reached.line; column = reached.column; returned = reached.returned }

-- behind the `$` that stands here
abbrev pub behind_sign : Pos → Place
behind_sign pos = record { line = pos.line; column = pos.column + 1; returned = false }

-- a count stands still at the greatest line and column
abbrev pub counted : ℕ → ℕ
counted count = if nat_le count 4294967295 then count else 4294967295

abbrev pub pos_of : Place → Pos
pos_of place = record { line = counted place.line; column = counted place.column }

-- behind a name with `$` before it, which stands here
abbrev pub name_end : Pos → List ℕ → Pos
name_end pos name = pos_of (place_after (behind_sign pos) name)

-- from the `$` to the end of the name
abbrev pub name_span : Variable → Span
name_span x = record { file = x.span.file; from = x.span.from; to = name_end x.span.from x.name }
