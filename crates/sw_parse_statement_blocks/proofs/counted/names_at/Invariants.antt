use Rattle.std.proofs.Common.{◌≡◌, ◌∷◌, ◌++◌, drop}
use Rattle.sw_parse_table.specs.Actions.{names_at}
use Rattle.sw_parse_statement_blocks.proofs.counted.names_at.Given as goal

abbrev pub invariant-places : goal.invariant-places
invariant-places l =
    l.names ++ names_at l.source (drop l.place-index l.rest) ≡ names_at l.source (l.first ∷ l.rest)
