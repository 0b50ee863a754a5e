use Rattle.std.proofs.Common.{◌≡◌, ◌-◌, ℕ}
use Rattle.sw_parse_table.specs.Sources.{texts_from}
use Rattle.sw_parse_table.proofs.gap.has_comments_from.Given as goal

abbrev pub invariant-places : goal.invariant-places
invariant-places l =
    (to from : ℕ) → texts_from l.source to from l.first (l.end - l.first) ≡ texts_from l.source to from l.at (l.end - l.at)
