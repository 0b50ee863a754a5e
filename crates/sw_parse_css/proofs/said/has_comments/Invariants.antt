use Rattle.std.proofs.Common.{◌≡◌, ◌-◌, ℕ}
use Rattle.sw_parse_css.specs.Seen.{seen, said_from}
use Rattle.sw_parse_css.proofs.said.has_comments.Given as goal

abbrev pub invariant-places : goal.invariant-places
invariant-places l =
    (to from : ℕ) → said_from (seen l.source) to from l.first (l.last - l.first) ≡ said_from (seen l.source) to from l.at (l.last - l.at)
