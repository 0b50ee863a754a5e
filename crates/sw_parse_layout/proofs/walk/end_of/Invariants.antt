use Rattle.std.proofs.Common.{◌≡◌, length}
use Rattle.sw_parse_layout.specs.Layout.{end_of}
use Rattle.sw_parse_layout.proofs.walk.end_of.Given as goal

abbrev pub invariant-tokens : goal.invariant-tokens
invariant-tokens l = end_of l.at l.rest ≡ end_of l.at l.tokens

abbrev pub decreases-tokens : goal.decreases-tokens
decreases-tokens l = length l.rest
