use Rattle.std.proofs.Common.{◌≡◌, ◌+◌, ◌-◌, ◌≤◌, length}
use Rattle.sw_parse_lexemes.specs.Ahead.{walk_by, walk_from}
use Rattle.sw_parse_lexemes.proofs.ahead.walk_on.Given as goal

abbrev pub invariant-items : goal.invariant-items
invariant-items l = record {
  value : walk_by l.walk l.plains (length l.plains - l.place) l.open l.place ≡ walk_from l.walk l.plains l.count l.at;
  fits : l.open ≤ l.place + 1;
  near : l.place ≤ length l.plains + 4;
  within : l.at ≤ length l.plains → l.place ≤ length l.plains;
}

abbrev pub decreases-items : goal.decreases-items
decreases-items l = length l.plains - l.place
