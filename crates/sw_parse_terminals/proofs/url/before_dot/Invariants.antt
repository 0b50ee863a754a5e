use Rattle.std.proofs.Common.{◌≡◌, ◌+◌, drop}
use Rattle.sw_parse_terminals.specs.Urls.{before_dot}
use Rattle.sw_parse_terminals.proofs.url.before_dot.Given as goal

abbrev pub invariant-bytes : goal.invariant-bytes
invariant-bytes l = before_dot (drop l.at l.part) + l.at ≡ before_dot l.part
