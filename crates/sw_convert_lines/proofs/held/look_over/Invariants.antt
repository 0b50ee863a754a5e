use Rattle.std.proofs.Common.{◌≡◌, drop}
use Rattle.sw_convert_lines.specs.Held.{unlooked, look_over}
use Rattle.sw_convert_lines.proofs.held.look_over.Given as goal

abbrev pub invariant-tokens : goal.invariant-tokens
invariant-tokens l =
    look_over l.custom l.text l.look (drop l.at l.tokens.list) ≡ look_over l.custom l.text unlooked l.tokens.list
