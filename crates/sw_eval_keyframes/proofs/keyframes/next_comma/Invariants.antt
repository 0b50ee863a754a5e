use Rattle.std.proofs.Common.{◌≡◌, ◌-◌, length}
use Rattle.sw_eval_keyframes.specs.Keyframes.{comma_in, next_comma}
use Rattle.sw_eval_keyframes.proofs.keyframes.next_comma.Given as goal

abbrev pub invariant-places : goal.invariant-places
invariant-places l = comma_in (length l.bytes - l.at) l.bytes l.at ≡ next_comma l.bytes l.from
