use Rattle.std.proofs.Common.{◌≡◌, drop}
use Rattle.sw_wire.specs.Numbers.{number_from}
use Rattle.sw_wire.proofs.number.read_digits.Given as goal

abbrev pub invariant-loop-digit : goal.invariant-loop-digit
invariant-loop-digit l = number_from l.most 0 l.digits ≡ number_from l.most l.number (drop l.digit-index l.digits)
