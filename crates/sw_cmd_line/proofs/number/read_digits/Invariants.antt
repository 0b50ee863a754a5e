use Rattle.std.proofs.Common.{◌≡◌, drop}
use Rattle.sw_cmd_line.specs.Forms.{number_from}
use Rattle.sw_cmd_line.proofs.number.read_digits.Given as goal

abbrev pub invariant-loop-digit : goal.invariant-loop-digit
invariant-loop-digit l = number_from 0 l.digits ≡ number_from l.number (drop l.digit-index l.digits)
