use Rattle.std.proofs.Common.{◌≡◌, ◌++◌, drop}
use Rattle.sw_convert_written.specs.Expressions.{signs_text}
use Rattle.sw_convert_written.proofs.signs.put_signs.Given as goal

abbrev pub invariant-signs : goal.invariant-signs
invariant-signs l = l.out.items ++ signs_text (drop l.sign-index l.signs) ≡ l.initial.out.items ++ signs_text l.signs
