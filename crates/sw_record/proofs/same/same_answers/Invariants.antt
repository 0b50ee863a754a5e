use Rattle.std.proofs.Common.{◌≡◌, take}
use Rattle.sw_world.specs.Body.{answers}
use Rattle.sw_record.proofs.same.same_answers.Given as goal

abbrev pub invariant-loop-at : goal.invariant-loop-at
invariant-loop-at l = answers (take l.at l.a) ≡ answers (take l.at l.b)
