use Rattle.std.proofs.Common.{◌≡◌, map, take}
use Rattle.sw_world.specs.declared.end.Finish.{Finish}
use Rattle.sw_css_print.specs.Parts.{print_one}
use Rattle.sw_step_bodies.proofs.outcome.parts_of.Given as goal

abbrev pub invariant-loop-finish : goal.invariant-loop-finish
invariant-loop-finish l = l.parts.items ≡ map (λ (finish : Finish). print_one finish.css) (take l.finish-index l.ended)
