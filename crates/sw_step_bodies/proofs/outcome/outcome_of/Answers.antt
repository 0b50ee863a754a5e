use Rattle.std.proofs.Common.{◌≡◌, ◌++◌, ◌∷◌, [], map, refl}
use Rattle.sw_css_print.specs.Parts.{print_one}
use Rattle.sw_world.specs.declared.end.Finish.{Finish}
use Rattle.sw_step_bodies.proofs.Printing.{outcome_done}
use Rattle.sw_step_bodies.proofs.outcome.outcome_of.Goals as goal

pub returns-in_ok-bytes-in-Done : goal.returns-in_ok-bytes-in-Done
returns-in_ok-bytes-in-Done c =
    let parts : c.as_slice.result.now ≡ map (λ (finish : Finish). print_one finish.css) c.ended.result.now ++ print_one c.in-Done.finish.css ∷ [] =
    rw (c.as_slice.ensures.value, c.in_ok-push-in-Done.ensures.items, c.in_ok-parts-in-Done.ensures, c.in_ok-new-in-Done.ensures, c.in_ok-printed-in-Done.ensures, c.get-in-Done.ensures, c.get.ensures) refl in
    rw c.from_vec.ensures
    (outcome_done c.args.end c.in-Done.finish c.args.live.now c.ended.result.now c.as_slice.result.now c.in_ok-bytes-in-Done.bytes.items c.in-Done.is c.ended.ensures parts c.in_ok-bytes-in-Done.ensures.page)
