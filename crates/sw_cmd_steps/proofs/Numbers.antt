-- Each request gives at most one number.
use Rattle.std.proofs.Common.{◌≡◌, ℕ, suc, ◌+◌, ◌≤◌, nat_eq, List, [], ◌∷◌, length, None, Some, refl, arith}
use Rattle.std.specs.declared.option.Option.{Option}
use Rattle.std.specs.Map.{lookup}
use Rattle.sw_modules.specs.Fresh.{Setting}
use Rattle.sw_step_bodies.specs.Stepping.{Step, Loading, Finished, Ended}
use Rattle.sw_step.specs.Joint.{Joint, UnderWay}
use Rattle.sw_cmd_protocol.specs.Transcript.{turns, held_after}
use Rattle.sw_cmd_steps.specs.Script.{Event, Put, Remove, Start, Step as Step_event}
use Rattle.sw_cmd_steps.specs.Transcript.{Mark, Edited, Answered, Refused, goes_on, answered_step, turn_of, steps}
use Rattle.sw_cmd_steps.specs.Served.{nothing_held}

goes_given : (setting : Setting) (joint : Joint) (number : ℕ) (compile : UnderWay) (left : List Step) → (goes_on setting joint number compile left).held.given ≡ joint.given
goes_given setting joint number compile [] = refl
goes_given setting joint number compile (Loading body opened ∷ left) = refl
goes_given setting joint number compile (Finished body ∷ left) = refl
goes_given setting joint number compile (Ended ∷ left) = refl

step_given : (setting : Setting) (joint : Joint) (number : ℕ) (compile : Option UnderWay) → (answered_step setting joint number compile).held.given ≡ joint.given
step_given setting joint number None = refl
step_given setting joint number (Some compile) = goes_given setting joint number compile compile.left

one_more : (setting : Setting) (joint : Joint) (event : Event) (mark : Mark) → (turn_of setting joint event mark).held.given ≤ suc joint.given
unfolding turn_of
one_more setting joint (Put path bytes) mark = omega arith
one_more setting joint (Remove path) mark = omega arith
one_more setting joint (Start entry paths) Edited = omega arith
one_more setting joint (Start entry paths) Answered = omega arith
one_more setting joint (Start entry paths) (Refused ran) = omega arith
one_more setting joint (Step_event number) Edited = omega arith
one_more setting joint (Step_event number) Answered = let e = step_given setting joint number (lookup (nat_eq number) joint.under_way) in omega (arith, e)
one_more setting joint (Step_event number) (Refused ran) = omega arith

few_from : (setting : Setting) (joint : Joint) (events : List Event) (marks : List Mark) → (held_after joint (turns (steps setting) joint events marks)).given ≤ joint.given + length marks
unfolding turns
few_from setting joint events [] = omega arith
few_from setting joint [] (mark ∷ marks) = omega arith
few_from setting joint (event ∷ events) (mark ∷ marks) =
    let one = one_more setting joint event mark in
    let rest = few_from setting (turn_of setting joint event mark).held events marks in
    omega (arith, one, rest)

pub few : (setting : Setting) (events : List Event) (marks : List Mark) → (held_after nothing_held (turns (steps setting) nothing_held events marks)).given ≤ length marks
few setting events marks = let all = few_from setting nothing_held events marks in omega (arith, all)
