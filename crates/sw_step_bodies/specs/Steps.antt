-- What an answer tells of a step (this project's own rule).
use Rattle.std.specs.Prelude.{ℕ, ◌-◌, List, [], ◌∷◌, length, drop, map}
use Rattle.sw_step_bodies.specs.declared.stepped.Stepped.{Stepped}
use Rattle.sw_step_bodies.specs.declared.stepped.Stepped.TheVariants as S
use Rattle.sw_step_bodies.specs.Stepping.{Step, Loading, Finished, Ended}

-- the step that was answered
abbrev pub step_of : Stepped → Step
step_of (S.Loading body opened) = Loading body opened
step_of (S.Finished body) = Finished body
step_of (S.Ended reply) = Ended

-- the body that ended last
abbrev pub last_ended : List (List ℕ × ℕ) → List (List ℕ)
last_ended times = map (λ one. one.0) (drop (length times - 1) times)

-- the body that ended in a step, where one did
abbrev pub ended_in : Stepped → List (List ℕ)
ended_in (S.Loading body opened) = []
ended_in (S.Finished body) = body ∷ []
ended_in (S.Ended reply) = last_ended reply.times
