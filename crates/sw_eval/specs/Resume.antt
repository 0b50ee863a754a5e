-- What is kept of a body between its turns.
use Rattle.std.specs.Prelude.{ℕ, ◌≤◌, Bool, List, length}
use Rattle.sw_world.specs.Body.{Pair, Job}
use Rattle.sw_eval_questions.specs.Told.{IsRest}
use Rattle.sw_eval_questions.specs.Turns.{HasRoom}
use Rattle.sw_eval_questions.specs.declared.place.Place.{Place}
use Rattle.sw_eval_state.specs.Left.{end_of}
use Rattle.sw_eval_state.specs.declared.state.State.{State}
use Rattle.sw_eval.specs.Means.{body, from}

-- the rest of the body, from where its evaluation stands
pub record IsResume (job : Job) (pairs : List Pair) (at next : ℕ) (s : State) : Type 0 where
  pub rest : IsRest (end_of job.sheet) job.path (body job) pairs at (from job next s)
  pub within : at ≤ length pairs

-- what holds of the fields of a body
pub record Keeps (job : Job) (pairs : List Pair) (at next : ℕ) (s : State) (place : Place) (has_room : Bool) : Type 0
  where
    pub resume : IsResume job pairs at next s
    pub room : HasRoom place has_room
