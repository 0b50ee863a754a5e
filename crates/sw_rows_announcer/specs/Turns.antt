-- Turns of a body of the announcer, and what is kept of it between them (this project's own).
use Rattle.std.specs.Prelude.{◌≡◌, ◌++◌, Bool, IsTrue, if◌then◌else◌, List, []}
use Rattle.sw_world.specs.declared.question.Question.{Question}
use Rattle.sw_world.specs.declared.answer.Answer.{Answer}
use Rattle.sw_world.specs.declared.end.Turn.{Turn}
use Rattle.sw_world.specs.declared.end.Turn.TheVariants.{Load as Turn_Load, Ended as Turn_Ended}
use Rattle.sw_world.specs.Questions.{IsLoad}
use Rattle.sw_world.specs.Body.{Pair, Job, Next, Asks, Ends, Leads, Goes, answers}
use Rattle.sw_world.specs.Progress.{Status, Running, Waiting, Ended, Progress}
use Rattle.sw_rows_announcer.specs.declared.place.Place.{Place}
use Rattle.sw_rows_announcer.specs.declared.place.Place.TheVariants.{Running as At_Running, Waiting as At_Waiting, Ended as At_Ended}

abbrev pub HasRoom : Place → Bool → Type 0
HasRoom (At_Waiting op) has_room = IsTrue has_room
HasRoom _ has_room = Unit {0}

-- what a turn of a body did
pub record TurnDid {W : Type 0} (gives : W → Question → Answer → W → Type 0) (b : List Answer → Next) (ps : List Pair)
    (w : W) (qs : List Pair) (x : W) : Type 0 where
  pub asked : List Pair
  pub grew : qs ≡ ps ++ asked
  pub led : Leads gives w asked x
  pub goes : Goes b (answers ps) asked

abbrev pub IsStep : (List Answer → Next) → List Pair → Turn → Type 0
IsStep b qs (Turn_Load op) = (b (answers qs) ≡ Asks op) × IsLoad op
IsStep b qs (Turn_Ended end) = b (answers qs) ≡ Ends end

-- where a body is once a turn stopped
abbrev pub place_of : Turn → Place
place_of (Turn_Load op) = At_Waiting op
place_of (Turn_Ended end) = At_Ended end

abbrev pub HasRoomAt : Turn → Bool → Type 0
HasRoomAt turn has_room = HasRoom (place_of turn) has_room

-- what contracts see of a body
pub record Shown : Type 0 where
  pub job : Job
  pub pairs : List Pair
  pub started : Bool
  pub place : Place

abbrev pub status_of : Place → Status
status_of At_Running = Running
status_of (At_Waiting op) = Waiting op
status_of (At_Ended end) = Ended end

abbrev pub progress : Shown → Progress
progress b = record {
  job = b.job;
  left = if b.started then [] else b.pairs;
  seen = if b.started then b.pairs else [];
  status = status_of b.place;
}
