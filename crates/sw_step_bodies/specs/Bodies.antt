-- Where open bodies are.
use Rattle.std.specs.Prelude.{◌≡◌, ◌≤◌, List, [], ◌++◌, length, Option, None, Some}
use Rattle.sw_world.specs.declared.question.Question.{Question}
use Rattle.sw_world.specs.declared.end.End.{End}
use Rattle.sw_world.specs.Body.{Pair, Job, Asks, Ends, BodyOf, answers, Goes}
use Rattle.sw_world.specs.Questions.{IsLoad}
use Rattle.sw_world.specs.Progress.{Progress, Running as Running_body, Waiting, IsBody}
use Rattle.sw_step_bodies.specs.declared.body.Work.{Work}
use Rattle.sw_step_bodies.specs.declared.body.Place.{Place}
use Rattle.sw_step_bodies.specs.declared.body.Place.TheVariants.{Known, Running, Asking}
use Rattle.sw_step_bodies.specs.Standing.{Standing, Waits}

abbrev pub job_of : Work → Job
job_of work = record { sheet = work.sheet; config = work.config; path = work.path }

-- the pairs behind a body
abbrev pub pairs_at : {B : Type 0} → (B → Progress) → Place B → List Pair
pairs_at progress (Known known) = known
pairs_at progress (Running body) = (progress body).seen ++ (progress body).left
pairs_at progress (Asking body op) = (progress body).seen

-- the load that is to be answered next
abbrev pub asks_at : {B : Type 0} → Place B → Option Question
asks_at (Known known) = None
asks_at (Running body) = None
asks_at (Asking body op) = Some op

abbrev pub IsPlace : {B : Type 0} → BodyOf → (B → Progress) → Job → Place B → Type 0
IsPlace next progress job (Known known) = Goes (next job) [] known
IsPlace next progress job (Running body) =
    ((progress body).job ≡ job) × ((progress body).status ≡ Running_body) × IsBody next (progress body)
IsPlace next progress job (Asking body op) =
    ((progress body).job ≡ job) × ((progress body).status ≡ Waiting op) × IsBody next (progress body)

abbrev pub standing_of : {B : Type 0} → (B → Progress) → Work → Place B → Standing
standing_of progress work place =
    record { job = job_of work; count = work.loads; pairs = pairs_at progress place }

-- the innermost open body, and the load that is to be answered next
pub record Inner : Type 0 where
  pub standing : Standing
  pub asks : Option Question

-- it is where its place says, and of its loads no more opened bodies than were answered
pub record IsInner {B : Type 0} (next : BodyOf) (progress : B → Progress) (work : Work) (place : Place B) : Type 0 where
  pub is_place : IsPlace next progress (job_of work) place
  pub few : work.loads ≤ length (pairs_at progress place)

-- a body that has these pairs behind it asks for a load
pub record IsAsking (next : BodyOf) (b : Standing) (op : Question) : Type 0 where
  pub load : IsLoad op
  pub goes : Goes (next b.job) [] b.pairs
  pub asks : next b.job (answers b.pairs) ≡ Asks op

-- it ends so
pub record IsEnding (next : BodyOf) (b : Standing) (end : End) : Type 0 where
  pub goes : Goes (next b.job) [] b.pairs
  pub ends : next b.job (answers b.pairs) ≡ Ends end

-- a body that waits
pub record IsWaiting (next : BodyOf) (p : Progress) (work : Work) (op : Question) : Type 0 where
  pub same_job : p.job ≡ job_of work
  pub waits : p.status ≡ Waiting op
  pub is_body : IsBody next p
  pub few : work.loads ≤ length p.seen

abbrev pub waits_of : Work → Progress → Question → Waits
waits_of work p op = record { body = record { job = job_of work; count = work.loads; pairs = p.seen }; op = op }
