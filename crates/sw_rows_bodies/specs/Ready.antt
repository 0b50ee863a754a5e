-- When a body of any engine can go on, where it stopped, and what it may be told (this project's own).
use Rattle.std.specs.Prelude.{◌≡◌}
use Rattle.sw_world.specs.declared.answer.Answer.{Answer}
use Rattle.sw_world.specs.declared.answer.Answer.TheVariants.{Loaded, Refused}
use Rattle.sw_world.specs.declared.end.Turn.{Turn}
use Rattle.sw_world.specs.Body.{BodyOf}
use Rattle.sw_world.specs.Progress.{Progress, Running, IsBody, stops}

-- it is an answer that each load can have
abbrev pub AnswersLoads : Answer → Type 0
AnswersLoads (Loaded path taken) = Unit {0}
AnswersLoads (Refused fault) = Unit {0}
AnswersLoads _ = ⊥

-- the body can go on
pub record IsReady (body : BodyOf) (p : Progress) : Type 0 where
  pub runs : p.status ≡ Running
  pub is_body : IsBody body p

-- the body stands where this turn stopped
pub record IsStopped (body : BodyOf) (p : Progress) (turn : Turn) : Type 0 where
  pub stopped : p.status ≡ stops turn
  pub is_body : IsBody body p
