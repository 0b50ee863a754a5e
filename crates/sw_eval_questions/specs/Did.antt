-- What a function of the evaluation ensures. What was made so far is of any type.
use Rattle.std.specs.Prelude.{◌≡◌, Result, Ok, Err}
use Rattle.sw_world.specs.declared.question.Question.{Question}
use Rattle.sw_world.specs.declared.answer.Answer.{Answer}
use Rattle.sw_eval_questions.specs.Talk.{Talk, Gives, Fails}
use Rattle.sw_eval_questions.specs.Ran.{Stand, Ran}
use Rattle.sw_eval_questions.specs.declared.stop.Stop.{Stop}
use Rattle.sw_eval_questions.specs.declared.stop.Stop.TheVariants.{Memory, Fault}
use Rattle.sw_eval_questions.specs.declared.asked.Asked.{Asked}

-- where the talk is when a call returned, and what was made by then
abbrev pub IsReturn : {A S : Type 0} → Result A Stop → S → Talk (A × S) → Type 0
IsReturn (Ok v) s t = t ≡ Gives (v, s)
IsReturn (Err (Fault fault)) s t = t ≡ Fails fault
IsReturn (Err Memory) s t = Unit {0}

-- the call went on with the talk t, and returned r
pub record Did {W A S : Type 0} (gives : W → Question → Answer → W → Type 0) (t : Talk (A × S)) (a : Stand) (w : W)
    (r : Result A Stop) (s : S) (b : Stand) (x : W) : Type 0 where
  pub last : Talk (A × S)
  pub ran : Ran gives t a w last b x
  pub is_return : IsReturn r s last

-- where nothing was made
abbrev pub nothing : Unit {0}
nothing = tt

abbrev pub stand : Asked → Stand
stand a = record { path = a.path; pairs = a.pairs.items; at = a.at }
