-- What a walk over the top level does.
use Rattle.std.specs.Prelude.{◌≡◌, ℕ, ◌<◌, ◌≤◌, List, length, Option, Some, None, Result, Ok, Err}
use Rattle.sw_text.specs.declared.place.Span.{Span}
use Rattle.sw_world.specs.declared.question.Question.{Question}
use Rattle.sw_world.specs.declared.answer.Answer.{Answer}
use Rattle.sw_world.specs.Questions.{IsLoad}
use Rattle.sw_world.specs.Laws.{most_asked}
use Rattle.sw_eval_questions.specs.Talk.{NumberedQuestion, Talk, Gives, Fails, Asking}
use Rattle.sw_eval_questions.specs.Ran.{Stand, Ran, op_at}
use Rattle.sw_eval_questions.specs.Did.{Did}
use Rattle.sw_eval_questions.specs.declared.stop.Stop.{Stop}
use Rattle.sw_eval_questions.specs.declared.stop.Stop.TheVariants.{Memory, Fault}
use Rattle.sw_eval_state.specs.Eval.{Eval}
use Rattle.sw_eval_state.specs.declared.state.State.{State}

-- where it stops at a load whose answer isn't known: what is left is the talk u
pub record WaitsAt {W : Type 0} (gives : W → Question → Answer → W → Type 0) (t : Talk (Unit {0} × State)) (a : Stand)
    (w : W) (op : Question) (u : Talk (Unit {0} × State)) (b : Stand) (y : W) : Type 0 where
  pub ran : Ran gives t a w u b y
  pub is_load : IsLoad op
  pub at : Span
  pub question : NumberedQuestion
  pub next : ℕ → Answer → Talk (Unit {0} × State)
  pub waits : u ≡ Asking question at next
  pub op_is : op_at b.path b.pairs b.at question ≡ Some op
  pub few : b.at < most_asked
  pub at_end : length b.pairs ≤ b.at

module _ {W : Type 0} (gives : W → Question → Answer → W → Type 0) where
  -- of a statement, which goes on at its load with what was made by then
  abbrev pub TopDid : Eval (Unit {0}) → State → Stand → W → Result (Option Question) Stop → State → Stand → W → Type 0
  TopDid go s a w (Ok None) u b y = Did gives (go s) a w (Ok tt) u b y
  TopDid go s a w (Ok (Some op)) u b y = WaitsAt gives (go s) a w op (go u) b y
  TopDid go s a w (Err e) u b y = Did gives (go s) a w (Err e) u b y

  -- of the statements from a number on, which go on from another
  abbrev pub Walked : (ℕ → Eval (Unit {0})) → ℕ → State → Stand → W → Result (Option Question) Stop → ℕ → State → Stand → W
      → Type 0
  Walked rest i s a w (Ok None) j u b y = Ran gives (rest i s) a w (Gives (tt, u)) b y
  Walked rest i s a w (Ok (Some op)) j u b y = WaitsAt gives (rest i s) a w op (rest j u) b y
  Walked rest i s a w (Err (Fault fault)) j u b y = Ran gives (rest i s) a w (Fails fault) b y
  Walked rest i s a w (Err Memory) j u b y = (t : Talk (Unit {0} × State)) × Ran gives (rest i s) a w t b y
