-- The steps of what is made without asking, and may be refused.
use Rattle.std.proofs.Common.{◌≡◌, Result, Ok, Err, refl}
use Rattle.std.specs.Prelude.{IsErr, IsErrAnd}
use Rattle.sw_eval_literals.specs.declared.refused.Refused.{Refused}
use Rattle.sw_eval_literals.specs.declared.refused.Refused.TheVariants as R
use Rattle.sw_eval_literals.specs.Answers.{Answer as Answer_of, Returns}
use Rattle.sw_world.specs.declared.question.Question.{Question}
use Rattle.sw_world.specs.declared.answer.Answer.{Answer}
use Rattle.sw_eval_questions.specs.Talk.{Talk, bind}
use Rattle.sw_eval_questions.specs.Ran.{Stand}
use Rattle.sw_eval_questions.specs.Did.{Did, IsReturn}
use Rattle.sw_eval_questions.specs.Refusals.{answer, stop_of, stopped}
use Rattle.sw_eval_questions.specs.declared.stop.Stop.{Stop}
use Rattle.sw_eval_questions.proofs.Steps.{plain_err, did_value, did_fault, did_memory, did_err}

-- in a function that asks nothing
pub plain_answer : {A S : Type 0} (right : Answer_of A) (v : A) (s : S) → Returns (Ok v) right → IsReturn (Ok v) s (answer right s)
unfolding answer
plain_answer right v s is = rw is refl

refused_return : {A S : Type 0} (right : Answer_of A) (e : Refused) (s : S) → Returns (Err e) right → IsReturn {A = A} (Err (stop_of e)) s (answer right s)
unfolding answer
refused_return right (R.Fault code) s is = rw is refl
refused_return right R.Memory s is = tt

pub plain_refused : {A B S : Type 0} (right : Answer_of A) (f : A × S → Talk (B × S)) (e : Refused) (r : Result B Stop) (s u : S) → Returns (Err e) right → IsErr r × IsErrAnd r (λ x. x ≡ stop_of e)
    → IsReturn r u (bind (answer right s) f)
plain_refused right f e r s u is p = plain_err (answer right s) f (stop_of e) r s u (refused_return right e s is) p

module _ {W : Type 0} {gives : W → Question → Answer → W → Type 0} where
  -- the value
  pub did_answer : {A S : Type 0} (right : Answer_of A) (v : A) (s : S) (a : Stand) (w : W) → Returns (Ok v) right → Did gives (answer right s) a w (Ok v) s a w
  unfolding answer
  did_answer right v s a w is = rw is (did_value v s a w)

  refused_by : {A S : Type 0} (right : Answer_of A) (e : Refused) (s : S) (a : Stand) (w : W) → Returns (Err e) right → Did gives (answer right s) a w (Err (stop_of e)) s a w
  unfolding answer
  refused_by right (R.Fault code) s a w is = rw is (did_fault code s a w)
  refused_by right R.Memory s a w is = did_memory (answer right s) s a w

  -- what is returned as it is
  pub did_stopped : {A S : Type 0} (right : Answer_of A) (r : Result A Refused) (q : Result A Stop) (s : S) (a : Stand) (w : W) → Returns r right → q ≡ stopped r → Did gives (answer right s) a w q s a w
  did_stopped right (Ok v) q s a w is same = rw same (did_answer right v s a w is)
  did_stopped right (Err e) q s a w is same = rw same (refused_by right e s a w is)

  -- what is refused, before what goes on
  pub did_refused : {A B S : Type 0} (right : Answer_of A) (f : A × S → Talk (B × S)) (e : Refused) (r : Result B Stop) (s : S) (a : Stand) (w : W) → Returns (Err e) right → IsErr r × IsErrAnd r (λ y. y ≡ stop_of e)
      → Did gives (bind (answer right s) f) a w r s a w
  did_refused right f e r s a w is p = did_err f (refused_by right e s a w is) p
