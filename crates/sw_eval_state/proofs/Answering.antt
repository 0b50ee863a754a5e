-- The steps of what may be refused, or finds no memory, in functions that ask nothing.
use Rattle.std.proofs.Common.{◌≡◌, Result, Ok, Err, refl}
use Rattle.std.specs.Prelude.{IsErr, IsErrAnd}
use Rattle.sw_eval_literals.specs.declared.refused.Refused.{Refused}
use Rattle.sw_eval_literals.specs.declared.refused.Refused.TheVariants as R
use Rattle.sw_eval_literals.specs.Answers.{Answer, Returns}
use Rattle.sw_eval_questions.specs.Talk.{Talk, Gives}
use Rattle.sw_eval_questions.specs.Did.{IsReturn}
use Rattle.sw_eval_questions.specs.Refusals.{answer, stop_of, stopped}
use Rattle.sw_eval_questions.specs.declared.stop.Stop.{Stop}
use Rattle.sw_eval_questions.specs.declared.stop.Stop.TheVariants.{Memory}
use Rattle.sw_eval_questions.proofs.Steps.{err_of}
use Rattle.sw_eval_questions.proofs.Refusals.{plain_answer}

pub out_of_memory : {A S : Type 0} (t : Talk (A × S)) (s : S) (r : Result A Stop) → IsErr r × IsErrAnd r (λ y. y ≡ Memory) → IsReturn r s t
out_of_memory t s r p = rw (err_of r Memory p) tt

refused_return : {A S : Type 0} (right : Answer A) (e : Refused) (s : S) → Returns (Err e) right → IsReturn {A = A} (Err (stop_of e)) s (answer right s)
unfolding answer
refused_return right (R.Fault code) s is = rw is refl
refused_return right R.Memory s is = tt

-- a value that is given
pub gives_same : {A S : Type 0} (v w : A) (s : S) → w ≡ v → IsReturn (Ok w) s (Gives (v, s))
gives_same v w s is = rw is refl

-- what is returned as it is
pub plain_stopped : {A S : Type 0} (right : Answer A) (r : Result A Refused) (q : Result A Stop) (s : S) → Returns r right → q ≡ stopped r → IsReturn q s (answer right s)
plain_stopped right (Ok v) q s is same = rw same (plain_answer right v s is)
plain_stopped right (Err e) q s is same = rw same (refused_return right e s is)
