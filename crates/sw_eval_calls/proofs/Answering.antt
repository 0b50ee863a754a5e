-- The steps of what may be refused, or finds no memory.
use Rattle.std.proofs.Common.{◌≡◌, Result, Ok, Err, refl}
use Rattle.std.specs.Prelude.{IsErr, IsErrAnd}
use Rattle.sw_eval_literals.specs.declared.refused.Refused.{Refused}
use Rattle.sw_eval_literals.specs.declared.refused.Refused.TheVariants as R
use Rattle.sw_eval_literals.specs.Answers.{Answer, Returns, with}

with_refused : {A B : Type 0} (right : Answer A) (next : A → Answer B) (e : Refused) → Returns {A = A} (Err e) right → Returns {A = B} (Err e) (with right next)
with_refused right next (R.Fault fault) is = rw is refl
with_refused right next R.Memory is = tt

-- a failed call, before what goes on
pub refused_then : {A B : Type 0} (right : Answer A) (next : A → Answer B) (e : Refused) (r : Result B Refused) → Returns {A = A} (Err e) right → IsErr r × IsErrAnd r (λ x. x ≡ e) → Returns r (with right next)
refused_then right next e (Ok v) is p = absurd p.1
refused_then right next e (Err x) is p = rw p.1 (with_refused right next e is)

-- where no memory is found
pub without_memory : {A : Type 0} (right : Answer A) (r : Result A Refused) → IsErr r × IsErrAnd r (λ x. x ≡ R.Memory) → Returns r right
without_memory right (Ok v) p = absurd p.1
without_memory right (Err x) p = rw p.1 tt
