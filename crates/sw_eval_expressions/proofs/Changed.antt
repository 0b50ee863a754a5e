-- What was changed in place, as a value that a call returned.
use Rattle.std.proofs.Common.{◌≡◌, Result, Ok, Err, refl}
use Rattle.std.specs.Prelude.{IsErr, IsErrAnd}
use Rattle.sw_eval_literals.specs.declared.refused.Refused.{Refused}
use Rattle.sw_eval_literals.specs.Answers.{changed}
use Rattle.sw_eval_questions.specs.Refusals.{stopped}
use Rattle.sw_eval_questions.specs.declared.stop.Stop.{Stop}

pub changed_err : {A : Type 0} (v : A) (r : Result (Unit {0}) Stop) (e : Stop) → IsErr r × IsErrAnd r (λ x. x ≡ e) → IsErr (changed v r) × IsErrAnd (changed v r) (λ x. x ≡ e)
changed_err v (Ok u) e p = absurd p.1
changed_err v (Err x) e p = p

pub changed_stopped : {A : Type 0} (v : A) (r : Result (Unit {0}) Refused) (q : Result (Unit {0}) Stop) → q ≡ stopped r → changed v q ≡ stopped (changed v r)
changed_stopped v (Ok u) q e = rw e refl
changed_stopped v (Err x) q e = rw e refl
