-- What was heard, for whatever was made so far.
use Rattle.std.proofs.Common.{◌≡◌, ℕ, Result, Ok, Err, IfOk, refl, ap}
use Rattle.sw_text.specs.declared.fault.Fault.{Fault as Fault_at}
use Rattle.sw_text.specs.declared.place.Span.{Span}
use Rattle.sw_world.specs.declared.question.Question.{Question}
use Rattle.sw_world.specs.declared.answer.Answer.{Answer}
use Rattle.sw_eval_questions.specs.Talk.{NumberedQuestion, Talk, Gives, Fails, bind}
use Rattle.sw_eval_questions.specs.Ran.{within}
use Rattle.sw_eval_questions.specs.Did.{Did, IsReturn, nothing, stand}
use Rattle.sw_eval_questions.specs.Asking.{asking, Heard}
use Rattle.sw_eval_questions.specs.declared.asked.Asked.{Asked}
use Rattle.sw_eval_questions.specs.declared.stop.Stop.{Stop}
use Rattle.sw_eval_questions.specs.declared.stop.Stop.TheVariants.{Memory, Fault}

-- a fault is no value
pub fails_ok : {A S : Type 0} (r : Result A Stop) (P : A → Type 0) (s : S) (code : Fault_at) → IsReturn r s (Fails code) → IfOk r P
fails_ok (Ok v) P s code is = absurd cc
fails_ok (Err e) P s code is = tt

-- a fault is one whatever was made so far
pub failed : {A S : Type 0} (r : Result A Stop) (code : Fault_at) (s : S) → IsReturn r nothing (Fails code) → IsReturn r s (Fails code)
failed (Ok v) code s is = absurd cc
failed (Err Memory) code s is = tt
failed (Err (Fault other)) code s is = let k : code ≡ other = cc in ap Fails k

-- what was made so far, beside what a talk that makes nothing gives
kept : {A S : Type 0} → S → A × Unit {0} → Talk (A × S)
kept s v = Gives (v.0, s)

returned : {A S : Type 0} (r : Result A Stop) (s : S) (t : Talk (A × Unit {0})) → IsReturn r nothing t → IsReturn r s (bind t (kept s))
unfolding bind kept
returned (Ok v) s t is = ap (λ (u : Talk _). bind u (kept s)) is
returned (Err Memory) s t is = tt
returned (Err (Fault code)) s t is = ap (λ (u : Talk _). bind u (kept s)) is

pub heard : {W S : Type 0} {gives : W → Question → Answer → W → Type 0} (q : NumberedQuestion) (at : Span) (a b : Asked) {w x : W} {r : Result (ℕ × Answer) Stop} (s : S)
    → Heard gives q at a w r b x → Did gives (asking q at s) (stand a) w r s (stand b) x
unfolding asking bind kept
heard q at a b {w = w} {x = x} {r = r} s d = record {
  last = bind d.last (kept s);
  ran = within (asking q at nothing) d.last (kept s) (stand a) (stand b) w x d.ran;
  is_return = returned r s d.last d.is_return;
}
