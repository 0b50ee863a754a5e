-- What a turn of a body tells.
use Rattle.std.proofs.Common.{◌≡◌, ℕ, zero, suc, ◌+◌, ◌-◌, ◌<◌, ◌≤◌, List, [], ◌∷◌, ◌++◌, length, take, drop, Some, refl, sym, ◌∙◌, ap, append-nil, arith}
use Rattle.sw_world.specs.declared.question.Question.{Question}
use Rattle.sw_world.specs.declared.answer.Answer.{Answer}
use Rattle.sw_world.specs.declared.end.End.TheVariants.{Done, Fault}
use Rattle.sw_text.specs.declared.fault.Fault.{Fault as Fault_at}
use Rattle.sw_text.specs.declared.place.Span.{Span}
use Rattle.sw_world.specs.Body.{Pair, Job, Next, Asks, Ends, answers}
use Rattle.sw_world.specs.Laws.{most_asked}
use Rattle.sw_eval_questions.specs.Talk.{NumberedQuestion, Talk, Gives, Fails, Asking, answered, next_by, run}
use Rattle.sw_eval_questions.specs.Ran.{Stand, Ran, op_at}
use Rattle.sw_eval_questions.specs.Told.{IsRest, Told, tells}
use Rattle.sw_eval_state.specs.Left.{end_of, finish_of}
use Rattle.sw_eval_state.specs.Begin.{begin}
use Rattle.sw_eval.specs.Means.{body, from}
use Rattle.sw_eval_questions.specs.Turns.{TurnDid}
use Rattle.sw_eval.specs.Resume.{IsResume}
use Rattle.sw_eval_state.specs.declared.state.State.{State}

pub turn_told : {W : Type 0} (gives : W → Question → Answer → W → Type 0) (job : Job) (ps : List Pair) (n i : ℕ) (s : State) (w x : W) (u : Talk (Unit {0} × State)) (b : Stand)
    → IsResume job ps n i s → Ran gives (from job i s) (record { path = job.path; pairs = ps; at = n }) w u b x → Told gives (end_of job.sheet) job.path (body job) ps w u b x
turn_told gives job ps n i s w x u b is ran = tells (end_of job.sheet) job.path (body job) (from job i s) u ps n b w x is.within is.rest ran

pub turn_did : {W : Type 0} (gives : W → Question → Answer → W → Type 0) (job : Job) (ps : List Pair) (w x : W) (u : Talk (Unit {0} × State)) (s : Stand) → Told gives (end_of job.sheet) job.path (body job) ps w u s x → TurnDid gives (body job) ps w s.pairs x
turn_did gives job ps w x u s t = record { asked = t.asked; grew = t.grew; led = t.led; goes = t.goes }

pub resume_begin : (job : Job) (qs : List Pair) → IsResume job qs 0 0 begin
unfolding body
resume_begin job qs = record { rest = λ more. ap (λ l. run (end_of job.sheet) job.path most_asked [] (from job 0 begin) (answers l ++ more)) (none qs) ∙ counted most_asked refl qs more; within = omega arith }
  where
    none : (ps : List Pair) → take 0 ps ≡ []
    none [] = refl
    none (p ∷ ps) = refl

    counted : (m : ℕ) → most_asked ≡ m → (ps : List Pair) (more : List Answer) → run (end_of job.sheet) job.path m [] (from job 0 begin) more
        ≡ run (end_of job.sheet) job.path (most_asked - 0) (answers (take 0 ps)) (from job 0 begin) more
    counted m e ps more =
        let k : m ≡ most_asked - 0 = omega (arith, e) in
        ap (λ j. run (end_of job.sheet) job.path j [] (from job 0 begin) more) k ∙ ap (λ l. run (end_of job.sheet) job.path (most_asked - 0) (answers l) (from job 0 begin) more) (sym (none ps))

take_all : (ps : List Pair) (n : ℕ) → length ps ≤ n → take n ps ≡ ps
take_all [] zero le = refl
take_all [] (suc n) le = refl
take_all (p ∷ ps) zero le = absurd (omega arith)
take_all (p ∷ ps) (suc n) le = ap (λ l. p ∷ l) (take_all ps n (omega arith))

split : (ps : List Pair) (n : ℕ) → answers (take n ps) ++ answers (drop n ps) ≡ answers ps
split [] zero = refl
split [] (suc n) = refl
split (p ∷ ps) zero = refl
split (p ∷ ps) (suc n) = ap (λ l. p.1 ∷ l) (split ps n)

module _ (job : Job) (qs : List Pair) (n : ℕ) where
  pub step_load : (q : NumberedQuestion) (op : Question) (at : Span) (k : ℕ → Answer → Talk (Unit {0} × State)) (u : Talk (Unit {0} × State)) → IsRest (end_of job.sheet) job.path (body job) qs n u → u ≡ Asking q at k → op_at job.path qs n q ≡ Some op
      → n < most_asked → length qs ≤ n → body job (answers qs) ≡ Asks op
  unfolding run
  step_load q op at k u is waits known few le =
      let e : most_asked - n ≡ suc (most_asked - (n + 1)) = omega arith in
      let seen : List Answer = answers (take n qs) in
      let on : Answer → List Answer → Next = λ c rest. run (end_of job.sheet) job.path (most_asked - (n + 1)) (seen ++ c ∷ []) (answered (k (length seen)) c) rest in
      ap (body job) (sym (append-nil (answers qs))) ∙ ap (λ l. body job (answers l ++ [])) (sym (take_all qs n le)) ∙ is [] ∙ ap (λ t. run (end_of job.sheet) job.path (most_asked - n) seen t []) waits
      ∙ ap (λ m. run (end_of job.sheet) job.path m seen (Asking q at k) []) e ∙ ap (λ o. next_by o at [] on) known

  pub step_done : (s : State) → IsRest (end_of job.sheet) job.path (body job) qs n (Gives (tt, s)) → body job (answers qs) ≡ Ends (Done (finish_of job.sheet s))
  unfolding run
  step_done s is = ap (body job) (sym (split qs n)) ∙ is (answers (drop n qs))

  pub step_fault : (code : Fault_at) → IsRest (end_of job.sheet) job.path (body job) qs n (Fails code) → body job (answers qs) ≡ Ends (Fault code)
  unfolding run
  step_fault code is = ap (body job) (sym (split qs n)) ∙ is (answers (drop n qs))
