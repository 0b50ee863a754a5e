-- The rest of an evaluation.
use Rattle.std.proofs.Common.{◌≡◌, ℕ, suc, ◌+◌, ◌-◌, ◌<◌, ◌≤◌, List, [], ◌∷◌, ◌++◌, length, refl, sym, ◌∙◌, ap, subst, length-append, arith}
use Rattle.sw_values.specs.declared.plain.Plain.{Plain}
use Rattle.sw_world.specs.declared.question.Question.{Question}
use Rattle.sw_world.specs.declared.question.Question.TheVariants.{Load, Find, Get, Put, Say, Call}
use Rattle.sw_world.specs.declared.answer.Answer.{Answer}
use Rattle.sw_world.specs.declared.end.End.{End}
use Rattle.sw_world.specs.Body.{Pair, Job, Run, Next, Asks, Ends, Goes, Leads, answers}
use Rattle.sw_world.specs.Questions.{IsLoad}
use Rattle.sw_world.specs.Laws.{EndsInTime, most_asked}
use Rattle.sw_modules.specs.State.{State}
use Rattle.sw_modules.specs.Outside.{Functions, Outside, plain}
use Rattle.sw_modules.specs.Fresh.{Setting, Evaluation, Response, responds, goes_on, fresh, room, rest_of, from_open, ended, turn, evaluated_by}
use Rattle.sw_modules.specs.Law.{left_after, runs_of, AreAnswers}
use Rattle.sw_modules.specs.Calls.{HostCall, after_calls, calls_for, calls_on, calls_read, calls_within, calls_left, calls_open}
use Rattle.sw_modules.proofs.ComesBy as law
use Rattle.sw_modules.proofs.Calls.{calls_along, calls_come_by, along_leads, fresh_leads, calls_on-asks}
use Rattle.sw_keeper.proofs.Pairs.{goes_rest, within}

-- what is outside, as a world has it
module _ {W : Type 0} (gives : W → Question → Answer → W → Type 0) (view : W → Outside) (functions : Functions) (is : (w : W) (op : Question) (a : Answer) (t : W) → gives w op a t → plain functions op (view w) ≡ (a, view t)) where
  -- a question that is no load is answered plainly
  responds_plain : (inner : Evaluation) (w : W) (p : Pair) (t : W) → (IsLoad p.0 → ⊥) → gives w p.0 p.1 t
      → responds functions inner p.0 (view w) ≡ record { answer = p.1; outside = view t; runs = [] }
  responds_plain inner w (Load site url span how config, a) t not given = absurd (not tt)
  responds_plain inner w (Find site space kind name, a) t not given = ap (λ (q : Answer × Outside). record { answer = q.0; outside = q.1; runs = [] }) (is w (Find site space kind name) a t given)
  responds_plain inner w (Get owner name, a) t not given = ap (λ (q : Answer × Outside). record { answer = q.0; outside = q.1; runs = [] }) (is w (Get owner name) a t given)
  responds_plain inner w (Put owner name value, a) t not given = ap (λ (q : Answer × Outside). record { answer = q.0; outside = q.1; runs = [] }) (is w (Put owner name value) a t given)
  responds_plain inner w (Say kind span text, a) t not given = ap (λ (q : Answer × Outside). record { answer = q.0; outside = q.1; runs = [] }) (is w (Say kind span text) a t given)
  responds_plain inner w (Call name args, a) t not given = ap (λ (q : Answer × Outside). record { answer = q.0; outside = q.1; runs = [] }) (is w (Call name args) a t given)

  -- questions that lead the world from one to another are answered by what is outside, and end no run
  pub led : (inner : Evaluation) (w : W) (ps : List Pair) (t : W) → Leads gives w ps t
      → AreAnswers functions inner (view w) ps × (left_after functions inner (view w) ps ≡ view t) × (runs_of functions inner (view w) ps ≡ [])
  led inner w [] t leads = (tt, ap view (sym leads), refl)
  led inner w (p ∷ ps) t leads =
      let one = responds_plain inner w p leads.1.0 leads.0 leads.1.1 in
      let rest = led inner leads.1.0 ps t leads.1.2 in
      let P : Response → Type 0 = λ r. (r.answer ≡ p.1) × AreAnswers functions inner r.outside ps × (left_after functions inner r.outside ps ≡ view t) × (r.runs ++ runs_of functions inner r.outside ps ≡ []) in
      let all = subst P (sym one) (refl, rest.0, rest.1, rest.2) in
      ((all.0, all.1), all.2, all.3)

  -- and they open and close nothing
  plain_opened : (op : Question) (o : Outside) → (plain functions op o).1.live.opened ≡ o.live.opened
  plain_opened (Load site url span how config) o = refl
  plain_opened (Find site space kind name) o = refl
  plain_opened (Get owner name) o = refl
  plain_opened (Put owner name value) o = refl
  plain_opened (Say kind span text) o = refl
  plain_opened (Call name args) o = refl

  pub led_opened : (w : W) (ps : List Pair) (t : W) → Leads gives w ps t → length (view t).live.opened ≡ length (view w).live.opened
  led_opened w [] t leads = ap (λ (x : W). length (view x).live.opened) leads
  led_opened w (p ∷ ps) t leads =
      led_opened leads.1.0 ps t leads.1.2 ∙ ap (λ (q : Answer × Outside). length q.1.live.opened) (sym (is w p.0 p.1 leads.1.0 leads.1.1)) ∙ ap length (plain_opened p.0 (view w))

-- after these questions and answers the rest of the evaluation is the rest
pub rest_more : (setting : Setting) (job : Job) (text : List ℕ) (pairs asked : List Pair) (runs : List Run) (o t : Outside) (new : List Run)
    → EndsInTime setting.body → Goes (setting.body job) [] (pairs ++ asked)
    → AreAnswers setting.functions (fresh setting (room o.live)) o asked → left_after setting.functions (fresh setting (room o.live)) o asked ≡ t
    → runs_of setting.functions (fresh setting (room o.live)) o asked ≡ new → length t.live.opened ≡ length o.live.opened
    → rest_of setting job text pairs runs o ≡ rest_of setting job text (pairs ++ asked) (runs ++ new) t
rest_more setting job text pairs asked runs o t new in_time goes are left ran opened =
    let inner = fresh setting (room o.live) in
    let bound : length (pairs ++ asked) ≤ most_asked = within setting.body job (pairs ++ asked) in_time goes in
    let len = length-append pairs asked in
    let more : ℕ = suc most_asked - length (pairs ++ asked) in
    let turns : suc most_asked - length pairs ≡ more + length asked = omega (arith, bound, len) in
    let by : goes_on setting inner job text (more + length asked) pairs runs o
    ≡ goes_on setting inner job text more (pairs ++ asked) (runs ++ runs_of setting.functions inner o asked) (left_after setting.functions inner o asked) =
    law.comes_by setting inner job text more pairs runs o asked (goes_rest (setting.body job) [] pairs asked goes) are in
    ap (λ (n : ℕ). goes_on setting inner job text n pairs runs o) turns
    ∙ by
    ∙ ap (λ (r : List Run). goes_on setting inner job text more (pairs ++ asked) (runs ++ r) (left_after setting.functions inner o asked)) ran
    ∙ ap (λ (u : Outside). goes_on setting inner job text more (pairs ++ asked) (runs ++ new) u) left
    ∙ ap (λ (n : ℕ). goes_on setting (fresh setting (64 - n)) job text more (pairs ++ asked) (runs ++ new) t) (sym opened)

-- and the calls that are left are those that are left then, behind those of these questions
pub calls_more : (setting : Setting) (job : Job) (pairs asked : List Pair) (o t : Outside)
    → EndsInTime setting.body → Goes (setting.body job) [] (pairs ++ asked)
    → AreAnswers setting.functions (fresh setting (room o.live)) o asked → left_after setting.functions (fresh setting (room o.live)) o asked ≡ t
    → length t.live.opened ≡ length o.live.opened
    → calls_left setting job pairs o ≡ calls_along setting.functions (fresh setting (room o.live)) (calls_within setting (room o.live)) o asked ++ calls_left setting job (pairs ++ asked) t
calls_more setting job pairs asked o t in_time goes are left opened =
    let inner = fresh setting (room o.live) in
    let inside = calls_within setting (room o.live) in
    let along : List HostCall = calls_along setting.functions inner inside o asked in
    let bound : length (pairs ++ asked) ≤ most_asked = within setting.body job (pairs ++ asked) in_time goes in
    let len = length-append pairs asked in
    let more : ℕ = suc most_asked - length (pairs ++ asked) in
    let turns : suc most_asked - length pairs ≡ more + length asked = omega (arith, bound, len) in
    ap (λ (n : ℕ). calls_on setting inner inside job n pairs o) turns
    ∙ calls_come_by setting inner inside job more pairs o asked (goes_rest (setting.body job) [] pairs asked goes) are
    ∙ ap (λ (u : Outside). along ++ calls_on setting inner inside job more (pairs ++ asked) u) left
    ∙ ap (λ (n : ℕ). along ++ calls_on setting (fresh setting (64 - n)) (calls_within setting (64 - n)) job more (pairs ++ asked) t) (sym opened)

pub hosts_more : (setting : Setting) (asked : List Pair) (o t : Outside) → left_after setting.functions (fresh setting (room o.live)) o asked ≡ t
    → t.hosts ≡ after_calls setting.functions (calls_along setting.functions (fresh setting (room o.live)) (calls_within setting (room o.live)) o asked) o.hosts
hosts_more setting asked o t left =
    ap (λ (u : Outside). u.hosts) (sym left)
    ∙ along_leads setting.functions (fresh setting (room o.live)) (calls_within setting (room o.live)) (fresh_leads setting (room o.live)) o asked

-- where the body asks, the calls for its question come first
pub calls_next : (setting : Setting) (job : Job) (pairs : List Pair) (o : Outside) (op : Question)
    → EndsInTime setting.body → Goes (setting.body job) [] pairs → setting.body job (answers pairs) ≡ Asks op
    → (rest : List HostCall) × (calls_left setting job pairs o ≡ calls_for (calls_within setting (room o.live)) op o ++ rest)
calls_next setting job pairs o op in_time goes asks =
    let inner = fresh setting (room o.live) in
    let inside = calls_within setting (room o.live) in
    let bound : length pairs ≤ most_asked = within setting.body job pairs in_time goes in
    let turns : suc most_asked - length pairs ≡ suc (most_asked - length pairs) = omega (arith, bound) in
    let r = responds setting.functions inner op o in (
      calls_on setting inner inside job (most_asked - length pairs) (pairs ++ (op, r.answer) ∷ []) r.outside,
      ap (λ (n : ℕ). calls_on setting inner inside job n pairs o) turns ∙ calls_on-asks setting inner inside job (most_asked - length pairs) pairs o op asks,
    )

-- a module that is evaluated where one more load is open
pub fresh_opens : (setting : Setting) (s : State) (o : Outside) (path text : List ℕ) (config : List (List ℕ × Plain)) → length s.opened < 64 → length o.live.opened ≡ suc (length s.opened)
    → fresh setting (room s) o path text config ≡ from_open setting o path text config
unfolding fresh
fresh_opens setting s o path text config few one_more =
    let e : room s ≡ suc (room o.live) = omega (arith, one_more) in
    let turns : suc most_asked - 0 ≡ suc most_asked = omega arith in
    ap (λ (d : ℕ). fresh setting d o path text config) e
    ∙ ap (λ (n : ℕ). evaluated_by (λ sheet. goes_on setting (fresh setting (room o.live)) (record { sheet = sheet; config = config; path = path }) text n [] [] o) o (setting.read path text)) (sym turns)

pub calls_opens : (setting : Setting) (s : State) (o : Outside) (path text : List ℕ) (config : List (List ℕ × Plain)) → length s.opened < 64 → length o.live.opened ≡ suc (length s.opened)
    → calls_within setting (room s) o path text config ≡ calls_open setting o path text config
unfolding calls_within
calls_opens setting s o path text config few one_more =
    let e : room s ≡ suc (room o.live) = omega (arith, one_more) in
    let turns : suc most_asked - 0 ≡ suc most_asked = omega arith in
    ap (λ (d : ℕ). calls_within setting d o path text config) e
    ∙ ap (λ (n : ℕ). calls_read (λ sheet. calls_on setting (fresh setting (room o.live)) (calls_within setting (room o.live)) (record { sheet = sheet; config = config; path = path }) n [] o) (setting.read path text)) (sym turns)

-- where the body ends, the evaluation does
pub rest_ends : (setting : Setting) (job : Job) (text : List ℕ) (pairs : List Pair) (runs : List Run) (o : Outside) (end : End)
    → EndsInTime setting.body → Goes (setting.body job) [] pairs → setting.body job (answers pairs) ≡ Ends end
    → rest_of setting job text pairs runs o ≡ ended job text pairs runs o end
unfolding goes_on
rest_ends setting job text pairs runs o end in_time goes ends =
    let inner = fresh setting (room o.live) in
    let bound : length pairs ≤ most_asked = within setting.body job pairs in_time goes in
    let turns : suc most_asked - length pairs ≡ suc (most_asked - length pairs) = omega (arith, bound) in
    ap (λ (n : ℕ). goes_on setting inner job text n pairs runs o) turns
    ∙ ap (λ (n : Next). turn setting.functions inner (goes_on setting inner job text (most_asked - length pairs)) job text pairs runs o n) ends
