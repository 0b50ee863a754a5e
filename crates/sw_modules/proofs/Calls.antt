-- The calls of an evaluation lead the host's functions on.
use Rattle.std.proofs.Common.{◌≡◌, ℕ, zero, suc, ◌+◌, ◌-◌, List, [], ◌∷◌, ◌++◌, length, Result, Ok, Err, refl, sym, ◌∙◌, ap, append_assoc, append-nil, add-zero, add-suc}
use Rattle.sw_text.specs.declared.fault.Fault.{Fault}
use Rattle.sw_tree.specs.declared.sheet.Sheet.{Sheet}
use Rattle.sw_values.specs.declared.plain.Plain.{Plain}
use Rattle.sw_world.specs.Hosts.{HostState}
use Rattle.sw_world.specs.declared.question.Question.{Question}
use Rattle.sw_world.specs.declared.question.Question.TheVariants.{Load, Find, Get, Put, Say, Call}
use Rattle.sw_world.specs.declared.end.End.{End}
use Rattle.sw_world.specs.Body.{Pair, Run, Job, Next, Asks, Ends, Goes, answers}
use Rattle.sw_world.specs.Laws.{most_asked}
use Rattle.sw_modules.specs.declared.live.Begin.{Begin}
use Rattle.sw_modules.specs.declared.live.Begin.TheVariants.{Answered, Open}
use Rattle.sw_modules.specs.State.{State}
use Rattle.sw_modules.specs.Loads.{begun}
use Rattle.sw_modules.specs.Outside.{Functions, Outside}
use Rattle.sw_modules.specs.Fresh.{Setting, Outcome, Evaluation, load_by, responds, turn, goes_on, evaluated_by, fresh, room}
use Rattle.sw_modules.specs.Law.{left_after, AreAnswers}
use Rattle.sw_modules.specs.Calls.{HostCall, after_calls, CallsIn, calls_begun, calls_for, calls_turn, calls_on, calls_read, calls_within, CallsLead}
use Rattle.sw_modules.proofs.ComesBy.{answers-append}

pub after_calls-append : (functions : Functions) (xs ys : List HostCall) (hosts : HostState) → after_calls functions (xs ++ ys) hosts ≡ after_calls functions ys (after_calls functions xs hosts)
after_calls-append functions [] ys hosts = refl
after_calls-append functions (x ∷ xs) ys hosts = after_calls-append functions xs ys (functions.after hosts x.name x.args)

-- inside gives the calls of inner
abbrev pub Lead : Functions → Evaluation → CallsIn → Type 0
Lead functions inner inside =
    (o : Outside) (path text : List ℕ) (config : List (List ℕ × Plain)) → (inner o path text config).outside.hosts ≡ after_calls functions (inside o path text config) o.hosts

module _ (functions : Functions) (inner : Evaluation) (inside : CallsIn) (lead : Lead functions inner inside) where
  load_leads : (op : Question) (begin : Begin) (s : State) (o : Outside) → (load_by inner op begin s o).outside.hosts ≡ after_calls functions (calls_begun inside begin s o) o.hosts
  load_leads op (Answered answer) s o = refl
  load_leads op (Open path text config) s o = lead (record o { live = s }) path text config

  pub responds_leads : (op : Question) (o : Outside) → (responds functions inner op o).outside.hosts ≡ after_calls functions (calls_for inside op o) o.hosts
  responds_leads (Load site url span how config) o =
      load_leads (Load site url span how config) (begun (Load site url span how config) o.live).0 (begun (Load site url span how config) o.live).1 o
  responds_leads (Find site space kind name) o = refl
  responds_leads (Get owner name) o = refl
  responds_leads (Put owner name value) o = refl
  responds_leads (Say kind span text) o = refl
  responds_leads (Call name args) o = refl

-- the calls for these questions, asked in order
abbrev pub calls_along : Functions → Evaluation → CallsIn → Outside → List Pair → List HostCall
calls_along functions inner inside o [] = []
calls_along functions inner inside o (p ∷ ps) = calls_for inside p.0 o ++ calls_along functions inner inside (responds functions inner p.0 o).outside ps

pub along_leads : (functions : Functions) (inner : Evaluation) (inside : CallsIn) → Lead functions inner inside → (o : Outside) (ps : List Pair)
    → (left_after functions inner o ps).hosts ≡ after_calls functions (calls_along functions inner inside o ps) o.hosts
along_leads functions inner inside lead o [] = refl
along_leads functions inner inside lead o (p ∷ ps) =
    let r = responds functions inner p.0 o in
    along_leads functions inner inside lead r.outside ps
    ∙ ap (after_calls functions (calls_along functions inner inside r.outside ps)) (responds_leads functions inner inside lead p.0 o)
    ∙ sym (after_calls-append functions (calls_for inside p.0 o) (calls_along functions inner inside r.outside ps) o.hosts)

-- one turn where the body asks
pub calls_on-asks : (setting : Setting) (inner : Evaluation) (inside : CallsIn) (job : Job) (more : ℕ) (before : List Pair) (o : Outside) (op : Question)
    → setting.body job (answers before) ≡ Asks op
    → calls_on setting inner inside job (suc more) before o
    ≡ calls_for inside op o ++ calls_on setting inner inside job more (before ++ (op, (responds setting.functions inner op o).answer) ∷ []) (responds setting.functions inner op o).outside
unfolding calls_on
calls_on-asks setting inner inside job more before o op asks =
    ap (λ n. calls_turn setting.functions inner inside (calls_on setting inner inside job more) before o n) asks

-- where the body has ended no more calls come
pub calls_on-ends : (setting : Setting) (inner : Evaluation) (inside : CallsIn) (job : Job) (more : ℕ) (before : List Pair) (o : Outside) (end : End)
    → setting.body job (answers before) ≡ Ends end → calls_on setting inner inside job (suc more) before o ≡ []
unfolding calls_on
calls_on-ends setting inner inside job more before o end ends =
    ap (λ n. calls_turn setting.functions inner inside (calls_on setting inner inside job more) before o n) ends

-- a body that was answered so has its calls behind it
pub calls_come_by : (setting : Setting) (inner : Evaluation) (inside : CallsIn) (job : Job) (more : ℕ) (before : List Pair) (o : Outside) (pairs : List Pair)
    → Goes (setting.body job) (answers before) pairs → AreAnswers setting.functions inner o pairs
    → calls_on setting inner inside job (more + length pairs) before o
    ≡ calls_along setting.functions inner inside o pairs ++ calls_on setting inner inside job more (before ++ pairs) (left_after setting.functions inner o pairs)
calls_come_by setting inner inside job more before o [] goes are = rw (add-zero, append-nil)
calls_come_by setting inner inside job more before o (p ∷ ps) goes are =
    let r = responds setting.functions inner p.0 o in
    let one : calls_on setting inner inside job (suc (more + length ps)) before o
    ≡ calls_for inside p.0 o ++ calls_on setting inner inside job (more + length ps) (before ++ p ∷ []) r.outside =
    calls_on-asks setting inner inside job (more + length ps) before o p.0 goes.0
    ∙ ap (λ a. calls_for inside p.0 o ++ calls_on setting inner inside job (more + length ps) (before ++ (p.0, a) ∷ []) r.outside) are.0 in
    let goes' : Goes (setting.body job) (answers (before ++ p ∷ [])) ps = rw (answers-append before (p ∷ [])) goes.2 in
    let rest = calls_come_by setting inner inside job more (before ++ p ∷ []) r.outside ps goes' are.1 in
    rw add-suc (one ∙ ap (λ l. calls_for inside p.0 o ++ l) (rest ∙ ap (λ l. calls_along setting.functions inner inside r.outside ps ++ calls_on setting inner inside job more l (left_after setting.functions inner r.outside ps)) (append_assoc before (p ∷ []) ps))
    ∙ sym (append_assoc (calls_for inside p.0 o) (calls_along setting.functions inner inside r.outside ps) (calls_on setting inner inside job more (before ++ p ∷ ps) (left_after setting.functions inner r.outside ps))))

module _ (setting : Setting) (inner : Evaluation) (inside : CallsIn) (lead : Lead setting.functions inner inside) where
  turn_leads : (rest : List Pair → List Run → Outside → Outcome) (calls : List Pair → Outside → List HostCall)
      → ((pairs : List Pair) (runs : List Run) (o : Outside) → (rest pairs runs o).outside.hosts ≡ after_calls setting.functions (calls pairs o) o.hosts)
      → (job : Job) (text : List ℕ) (pairs : List Pair) (runs : List Run) (o : Outside) (next : Next)
      → (turn setting.functions inner rest job text pairs runs o next).outside.hosts ≡ after_calls setting.functions (calls_turn setting.functions inner inside calls pairs o next) o.hosts
  turn_leads rest calls later job text pairs runs o (Ends end) = refl
  turn_leads rest calls later job text pairs runs o (Asks op) =
      let r = responds setting.functions inner op o in
      later (pairs ++ (op, r.answer) ∷ []) (runs ++ r.runs) r.outside
      ∙ ap (after_calls setting.functions (calls (pairs ++ (op, r.answer) ∷ []) r.outside)) (responds_leads setting.functions inner inside lead op o)
      ∙ sym (after_calls-append setting.functions (calls_for inside op o) (calls (pairs ++ (op, r.answer) ∷ []) r.outside) o.hosts)

  pub goes_on_leads : (job : Job) (text : List ℕ) (more : ℕ) (pairs : List Pair) (runs : List Run) (o : Outside)
      → (goes_on setting inner job text more pairs runs o).outside.hosts ≡ after_calls setting.functions (calls_on setting inner inside job more pairs o) o.hosts
  unfolding goes_on calls_on
  goes_on_leads job text zero pairs runs o = refl
  goes_on_leads job text (suc more) pairs runs o =
      turn_leads (goes_on setting inner job text more) (calls_on setting inner inside job more) (goes_on_leads job text more) job text pairs runs o (setting.body job (answers pairs))

  read_leads : (path text : List ℕ) (config : List (List ℕ × Plain)) (o : Outside) (turns : ℕ) (read : Result Sheet Fault)
      → (evaluated_by (λ sheet. goes_on setting inner (record { sheet = sheet; config = config; path = path }) text turns [] [] o) o read).outside.hosts
      ≡ after_calls setting.functions (calls_read (λ sheet. calls_on setting inner inside (record { sheet = sheet; config = config; path = path }) turns [] o) read) o.hosts
  read_leads path text config o turns (Ok sheet) = goes_on_leads (record { sheet = sheet; config = config; path = path }) text turns [] [] o
  read_leads path text config o turns (Err fault) = refl

pub fresh_leads : (setting : Setting) (depth : ℕ) → Lead setting.functions (fresh setting depth) (calls_within setting depth)
unfolding fresh calls_within
fresh_leads setting zero o path text config = refl
fresh_leads setting (suc depth) o path text config =
    read_leads setting (fresh setting depth) (calls_within setting depth) (fresh_leads setting depth) path text config o (suc most_asked) (setting.read path text)

pub calls_lead : CallsLead
calls_lead setting o path text config =
    read_leads setting (fresh setting (room o.live)) (calls_within setting (room o.live)) (fresh_leads setting (room o.live)) path text config o (suc most_asked - 0) (setting.read path text)
