-- The law of a body that was answered as what is outside answers.
use Rattle.std.proofs.Common.{◌≡◌, ℕ, suc, ◌+◌, List, [], ◌∷◌, ◌++◌, length, refl, ◌∙◌, ap, append_assoc, append-nil, add-zero, add-suc}
use Rattle.sw_world.specs.declared.question.Question.{Question}
use Rattle.sw_world.specs.Body.{Pair, Run, Job, Asks, Goes, answers}
use Rattle.sw_modules.specs.Outside.{Outside}
use Rattle.sw_modules.specs.Fresh.{Setting, Evaluation, responds, goes_on, turn}
use Rattle.sw_modules.specs.Law.{ComesBy}

pub answers-append : (ps qs : List Pair) → answers (ps ++ qs) ≡ answers ps ++ answers qs
answers-append [] qs = refl
answers-append (p ∷ ps) qs = ap (λ r. p.1 ∷ r) (answers-append ps qs)

-- one turn where the body asks
goes_on-asks : (setting : Setting) (inner : Evaluation) (job : Job) (text : List ℕ) (more : ℕ) (before : List Pair) (runs : List Run) (o : Outside) (op : Question)
    → setting.body job (answers before) ≡ Asks op
    → goes_on setting inner job text (suc more) before runs o
    ≡ goes_on setting inner job text more (before ++ (op, (responds setting.functions inner op o).answer) ∷ []) (runs ++ (responds setting.functions inner op o).runs) (responds setting.functions inner op o).outside
unfolding goes_on
goes_on-asks setting inner job text more before runs o op asks =
    ap (λ n. turn setting.functions inner (goes_on setting inner job text more) job text before runs o n) asks

pub comes_by : ComesBy
comes_by setting inner job text more before runs o [] goes are = rw (add-zero, append-nil, append-nil)
comes_by setting inner job text more before runs o (p ∷ ps) goes are =
    let r = responds setting.functions inner p.0 o in
    let one : goes_on setting inner job text (suc (more + length ps)) before runs o
    ≡ goes_on setting inner job text (more + length ps) (before ++ p ∷ []) (runs ++ r.runs) r.outside =
    goes_on-asks setting inner job text (more + length ps) before runs o p.0 goes.0
    ∙ ap (λ a. goes_on setting inner job text (more + length ps) (before ++ (p.0, a) ∷ []) (runs ++ r.runs) r.outside) are.0 in
    let goes' : Goes (setting.body job) (answers (before ++ p ∷ [])) ps = rw (answers-append before (p ∷ [])) goes.2 in
    let rest = comes_by setting inner job text more (before ++ p ∷ []) (runs ++ r.runs) r.outside ps goes' are.1 in
    rw add-suc (one ∙ (rw (append_assoc, append_assoc) at rest))
