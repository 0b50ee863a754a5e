-- What one question and its answer leave of an evaluation.
use Rattle.std.proofs.Common.{◌≡◌, ℕ, zero, suc, ◌-◌, ◌≤◌, List, [], ◌∷◌, ◌++◌, length, None, Some, refl, sym, ◌∙◌, ap, append_assoc, length-append, arith}
use Rattle.sw_world.specs.declared.question.Question.{Question}
use Rattle.sw_world.specs.declared.answer.Answer.{Answer}
use Rattle.sw_world.specs.declared.end.End.{End}
use Rattle.sw_world.specs.Body.{Pair, Job, Run, Next, Asks, Ends, Goes, answers}
use Rattle.sw_world.specs.Laws.{EndsInTime, most_asked}
use Rattle.sw_modules.specs.Outside.{Outside}
use Rattle.sw_modules.specs.Fresh.{Setting, Outcome, Evaluation, Response, responds, goes_on, fresh, ended, turn, load_ended}
use Rattle.sw_step_bodies.specs.Stepping.{Step, Loading, Finished, Stepping, StepsIn, steps_at, steps_turn, steps_on, steps_within, ends_after, opened_for, steps_left}
use Rattle.sw_step_bodies.specs.Standing.{Rest, behind, Close, close_of, close_left, Later, Standing, left_with, left_open, Waits, with_answer, answer_at, after_load}
use Rattle.sw_step_bodies.proofs.Pairs.{within}

-- how an evaluation closes doesn't go by the runs behind it, nor by the text that they tell
turn_closes : (setting : Setting) (inner : Evaluation) (rest rest2 : List Pair → List Run → Outside → Outcome)
    → ((pairs : List Pair) (runs runs2 : List Run) (o : Outside) → close_of (rest pairs runs o) ≡ close_of (rest2 pairs runs2 o))
    → (job : Job) (text text2 : List ℕ) (pairs : List Pair) (runs runs2 : List Run) (o : Outside) (next : Next)
    → close_of (turn setting.functions inner rest job text pairs runs o next) ≡ close_of (turn setting.functions inner rest2 job text2 pairs runs2 o next)
turn_closes setting inner rest rest2 same job text text2 pairs runs runs2 o (Ends end) = refl
turn_closes setting inner rest rest2 same job text text2 pairs runs runs2 o (Asks op) =
    let r = responds setting.functions inner op o in
    same (pairs ++ (op, r.answer) ∷ []) (runs ++ r.runs) (runs2 ++ r.runs) r.outside

pub closes : (setting : Setting) (inner : Evaluation) (job : Job) (text text2 : List ℕ) (more : ℕ) (pairs : List Pair) (runs runs2 : List Run) (o : Outside)
    → close_of (goes_on setting inner job text more pairs runs o) ≡ close_of (goes_on setting inner job text2 more pairs runs2 o)
unfolding goes_on
closes setting inner job text text2 zero pairs runs runs2 o = refl
closes setting inner job text text2 (suc more) pairs runs runs2 o =
    turn_closes setting inner (goes_on setting inner job text more) (goes_on setting inner job text2 more) (closes setting inner job text text2 more) job text text2 pairs runs runs2 o (setting.body job (answers pairs))

-- one turn where the body asks, and where it ends
goes_on-asks : (setting : Setting) (inner : Evaluation) (job : Job) (text : List ℕ) (more : ℕ) (pairs : List Pair) (runs : List Run) (o : Outside) (op : Question)
    → setting.body job (answers pairs) ≡ Asks op
    → goes_on setting inner job text (suc more) pairs runs o
    ≡ goes_on setting inner job text more (pairs ++ (op, (responds setting.functions inner op o).answer) ∷ []) (runs ++ (responds setting.functions inner op o).runs) (responds setting.functions inner op o).outside
unfolding goes_on
goes_on-asks setting inner job text more pairs runs o op asks =
    ap (λ n. turn setting.functions inner (goes_on setting inner job text more) job text pairs runs o n) asks

goes_on-ends : (setting : Setting) (inner : Evaluation) (job : Job) (text : List ℕ) (more : ℕ) (pairs : List Pair) (runs : List Run) (o : Outside) (end : End)
    → setting.body job (answers pairs) ≡ Ends end → goes_on setting inner job text (suc more) pairs runs o ≡ ended job text pairs runs o end
unfolding goes_on
goes_on-ends setting inner job text more pairs runs o end ends =
    ap (λ n. turn setting.functions inner (goes_on setting inner job text more) job text pairs runs o n) ends

steps_on-asks : (setting : Setting) (inner : Evaluation) (inside : StepsIn) (job : Job) (more count : ℕ) (pairs : List Pair) (o : Outside) (op : Question)
    → setting.body job (answers pairs) ≡ Asks op
    → steps_on setting inner inside job (suc more) count pairs o
    ≡ steps_at job.path (opened_for setting inside op o)
    (λ n. steps_on setting inner inside job more n (pairs ++ (op, (responds setting.functions inner op o).answer) ∷ []) (responds setting.functions inner op o).outside) count
unfolding steps_on
steps_on-asks setting inner inside job more count pairs o op asks =
    ap (λ n. steps_turn setting inner inside (steps_on setting inner inside job more) job count pairs o n) asks

steps_on-ends : (setting : Setting) (inner : Evaluation) (inside : StepsIn) (job : Job) (more count : ℕ) (pairs : List Pair) (o : Outside) (end : End)
    → setting.body job (answers pairs) ≡ Ends end → steps_on setting inner inside job (suc more) count pairs o ≡ ends_after job.path count
unfolding steps_on
steps_on-ends setting inner inside job more count pairs o end ends =
    ap (λ n. steps_turn setting inner inside (steps_on setting inner inside job more) job count pairs o n) ends

-- a turn is left, and after it one less
one_turn : (n : ℕ) → n ≤ most_asked → suc most_asked - n ≡ suc (most_asked - n)
one_turn n bound = omega (arith, bound)

less_turn : (ps : List Pair) (p : Pair) → most_asked - length ps ≡ suc most_asked - length (ps ++ p ∷ [])
less_turn ps p = let len = length-append ps (p ∷ []) in omega (arith, len)

module _ (setting : Setting) (in_time : EndsInTime setting.body) where
  pub close_ends : (d : ℕ) (job : Job) (pairs : List Pair) (o : Outside) (end : End) → Goes (setting.body job) [] pairs → setting.body job (answers pairs) ≡ Ends end
      → close_left setting d job pairs o ≡ record { outside = o; end = end }
  close_ends d job pairs o end goes ends =
      ap (λ (n : ℕ). close_of (goes_on setting (fresh setting d) job [] n pairs [] o)) (one_turn (length pairs) (within setting.body job pairs in_time goes))
      ∙ ap close_of (goes_on-ends setting (fresh setting d) job [] (most_asked - length pairs) pairs [] o end ends)

  pub steps_ends : (d : ℕ) (job : Job) (count : ℕ) (pairs : List Pair) (o : Outside) (end : End) → Goes (setting.body job) [] pairs → setting.body job (answers pairs) ≡ Ends end
      → steps_left setting d job count pairs o ≡ ends_after job.path count
  steps_ends d job count pairs o end goes ends =
      ap (λ (n : ℕ). steps_on setting (fresh setting d) (steps_within setting d) job n count pairs o) (one_turn (length pairs) (within setting.body job pairs in_time goes))
      ∙ steps_on-ends setting (fresh setting d) (steps_within setting d) job (most_asked - length pairs) count pairs o end ends

  module _ (d : ℕ) (job : Job) (pairs : List Pair) (o : Outside) (op : Question) (goes : Goes (setting.body job) [] pairs) (asks : setting.body job (answers pairs) ≡ Asks op) where
    pub close_asks : close_left setting d job pairs o
        ≡ close_left setting d job (pairs ++ (op, (responds setting.functions (fresh setting d) op o).answer) ∷ []) (responds setting.functions (fresh setting d) op o).outside
    close_asks =
        let r = responds setting.functions (fresh setting d) op o in
        ap (λ (n : ℕ). close_of (goes_on setting (fresh setting d) job [] n pairs [] o)) (one_turn (length pairs) (within setting.body job pairs in_time goes))
        ∙ ap close_of (goes_on-asks setting (fresh setting d) job [] (most_asked - length pairs) pairs [] o op asks)
        ∙ closes setting (fresh setting d) job [] [] (most_asked - length pairs) (pairs ++ (op, r.answer) ∷ []) ([] ++ r.runs) [] r.outside
        ∙ ap (λ (n : ℕ). close_of (goes_on setting (fresh setting d) job [] n (pairs ++ (op, r.answer) ∷ []) [] r.outside)) (less_turn pairs (op, r.answer))

    pub steps_asks : (count : ℕ) → steps_left setting d job count pairs o
        ≡ steps_at job.path (opened_for setting (steps_within setting d) op o)
        (λ n. steps_left setting d job n (pairs ++ (op, (responds setting.functions (fresh setting d) op o).answer) ∷ []) (responds setting.functions (fresh setting d) op o).outside) count
    steps_asks count =
        let r = responds setting.functions (fresh setting d) op o in
        ap (λ (n : ℕ). steps_on setting (fresh setting d) (steps_within setting d) job n count pairs o) (one_turn (length pairs) (within setting.body job pairs in_time goes))
        ∙ steps_on-asks setting (fresh setting d) (steps_within setting d) job (most_asked - length pairs) count pairs o op asks
        ∙ ap (λ (m : ℕ). steps_at job.path (opened_for setting (steps_within setting d) op o) (λ n. steps_on setting (fresh setting d) (steps_within setting d) job m n (pairs ++ (op, r.answer) ∷ []) r.outside) count) (less_turn pairs (op, r.answer))

  -- a question for which no body is opened
  pub left_answered : (d : ℕ) (later : Later) (times : List (List ℕ × ℕ)) (b : Standing) (op : Question) (a : Answer) (o t : Outside)
      → Goes (setting.body b.job) [] b.pairs → setting.body b.job (answers b.pairs) ≡ Asks op
      → responds setting.functions (fresh setting d) op o ≡ record { answer = a; outside = t; runs = [] } → opened_for setting (steps_within setting d) op o ≡ None
      → left_open setting d later b times o ≡ left_open setting d later (with_answer b op a) times t
  left_answered d later times b op a o t goes asks is none =
      let r = responds setting.functions (fresh setting d) op o in
      let steps : steps_left setting d b.job b.count b.pairs o ≡ steps_left setting d b.job b.count (b.pairs ++ (op, a) ∷ []) t =
      steps_asks d b.job b.pairs o op goes asks b.count
      ∙ ap (λ x. steps_at b.job.path x (λ n. steps_left setting d b.job n (b.pairs ++ (op, r.answer) ∷ []) r.outside) b.count) none
      ∙ ap (λ (r : Response). steps_left setting d b.job b.count (b.pairs ++ (op, r.answer) ∷ []) r.outside) is in
      let close : close_left setting d b.job b.pairs o ≡ close_left setting d b.job (b.pairs ++ (op, a) ∷ []) t =
      close_asks d b.job b.pairs o op goes asks ∙ ap (λ (r : Response). close_left setting d b.job (b.pairs ++ (op, r.answer) ∷ []) r.outside) is in
      ap (λ (s : Stepping). left_with later times b.job.path s (close_left setting d b.job b.pairs o)) steps
      ∙ ap (λ (c : Close). left_with later times b.job.path (steps_left setting d b.job b.count (b.pairs ++ (op, a) ∷ []) t) c) close

  -- a body that ends
  pub left_ended : (d : ℕ) (later : Later) (times : List (List ℕ × ℕ)) (b : Standing) (o : Outside) (end : End)
      → Goes (setting.body b.job) [] b.pairs → setting.body b.job (answers b.pairs) ≡ Ends end
      → left_open setting d later b times o ≡ later (times ++ (b.job.path, suc b.count) ∷ []) b.job.path (record { outside = o; end = end })
  left_ended d later times b o end goes ends =
      ap (λ (s : Stepping). left_with later times b.job.path s (close_left setting d b.job b.pairs o)) (steps_ends d b.job b.count b.pairs o end goes ends)
      ∙ ap (λ (c : Close). left_with later times b.job.path (ends_after b.job.path b.count) c) (close_ends d b.job b.pairs o end goes ends)

  -- a question for which a body is opened: these are what is left of it and how it closes, and its load is answered then
  pub left_opened : (d e : ℕ) (later : Later) (times : List (List ℕ × ℕ)) (b c : Standing) (op : Question) (o u : Outside)
      → Goes (setting.body b.job) [] b.pairs → setting.body b.job (answers b.pairs) ≡ Asks op
      → opened_for setting (steps_within setting d) op o ≡ Some (c.job.path, steps_left setting e c.job c.count c.pairs u)
      → ((v : Outcome) × (responds setting.functions (fresh setting d) op o ≡ load_ended op v) × (close_of v ≡ close_left setting e c.job c.pairs u))
      → left_open setting d later b times o
      ≡ behind (Loading b.job.path c.job.path ∷ []) (left_open setting e (after_load setting d later (record { body = b; op = op })) c times u)
  left_opened d e later times b c op o u goes asks opens answers_it =
      let r = responds setting.functions (fresh setting d) op o in
      let w : Waits = record { body = b; op = op } in
      let inside : Stepping = steps_left setting e c.job c.count c.pairs u in
      let close : Close = close_left setting e c.job c.pairs u in
      let p = answer_at op close in
      let after : Outside = record { live = p.1; hosts = close.outside.hosts } in
      let answer_is : r.answer ≡ p.0 = ap (λ (x : Response). x.answer) answers_it.1 ∙ ap (λ (x : Close). (answer_at op x).0) answers_it.2 in
      let outside_is : r.outside ≡ after = ap (λ (x : Response). x.outside) answers_it.1 ∙ ap (λ (x : Close). record { live = (answer_at op x).1; hosts = x.outside.hosts }) answers_it.2 in
      let rest : Stepping = steps_left setting d b.job (suc b.count) (b.pairs ++ (op, p.0) ∷ []) after in
      let steps : steps_left setting d b.job b.count b.pairs o
      ≡ record { steps = Loading b.job.path c.job.path ∷ (inside.steps ++ Finished c.job.path ∷ rest.steps); times = inside.times ++ rest.times } =
      steps_asks d b.job b.pairs o op goes asks b.count
      ∙ ap (λ x. steps_at b.job.path x (λ n. steps_left setting d b.job n (b.pairs ++ (op, r.answer) ∷ []) r.outside) b.count) opens
      ∙ ap (λ (a : Answer). steps_at b.job.path (Some (c.job.path, inside)) (λ n. steps_left setting d b.job n (b.pairs ++ (op, a) ∷ []) r.outside) b.count) answer_is
      ∙ ap (λ (x : Outside). steps_at b.job.path (Some (c.job.path, inside)) (λ n. steps_left setting d b.job n (b.pairs ++ (op, p.0) ∷ []) x) b.count) outside_is in
      let closes_so : close_left setting d b.job b.pairs o ≡ close_left setting d b.job (b.pairs ++ (op, p.0) ∷ []) after =
      close_asks d b.job b.pairs o op goes asks
      ∙ ap (λ (a : Answer). close_left setting d b.job (b.pairs ++ (op, a) ∷ []) r.outside) answer_is
      ∙ ap (λ (x : Outside). close_left setting d b.job (b.pairs ++ (op, p.0) ∷ []) x) outside_is in
      ap (λ (s : Stepping). left_with later times b.job.path s (close_left setting d b.job b.pairs o)) steps
      ∙ ap (λ (x : Close). left_with later times b.job.path
      (record { steps = Loading b.job.path c.job.path ∷ (inside.steps ++ Finished c.job.path ∷ rest.steps); times = inside.times ++ rest.times }) x) closes_so
      ∙ shuffled (later ((times ++ inside.times) ++ rest.times) b.job.path (close_left setting d b.job (b.pairs ++ (op, p.0) ∷ []) after))
      (later (times ++ (inside.times ++ rest.times)) b.job.path (close_left setting d b.job (b.pairs ++ (op, p.0) ∷ []) after))
      (Loading b.job.path c.job.path) (Finished c.job.path) inside.steps rest.steps
      (ap (λ ts. later ts b.job.path (close_left setting d b.job (b.pairs ++ (op, p.0) ∷ []) after)) (sym (append_assoc times inside.times rest.times)))
    where
      shuffled : (x y : Rest) (first mid : Step) (ws rs : List Step) → y ≡ x
          → behind (first ∷ (ws ++ mid ∷ rs)) y ≡ behind (first ∷ []) (behind ws (behind (mid ∷ []) (behind rs x)))
      shuffled x y first mid ws rs same =
          ap (λ (z : Rest). behind (first ∷ (ws ++ mid ∷ rs)) z) same
          ∙ ap (λ l. record x { steps = first ∷ l }) (append_assoc ws (mid ∷ rs) x.steps)
