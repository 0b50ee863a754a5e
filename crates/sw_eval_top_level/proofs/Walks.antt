-- The top level, a step at a time.
use Rattle.std.proofs.Common.{◌≡◌, ℕ, suc, Bool, true, false, ◌+◌, ◌<◌, ◌≤◌, List, [], ◌∷◌, length, drop, get_or, Option, Some, None, Result, Ok, Err, refl, sym, ◌∙◌, ap, subst, add-one}
use Rattle.std.specs.Prelude.{IsErr, IsErrAnd}
use Rattle.sw_text.specs.declared.fault.Fault.{Fault as Fault_at}
use Rattle.sw_tree.specs.declared.expr.Expr.{Expr}
use Rattle.sw_tree.specs.declared.statement.Statement.{Statement}
use Rattle.sw_values.specs.declared.plain.Plain.{Plain}
use Rattle.sw_eval_literals.specs.declared.quotients.Parens.{Parens}
use Rattle.sw_world.specs.declared.question.Given.{Given}
use Rattle.sw_world.specs.declared.question.Question.{Question}
use Rattle.sw_world.specs.declared.answer.Answer.{Answer}
use Rattle.sw_world.specs.Laws.{most_asked}
use Rattle.sw_eval_configurations.specs.Loads.{Loading, span_of, load_of, load_op}
use Rattle.sw_eval_configurations.specs.Passing.{Settings}
use Rattle.sw_eval_questions.specs.Talk.{Talk, Gives, Fails, Asking, bind}
use Rattle.sw_eval_questions.specs.Asking.{asking}
use Rattle.sw_eval_questions.specs.Ran.{Stand, Ran, ran_on, within}
use Rattle.sw_eval_questions.specs.Did.{Did, IsReturn}
use Rattle.sw_eval_questions.specs.declared.stop.Stop.{Stop}
use Rattle.sw_eval_questions.specs.declared.stop.Stop.TheVariants.{Memory, Fault}
use Rattle.sw_eval_questions.proofs.Steps.{err_of, did_then}
use Rattle.sw_eval_questions.proofs.Loops.{next_item, loop_at, loop_end}
use Rattle.sw_eval_state.specs.Eval.{Eval}
use Rattle.sw_eval_state.specs.Left.{callable_of}
use Rattle.sw_eval_state.specs.declared.state.State.{State}
use Rattle.sw_eval_top_level.specs.Loading.{question, prepared, load_ended, loaded, load}
use Rattle.sw_eval_top_level.specs.Taking.{preset}
use Rattle.sw_eval_top_level.specs.Tops.{marked, other, top_by, top, tops, rest}
use Rattle.sw_eval_top_level.specs.Walks.{WaitsAt, TopDid, Walked}

-- what waits still waits within what goes on after it
waits_within : {W : Type 0} {gives : W → Question → Answer → W → Type 0} (t u : Talk (Unit {0} × State)) (f : Unit {0} × State → Talk (Unit {0} × State)) (a b : Stand) (w y : W) (op : Question)
    → WaitsAt gives t a w op u b y → WaitsAt gives (bind t f) a w op (bind u f) b y
unfolding bind
waits_within t u f a b w y op is = record {
  ran = within t u f a b w y is.ran;
  is_load = is.is_load;
  at = is.at;
  question = is.question;
  next = λ n v. bind (is.next n v) f;
  waits = ap (λ (l : Talk (Unit {0} × State)). bind l f) is.waits;
  op_is = is.op_is;
  few = is.few;
  at_end = is.at_end;
}

-- ---- loads

module _ (value : Parens → Expr → Eval Plain) (config : Settings) (l : Loading) where
  -- a load whose configuration is known asks at once
  asks_at_once : (given : List Given) (u : State) → u.given ≡ Some given
      → load value config l u ≡ Asking (question l given) (span_of l) (λ n v. Gives (tt, load_ended config l v u))
  unfolding load prepared loaded asking bind
  asks_at_once given u is = rw is refl

  goes_on : (given : List Given) (u : State) (t : Talk (List Given × State)) → u.given ≡ Some given → t ≡ Gives (given, u)
      → bind t (λ r. loaded config l r.0 r.1) ≡ load value config l u
  unfolding load prepared bind
  goes_on given u t is gives = rw (gives, is) refl

  -- it stops where the answer isn't known
  pub load_waits : {W : Type 0} {gives : W → Question → Answer → W → Type 0} (given : List Given) (s u : State) (a b c : Stand) (w y : W) (op : Question) → Did gives (prepared value config l s) a w (Ok given) u b y → u.given ≡ Some given
      → c ≡ b → op ≡ load_op b.path l given → b.at < most_asked → length b.pairs ≤ b.at → WaitsAt gives (load value config l s) a w op (load value config l u) c y
  unfolding load
  load_waits {gives = gives} given s u a b c w y op d kept same is few at_end = rw (same, is) record {
    ran = subst (λ (t : Talk (Unit {0} × State)). Ran gives (load value config l s) a w t b y) (goes_on given u d.last kept d.is_return) (within (prepared value config l s) d.last (λ r. loaded config l r.0 r.1) a b w y d.ran);
    is_load = tt;
    at = span_of l;
    question = question l given;
    next = λ n v. Gives (tt, load_ended config l v u);
    waits = asks_at_once given u kept;
    op_is = refl;
    few = few;
    at_end = at_end;
  }

  -- what stops behind its configuration
  pub load_stops : {W : Type 0} {gives : W → Question → Answer → W → Type 0} (given : List Given) (s u v : State) (a b c d : Stand) (w y z : W) (e : Stop) (r : Result (Option Question) Stop) → Did gives (prepared value config l s) a w (Ok given) u b y
      → Did gives (loaded config l given u) b y (Err e) v c z → d ≡ c → IsErr r × IsErrAnd r (λ k. k ≡ e) → TopDid gives (load value config l) s a w r v d z
  unfolding load
  load_stops given s u v a b c d w y z e r begun more same p = rw (err_of r e p, same) (did_then _ begun more)

-- ---- what has no fault

of_gives : {A : Type 0} (p q : A) → ◌≡◌ {A = Talk A} (Gives p) (Gives q) → p ≡ q
of_gives p q e = cc

-- what a function that has no fault returns for want of memory
pub memory_returns : {A S : Type 0} (t : Talk (A × S)) (s : S) (r : Result A Stop) → IsErr r × IsErrAnd r (λ z. z ≡ Memory) → IsReturn r s t
memory_returns t s r p = rw (err_of r Memory p) tt

-- ---- statements

module _ {W : Type 0} (gives : W → Question → Answer → W → Type 0) where
  -- what stopped
  pub top_err : (go : Eval (Unit {0})) (s u : State) (a b : Stand) (w y : W) (r : Result (Option Question) Stop) (e : Stop) → Did gives (go s) a w (Err e) u b y → IsErr r × IsErrAnd r (λ z. z ≡ e) → TopDid gives go s a w r u b y
  top_err go s u a b w y r e d p = rw (err_of r e p) d

  pub top_memory : (go : Eval (Unit {0})) (s u : State) (a b c : Stand) (w y : W) (r : Result (Option Question) Stop) (t : Talk (Unit {0} × State)) → Ran gives (go s) a w t b y → c ≡ b → IsErr r × IsErrAnd r (λ z. z ≡ Memory) → TopDid gives go s a w r u c y
  top_memory go s u a b c w y r t ran same p = rw (err_of r Memory p, same) record { last = t; ran = ran; is_return = tt }

module _ (value : Parens → Expr → Eval Plain) (does : Statement → Eval (Option Plain)) (config : Settings) where
  module _ {W : Type 0} (gives : W → Question → Answer → W → Type 0) where
    -- a statement that loads a module
    pub top_load : (n : ℕ) (x : Statement) (l : Loading) (s u : State) (a b : Stand) (w y : W) (r : Result (Option Question) Stop) → load_of x ≡ Some l → TopDid gives (load value config l) s a w r u b y
        → TopDid gives (top value does config n x) s a w r u b y
    unfolding top
    top_load n x l s u a b w y r is d = subst (λ (o : Option Loading). TopDid gives (top_by value does config n x o) s a w r u b y) (sym is) d

    -- another one
    pub top_goes : (n : ℕ) (x : Statement) (s t u : State) (a b : Stand) (w y : W) → load_of x ≡ None → t ≡ marked n x s → Did gives (other value does config x (callable_of x) t) a w (Ok tt) u b y
        → Did gives (top value does config n x s) a w (Ok tt) u b y
    unfolding top
    top_goes n x s t u a b w y is at d = rw (is, ← at) d

    pub top_errs : (n : ℕ) (x : Statement) (s t u : State) (a b : Stand) (w y : W) (e : Stop) (r : Result (Option Question) Stop) → load_of x ≡ None → t ≡ marked n x s → Did gives (other value does config x (callable_of x) t) a w (Err e) u b y
        → IsErr r × IsErrAnd r (λ z. z ≡ e) → TopDid gives (top value does config n x) s a w r u b y
    unfolding top
    top_errs n x s t u a b w y e r is at d p = top_err gives (top value does config n x) s u a b w y r e (rw (is, ← at) d) p

  -- a variable that has its configured value, and other statements
  pub other_preset : (x : Statement) (s u : State) → callable_of x ≡ None → ◌≡◌ {A = Talk (Bool × State)} (Gives (preset config x s)) (Gives (true, u)) → other value does config x (callable_of x) s ≡ Gives (tt, u)
  other_preset x s u is gave = rw (is, of_gives (preset config x s) (true, u) gave) refl

  pub other_does : (x : Statement) (s u : State) → callable_of x ≡ None → ◌≡◌ {A = Talk (Bool × State)} (Gives (preset config x s)) (Gives (false, u)) → other value does config x (callable_of x) s ≡ bind (does x u) (λ r. Gives (tt, r.1))
  other_does x s u is gave = rw (is, of_gives (preset config x s) (false, u) gave) refl

  tops_within : {W : Type 0} {gives : W → Question → Answer → W → Type 0} (n : ℕ) (x : Statement) (xs : List Statement) (s : State) (last : Talk (Unit {0} × State)) (a b : Stand) (w y : W) → Ran gives (top value does config n x s) a w last b y
      → Ran gives (tops value does config n (x ∷ xs) s) a w (bind last (λ r. tops value does config (suc n) xs r.1)) b y
  unfolding tops
  tops_within n x xs s last a b w y ran = within (top value does config n x s) last (λ r. tops value does config (suc n) xs r.1) a b w y ran

  after_fault : (n : ℕ) (xs : List Statement) (t : Talk (Unit {0} × State)) (code : Fault_at) → t ≡ Fails code → bind t (λ r. tops value does config n xs r.1) ≡ Fails code
  unfolding bind
  after_fault n xs t code is = rw is refl

  after_value : (n : ℕ) (xs : List Statement) (t : Talk (Unit {0} × State)) (u : State) → t ≡ Gives (tt, u) → bind t (λ r. tops value does config n xs r.1) ≡ tops value does config n xs u
  unfolding bind
  after_value n xs t u is = rw is refl

  tops_more : (i : ℕ) (xs : List Statement) (u : State) → tops value does config (suc i) xs u ≡ tops value does config (i + 1) xs u
  tops_more i xs u = ap (λ (n : ℕ). tops value does config n xs u) (sym (add-one i))

  tops_next : (i : ℕ) (x : Statement) (xs : List Statement) (u : State) → bind (top value does config i x u) (λ r. tops value does config (suc i) xs r.1) ≡ tops value does config i (x ∷ xs) u
  unfolding tops
  tops_next i x xs u = refl

  -- in a walk over the statements `all`, which has come to the number i: the statement there did this
  module _ {W : Type 0} (gives : W → Question → Answer → W → Type 0) (all : List Statement) (T : Talk (Unit {0} × State)) (z a b : Stand) (q w y : W) (i : ℕ) (x : Statement) (s u : State) where
    here : i < length all → x ≡ get_or all i x → Ran gives T z q (rest value does config all i s) a w → Ran gives T z q (tops value does config i (x ∷ drop (i + 1) all) s) a w
    here lt is on = loop_at (λ l v. tops value does config i l v) all i x s lt is on

    -- one statement more
    pub walk_more : i < length all → x ≡ get_or all i x → Ran gives T z q (rest value does config all i s) a w → Did gives (top value does config i x s) a w (Ok tt) u b y → Ran gives T z q (rest value does config all (i + 1) u) b y
    walk_more lt is on d =
        let xs : List Statement = drop (i + 1) all in
        let t : Talk (Unit {0} × State) = bind d.last (λ r. tops value does config (suc i) xs r.1) in
        let e : t ≡ tops value does config (i + 1) xs u = after_value (suc i) xs d.last u d.is_return ∙ tops_more i xs u in
        subst (λ (l : Talk (Unit {0} × State)). Ran gives T z q l b y) e (ran_on T (tops value does config i (x ∷ xs) s) t z a b q w y (here lt is on) (tops_within i x xs s d.last a b w y d.ran))

    -- a statement that stopped
    pub walk_err : (j : ℕ) (all_from : ℕ → Eval (Unit {0})) (i0 : ℕ) (s0 : State) (e : Stop) (r : Result (Option Question) Stop) → T ≡ all_from i0 s0 → i < length all → x ≡ get_or all i x → Ran gives T z q (rest value does config all i s) a w
        → Did gives (top value does config i x s) a w (Err e) u b y → IsErr r × IsErrAnd r (λ k. k ≡ e) → Walked gives all_from i0 s0 z q r j u b y
    walk_err j all_from i0 s0 (Fault code) r whole lt is on d p =
        let xs : List Statement = drop (i + 1) all in
        let t : Talk (Unit {0} × State) = bind d.last (λ k. tops value does config (suc i) xs k.1) in
        rw (err_of r (Fault code) p, ← whole) (subst (λ (l : Talk (Unit {0} × State)). Ran gives T z q l b y) (after_fault (suc i) xs d.last code d.is_return) (ran_on T (tops value does config i (x ∷ xs) s) t z a b q w y (here lt is on) (tops_within i x xs s d.last a b w y d.ran)))
    walk_err j all_from i0 s0 Memory r whole lt is on d p =
        let xs : List Statement = drop (i + 1) all in
        let t : Talk (Unit {0} × State) = bind d.last (λ k. tops value does config (suc i) xs k.1) in
        rw (err_of r Memory p, ← whole) (t, ran_on T (tops value does config i (x ∷ xs) s) t z a b q w y (here lt is on) (tops_within i x xs s d.last a b w y d.ran))

    -- a load whose answer isn't known
    pub walk_waits : (op : Question) → i < length all → x ≡ get_or all i x → Ran gives T z q (rest value does config all i s) a w → WaitsAt gives (top value does config i x s) a w op (top value does config i x u) b y
        → WaitsAt gives T z q op (rest value does config all i u) b y
    walk_waits op lt is on stop =
        let xs : List Statement = drop (i + 1) all in
        let f : Unit {0} × State → Talk (Unit {0} × State) = λ r. tops value does config (suc i) xs r.1 in
        let m : WaitsAt gives (tops value does config i (x ∷ xs) s) a w op (tops value does config i (x ∷ xs) u) b y =
        subst (λ (t : Talk (Unit {0} × State)). WaitsAt gives t a w op (tops value does config i (x ∷ xs) u) b y) (tops_next i x xs s)
        (subst (λ (t : Talk (Unit {0} × State)). WaitsAt gives (bind (top value does config i x s) f) a w op t b y) (tops_next i x xs u) (waits_within (top value does config i x s) (top value does config i x u) f a b w y op stop)) in
        let k : tops value does config i (x ∷ xs) u ≡ rest value does config all i u = ap (λ (l : List Statement). tops value does config i l u) (sym (next_item all i x lt is)) in
        record {
          ran = subst (λ (t : Talk (Unit {0} × State)). Ran gives T z q t b y) k (ran_on T (tops value does config i (x ∷ xs) s) (tops value does config i (x ∷ xs) u) z a b q w y (here lt is on) m.ran);
          is_load = m.is_load;
          at = m.at;
          question = m.question;
          next = m.next;
          waits = sym k ∙ m.waits;
          op_is = m.op_is;
          few = m.few;
          at_end = m.at_end;
        }

  -- at the end
  pub walk_end : {W : Type 0} (gives : W → Question → Answer → W → Type 0) (all : List Statement) (T : Talk (Unit {0} × State)) (z a : Stand) (q w : W) (i : ℕ) (s : State) → length all ≤ i → Ran gives T z q (rest value does config all i s) a w
      → Ran gives T z q (Gives (tt, s)) a w
  unfolding tops
  walk_end gives all T z a q w i s le on = loop_end (λ l v. tops value does config i l v) all i s le on
