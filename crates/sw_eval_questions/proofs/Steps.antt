-- The steps of every proof of the evaluation.
use Rattle.std.proofs.Common.{◌≡◌, ℕ, ◌+◌, ◌<◌, ◌≤◌, List, [], ◌∷◌, ◌++◌, length, Some, slice_get, None, Result, Ok, Err, Bool, true, false, nat_lt, refl, subst, ap, arith}
use Rattle.std.proofs.lemmas.Bool.Decides.{nat_tests}
use Rattle.std.specs.Prelude.{IsErr, IsErrAnd}
use Rattle.sw_world.specs.declared.question.Question.{Question}
use Rattle.sw_world.specs.declared.answer.Answer.{Answer}
use Rattle.sw_text.specs.declared.fault.Fault.{Fault as Fault_at}
use Rattle.sw_text.specs.declared.place.Span.{Span}
use Rattle.sw_world.specs.Questions.{IsLoad, Fits}
use Rattle.sw_world.specs.Body.{Pair}
use Rattle.sw_world.specs.Laws.{most_asked}
use Rattle.sw_eval_questions.specs.Talk.{NumberedQuestion, Talk, Gives, Fails, bind, answered, too_many, no_owner}
use Rattle.sw_eval_questions.specs.Ran.{Stand, Ran, op_at, still, takes, asks, full, lost, ran_on, within}
use Rattle.sw_eval_questions.specs.Did.{Did, IsReturn}
use Rattle.sw_eval_questions.specs.Asking.{asking}
use Rattle.sw_eval_questions.specs.declared.stop.Stop.{Stop}
use Rattle.sw_eval_questions.specs.declared.stop.Stop.TheVariants.{Memory, Fault}

stops : {A B S : Type 0} (e : Stop) (l : Talk (A × S)) (f : A × S → Talk (B × S)) (s u : S) → IsReturn (Err e) s l → IsReturn (Err e) u (bind l f)
unfolding bind
stops Memory l f s u is = tt
stops (Fault code) l f s u is = ap (λ (t : Talk _). bind t f) is

-- what a failed call returns
pub err_of : {A : Type 0} (r : Result A Stop) (e : Stop) → IsErr r × IsErrAnd r (λ x. x ≡ e) → r ≡ Err e
err_of (Ok v) e p = absurd p.1
err_of (Err x) e p = ap Err p.1

-- the same of functions that ask nothing
pub plain_err : {A B S : Type 0} (t : Talk (A × S)) (f : A × S → Talk (B × S)) (e : Stop) (r : Result B Stop) (s u : S) → IsReturn (Err e) s t → IsErr r × IsErrAnd r (λ x. x ≡ e)
    → IsReturn r u (bind t f)
plain_err t f e r s u is p = rw (err_of r e p) (stops e t f s u is)

pub plain_then : {A B S : Type 0} (t : Talk (A × S)) (f : A × S → Talk (B × S)) (v : A) (r : Result B Stop) (s u : S) → IsReturn (Ok v) s t → IsReturn r u (f (v, s)) → IsReturn r u (bind t f)
unfolding bind
plain_then t f v r s u is more = rw is more

pub gives_state : {A S : Type 0} {v w : A} {s t : S} → ◌≡◌ {A = Talk (A × S)} (Gives (v, s)) (Gives (w, t)) → s ≡ t
gives_state {A} {S} {v} {w} {s} {t} e = let p : ◌≡◌ {A = A × S} (v, s) (w, t) = cc in ap (λ (r : A × S). r.1) p

only_memory : {A S : Type 0} (e : Stop) (u : S) (x : A × S) → IsReturn {A = A} (Err e) u (Gives x) → e ≡ Memory
only_memory Memory u x is = refl
only_memory (Fault code) u x is = absurd cc

module _ {W : Type 0} {gives : W → Question → Answer → W → Type 0} where
  -- nothing was asked
  pub did_value : {A S : Type 0} (v : A) (s : S) (a : Stand) (w : W) → Did gives (Gives (v, s)) a w (Ok v) s a w
  did_value v s a w = record { last = Gives (v, s); ran = still (Gives (v, s)) a w; is_return = refl }

  pub did_fault : {A S : Type 0} (code : Fault_at) (s : S) (a : Stand) (w : W) → Did {A = A} gives (Fails code) a w (Err (Fault code)) s a w
  did_fault code s a w = record { last = Fails code; ran = still (Fails code) a w; is_return = refl }

  pub did_memory : {A S : Type 0} (t : Talk (A × S)) (s : S) (a : Stand) (w : W) → Did gives t a w (Err Memory) s a w
  did_memory t s a w = record { last = t; ran = still t a w; is_return = tt }

  pub no_memory : {A S : Type 0} (t : Talk (A × S)) (s : S) (a : Stand) (w : W) (r : Result A Stop) → IsErr r × IsErrAnd r (λ x. x ≡ Memory) → Did gives t a w r s a w
  no_memory t s a w r p = rw (err_of r Memory p) (did_memory t s a w)

  -- a function that has no fault
  pub no_memory_by : {A B S : Type 0} (t : Talk (B × S)) (s u : S) (a : Stand) (w : W) (r : Result B Stop) (e : Stop) (x : A × S) → IsReturn {A = A} (Err e) u (Gives x)
      → IsErr r × IsErrAnd r (λ y. y ≡ e) → Did gives t a w r s a w
  no_memory_by t s u a w r e x is p = rw (err_of r e p, only_memory e u x is) (did_memory t s a w)

  -- what a function that asks nothing returns
  pub did_plain : {A S : Type 0} (t : Talk (A × S)) (s : S) (a : Stand) (w : W) (r : Result A Stop) → IsReturn r s t → Did gives t a w r s a w
  did_plain t s a w r is = record { last = t; ran = still t a w; is_return = is }

  -- a call, and what goes on after it
  pub did_then : {A B S : Type 0} {t : Talk (A × S)} (f : A × S → Talk (B × S)) {a b c : Stand} {w x y : W} {v : A} {s u : S} {r : Result B Stop}
      → Did gives t a w (Ok v) s b x → Did gives (f (v, s)) b x r u c y → Did gives (bind t f) a w r u c y
  unfolding bind
  did_then {t = t} f {a = a} {b = b} {c = c} {w = w} {x = x} {y = y} {v = v} {s = s} d e =
      record {
        last = e.last;
        ran = ran_on (bind t f) (f (v, s)) e.last a b c w x y (subst (λ (l : _). Ran gives (bind t f) a w (bind l f) b x) d.is_return (within t d.last f a b w x d.ran)) e.ran;
        is_return = e.is_return;
      }

  -- a call that stopped stops what goes on after it
  pub did_stop : {A B S : Type 0} {t : Talk (A × S)} (f : A × S → Talk (B × S)) {a b : Stand} {w x : W} {e : Stop} {s u : S}
      → Did gives t a w (Err e) s b x → Did gives (bind t f) a w (Err e) u b x
  did_stop {t = t} f {a = a} {b = b} {w = w} {x = x} {e = e} {s = s} {u = u} d =
      record { last = bind d.last f; ran = within t d.last f a b w x d.ran; is_return = stops e d.last f s u d.is_return }

  -- the same, as a failed call returns it
  pub did_err : {A B S : Type 0} {t : Talk (A × S)} (f : A × S → Talk (B × S)) {a b : Stand} {w x : W} {e : Stop} {r : Result B Stop} {s u : S}
      → Did gives t a w (Err e) s b x → IsErr r × IsErrAnd r (λ y. y ≡ e) → Did gives (bind t f) a w r u b x
  did_err f {e = e} {r = r} d p = rw (err_of r e p) (did_stop f d)

  -- in a loop: on from where it came to
  pub ran_then : {A B S : Type 0} {T : Talk (B × S)} {t : Talk (A × S)} (f : A × S → Talk (B × S)) {z a b : Stand} {q w x : W} {v : A} {s : S}
      → Ran gives T z q (bind t f) a w → Did gives t a w (Ok v) s b x → Ran gives T z q (f (v, s)) b x
  unfolding bind
  ran_then {T = T} {t = t} f {z = z} {a = a} {b = b} {q = q} {w = w} {x = x} {v = v} {s = s} on d =
      ran_on T (bind t f) (f (v, s)) z a b q w x on (subst (λ (l : _). Ran gives (bind t f) a w (bind l f) b x) d.is_return (within t d.last f a b w x d.ran))

  -- at the end of a loop
  pub ran_did : {A S : Type 0} {T t : Talk (A × S)} {z a b : Stand} {q w x : W} {r : Result A Stop} {s : S}
      → Ran gives T z q t a w → Did gives t a w r s b x → Did gives T z q r s b x
  ran_did {T = T} {t = t} {z = z} {a = a} {b = b} {q = q} {w = w} {x = x} on d = record { last = d.last; ran = ran_on T t d.last z a b q w x on d.ran; is_return = d.is_return }

  -- a question
  pub ask_full : {S : Type 0} (q : NumberedQuestion) (at : Span) (s : S) (a : Stand) (w : W) (r : Result (ℕ × Answer) Stop) → most_asked ≤ a.at → IsReturn r s (Fails (too_many at)) → Did gives (asking q at s) a w r s a w
  unfolding asking
  ask_full q at s a w r many is = record { last = Fails (too_many at); ran = full q at (λ n a. Gives ((n, a), s)) a w (Fails (too_many at)) a w many (still (Fails (too_many at)) a w); is_return = is }

  pub ask_lost : {S : Type 0} (q : NumberedQuestion) (at : Span) (s : S) (a : Stand) (w : W) (r : Result (ℕ × Answer) Stop) → a.at < most_asked → op_at a.path a.pairs a.at q ≡ None → IsReturn r s (Fails (no_owner at)) → Did gives (asking q at s) a w r s a w
  unfolding asking
  ask_lost q at s a w r few none is = record { last = Fails (no_owner at); ran = lost q at (λ n a. Gives ((n, a), s)) a w (Fails (no_owner at)) a w few none (still (Fails (no_owner at)) a w); is_return = is }

  pub ask_takes : {S : Type 0} (q : NumberedQuestion) (op : Question) (at : Span) (s : S) (path : List ℕ) (ps : List Pair) (n : ℕ) (w : W) (p : Pair) (r : Result (ℕ × Answer) Stop) → n < most_asked → op_at path ps n q ≡ Some op → slice_get ps n ≡ Some p
      → IsReturn r s (answered (λ a. Gives ((n, a), s)) p.1) → Did gives (asking q at s) (record { path = path; pairs = ps; at = n }) w r s (record { path = path; pairs = ps; at = n + 1 }) w
  unfolding asking
  ask_takes {S = S} q op at s path ps n w p r few asked here is =
      let b : Stand = record { path = path; pairs = ps; at = n + 1 } in let t : Talk ((ℕ × Answer) × S) = answered (λ a. Gives ((n, a), s)) p.1 in
      record { last = t; ran = takes q op at (λ n a. Gives ((n, a), s)) path ps n w p t b w few asked here (still t b w); is_return = is }

  pub ask_asks : {S : Type 0} (q : NumberedQuestion) (op : Question) (at : Span) (s : S) (path : List ℕ) (ps qs : List Pair) (n : ℕ) (w v : W) (a : Answer) (r : Result (ℕ × Answer) Stop) → n < most_asked → n ≡ length ps → op_at path ps n q ≡ Some op
      → (IsLoad op → ⊥) → gives w op a v → Fits op a → qs ≡ ps ++ (op, a) ∷ [] → IsReturn r s (answered (λ a. Gives ((n, a), s)) a)
      → Did gives (asking q at s) (record { path = path; pairs = ps; at = n }) w r s (record { path = path; pairs = qs; at = n + 1 }) v
  unfolding asking
  ask_asks {S = S} q op at s path ps qs n w v a r few is_len asked plain given fits grew is =
      let b : Stand = record { path = path; pairs = ps ++ (op, a) ∷ []; at = length ps + 1 } in
      let t : Talk ((ℕ × Answer) × S) = answered (λ a. Gives ((length ps, a), s)) a in
      let few' : length ps < most_asked = rw (← is_len) few in
      let asked' : op_at path ps (length ps) q ≡ Some op = subst (λ (m : ℕ). op_at path ps m q ≡ Some op) is_len asked in
      let is' : IsReturn r s t = subst (λ (m : ℕ). IsReturn r s (answered (λ a. Gives ((m, a), s)) a)) is_len is in
      rw (is_len, grew)
      record { last = t; ran = asks q op at (λ n a. Gives ((n, a), s)) path ps w a v t b v few' asked' plain given fits (still t b v); is_return = is' }

module _ {W : Type 0} {gives : W → Question → Answer → W → Type 0} where
  lost_by : {S : Type 0} (b : Bool) (q : NumberedQuestion) (at : Span) (s : S) (a : Stand) (w : W) (r : Result (ℕ × Answer) Stop) → nat_lt a.at most_asked ≡ b → op_at a.path a.pairs a.at q ≡ None
      → (most_asked ≤ a.at → IsReturn r s (Fails (too_many at))) → (a.at < most_asked → IsReturn r s (Fails (no_owner at))) → Did gives (asking q at s) a w r s a w
  lost_by true q at s a w r e none over gone = let lt : a.at < most_asked = grind (arith, nat_tests) in ask_lost q at s a w r lt none (gone lt)
  lost_by false q at s a w r e none over gone = let le : most_asked ≤ a.at = grind (arith, nat_tests) in ask_full q at s a w r le (over le)

  -- a question about no owner
  pub ask_none : {S : Type 0} (q : NumberedQuestion) (at : Span) (s : S) (a : Stand) (w : W) (r : Result (ℕ × Answer) Stop) → op_at a.path a.pairs a.at q ≡ None
      → (most_asked ≤ a.at → IsReturn r s (Fails (too_many at))) → (a.at < most_asked → IsReturn r s (Fails (no_owner at))) → Did gives (asking q at s) a w r s a w
  ask_none q at s a w r none over gone = lost_by (nat_lt a.at most_asked) q at s a w r refl none over gone
