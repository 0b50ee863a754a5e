-- What a walk through a talk tells of the body that the talk is the rest of.
use Rattle.std.proofs.Common.{◌≡◌, ℕ, zero, suc, ◌+◌, ◌-◌, ◌<◌, ◌≤◌, List, [], ◌∷◌, ◌++◌, length, take, slice_get, Some, None, refl, sym, ◌∙◌, ap, subst, append_assoc, append-nil, length-append, add-one, arith}
use Rattle.std.proofs.lemmas.List.{length-take-le}
use Rattle.sw_world.specs.declared.question.Question.{Question}
use Rattle.sw_world.specs.declared.answer.Answer.{Answer}
use Rattle.sw_world.specs.declared.end.Finish.{Finish}
use Rattle.sw_text.specs.declared.place.Span.{Span}
use Rattle.sw_world.specs.Body.{Pair, Next, Asks, answers, Goes, Leads}
use Rattle.sw_world.specs.Laws.{most_asked}
use Rattle.sw_eval_questions.specs.Talk.{NumberedQuestion, Talk, Fails, Asking, answered, too_many, no_owner, op_of, next_by, run}
use Rattle.sw_eval_questions.specs.Ran.{Stand, Ran, still, takes, asks, full, lost}

-- after so many answers of these pairs the body is the talk
abbrev pub IsRest : {A : Type 0} → (A → Finish) → List ℕ → (List Answer → Next) → List Pair → ℕ → Talk A → Type 0
IsRest end path b ps n t = (more : List Answer)
    → b (answers (take n ps) ++ more) ≡ run end path (most_asked - n) (answers (take n ps)) t more

pub record Told {W A : Type 0} (gives : W → Question → Answer → W → Type 0) (end : A → Finish) (path : List ℕ)
    (b : List Answer → Next) (ps : List Pair) (w : W) (u : Talk A) (s : Stand) (x : W) : Type 0 where
  pub asked : List Pair
  pub grew : s.pairs ≡ ps ++ asked
  pub same_path : s.path ≡ path
  pub led : Leads gives w asked x
  pub goes : Goes b (answers ps) asked
  pub rest : IsRest end path b s.pairs s.at u
  pub within : s.at ≤ length s.pairs

pub answers-append : (ps qs : List Pair) → answers (ps ++ qs) ≡ answers ps ++ answers qs
answers-append [] qs = refl
answers-append (p ∷ ps) qs = ap (λ l. p.1 ∷ l) (answers-append ps qs)

pub goes-append : (b : List Answer → Next) (before : List Answer) (ps qs : List Pair) → Goes b before ps
    → Goes b (before ++ answers ps) qs → Goes b before (ps ++ qs)
goes-append b before [] qs g h = subst (λ (l : List Answer). Goes b l qs) (append-nil before) h
goes-append b before (p ∷ ps) qs g h = (
  g.0,
  g.1,
  goes-append b (before ++ p.1 ∷ []) ps qs g.2
      (subst (λ (l : List Answer). Goes b l qs) (sym (append_assoc before (p.1 ∷ []) (answers ps))) h),
)

take_more : (ps : List Pair) (n : ℕ) (p : Pair) → slice_get ps n ≡ Some p → take (suc n) ps ≡ take n ps ++ p ∷ []
take_more [] n p e = absurd cc
take_more (q ∷ ps) zero p e = let k : q ≡ p = cc in ap (λ r. r ∷ []) k
take_more (q ∷ ps) (suc n) p e = ap (λ l. q ∷ l) (take_more ps n p e)

take_all : (ps : List Pair) (n : ℕ) → length ps ≤ n → take n ps ≡ ps
take_all [] zero le = refl
take_all [] (suc n) le = refl
take_all (p ∷ ps) zero le = absurd (omega arith)
take_all (p ∷ ps) (suc n) le = ap (λ l. p ∷ l) (take_all ps n (omega arith))

slice_get_within : (ps : List Pair) (n : ℕ) (p : Pair) → slice_get ps n ≡ Some p → n < length ps
slice_get_within [] n p e = absurd cc
slice_get_within (q ∷ ps) zero p e = omega arith
slice_get_within (q ∷ ps) (suc n) p e = omega (arith, slice_get_within ps n p e)

length-answers : (ps : List Pair) → length (answers ps) ≡ length ps
length-answers [] = refl
length-answers (p ∷ ps) = ap suc (length-answers ps)

length-taken : (ps : List Pair) (n : ℕ) → n ≤ length ps → length (answers (take n ps)) ≡ n
length-taken ps n le = length-answers (take n ps) ∙ length-take-le n ps le

module _ {A : Type 0} (end : A → Finish) (path : List ℕ) (b : List Answer → Next) where
  -- one answer more
  step : (before : List Answer) (n : ℕ) (q : NumberedQuestion) (op : Question) (span : Span) (k : ℕ → Answer → Talk A) (a : Answer)
      → n < most_asked → length before ≡ n → op_of path before q ≡ Some op
      → ((more : List Answer) → b (before ++ more) ≡ run end path (most_asked - n) before (Asking q span k) more)
      → (more : List Answer) → b ((before ++ a ∷ []) ++ more) ≡ run end path (most_asked - (n + 1)) (before ++ a ∷ [])
      (answered (k n) a) more
  unfolding run
  step before n q op span k a few long known is more =
      let e : most_asked - n ≡ suc (most_asked - (n + 1)) = omega arith in
      let on : Answer → List Answer → Next =
      λ c rest. run end path (most_asked - (n + 1)) (before ++ c ∷ []) (answered (k (length before)) c) rest in
      ap b (append_assoc before (a ∷ []) more) ∙ is (a ∷ more)
      ∙ ap (λ m. run end path m before (Asking q span k) (a ∷ more)) e ∙ ap (λ o. next_by o span (a ∷ more) on) known
      ∙ ap (λ m. run end path (most_asked - (n + 1)) (before ++ a ∷ []) (answered (k m) a) more) long

  begins : (before : List Answer) (n : ℕ) (q : NumberedQuestion) (op : Question) (span : Span) (k : ℕ → Answer → Talk A)
      → n < most_asked → op_of path before q ≡ Some op
      → ((more : List Answer) → b (before ++ more) ≡ run end path (most_asked - n) before (Asking q span k) more)
      → b before ≡ Asks op
  unfolding run
  begins before n q op span k few known is =
      let e : most_asked - n ≡ suc (most_asked - (n + 1)) = omega arith in
      let on : Answer → List Answer → Next =
      λ c rest. run end path (most_asked - (n + 1)) (before ++ c ∷ []) (answered (k (length before)) c) rest in
      ap b (sym (append-nil before)) ∙ is [] ∙ ap (λ m. run end path m before (Asking q span k) []) e
      ∙ ap (λ o. next_by o span [] on) known

  over : (before : List Answer) (n : ℕ) (q : NumberedQuestion) (span : Span) (k : ℕ → Answer → Talk A) → most_asked ≤ n
      → ((more : List Answer) → b (before ++ more) ≡ run end path (most_asked - n) before (Asking q span k) more)
      → (more : List Answer) → b (before ++ more) ≡ run end path (most_asked - n) before (Fails (too_many span)) more
  unfolding run
  over before n q span k many is more =
      let e : most_asked - n ≡ 0 = omega arith in is more ∙ ap (λ m. run end path m before (Asking q span k) more) e
      ∙ sym (ap (λ m. run end path m before (Fails (too_many span)) more) e)

  gone : (before : List Answer) (n : ℕ) (q : NumberedQuestion) (span : Span) (k : ℕ → Answer → Talk A) → n < most_asked
      → op_of path before q ≡ None
      → ((more : List Answer) → b (before ++ more) ≡ run end path (most_asked - n) before (Asking q span k) more)
      → (more : List Answer) → b (before ++ more) ≡ run end path (most_asked - n) before (Fails (no_owner span)) more
  unfolding run
  gone before n q span k few known is more =
      let e : most_asked - n ≡ suc (most_asked - (n + 1)) = omega arith in
      let on : Answer → List Answer → Next =
      λ c rest. run end path (most_asked - (n + 1)) (before ++ c ∷ []) (answered (k (length before)) c) rest in
      is more ∙ ap (λ m. run end path m before (Asking q span k) more) e ∙ ap (λ o. next_by o span more on) known

pub tells : {W A : Type 0} {gives : W → Question → Answer → W → Type 0} (end : A → Finish) (path : List ℕ) (b : List Answer
    → Next) (t u : Talk A) (ps : List Pair) (n : ℕ) (s : Stand) (w x : W) → n ≤ length ps → IsRest end path b ps n t
    → Ran gives t (record { path = path; pairs = ps; at = n }) w u s x → Told gives end path b ps w u s x
tells end path b _ _ ps n _ _ _ le is (still t s w) =
    record { asked = []; grew = sym (append-nil ps); same_path = refl; led = refl; goes = tt; rest = is; within = le }
tells end path b _ _ _ _ _ _ _ le is (takes q op at k path' ps n w p u s x few known here ran) =
    let long : length (answers (take n ps)) ≡ n = length-taken ps n le in
    let before : (more : List Answer) → b ((answers (take n ps) ++ p.1 ∷ []) ++ more) ≡ run end path
    (most_asked - (n + 1)) (answers (take n ps) ++ p.1 ∷ []) (answered (k n) p.1) more =
    step end path b (answers (take n ps)) n q op at k p.1 few long known is in
    let e : answers (take (n + 1) ps) ≡ answers (take n ps) ++ p.1 ∷ [] =
    rw add-one (ap answers (take_more ps n p here) ∙ answers-append (take n ps) (p ∷ [])) in
    let is' : IsRest end path b ps (n + 1) (answered (k n) p.1) =
    subst (λ (l : List Answer). (more : List Answer)
    → b (l ++ more) ≡ run end path (most_asked - (n + 1)) l (answered (k n) p.1) more) (sym e) before in
    tells end path b (answered (k n) p.1) u ps (n + 1) s w x (omega (arith, slice_get_within ps n p here)) is' ran
tells end path b _ _ _ _ _ _ _ le is (asks q op at k path' ps w a v u s x few asked plain given fits ran) =
    let all : take (length ps) ps ≡ ps = take_all ps (length ps) (omega arith) in
    let here : (more : List Answer) → b (answers ps ++ more) ≡ run end path (most_asked - length ps) (answers ps)
    (Asking q at k) more =
    subst (λ (l : List Pair). (more : List Answer)
    → b (answers l ++ more) ≡ run end path (most_asked - length ps) (answers l) (Asking q at k) more) all is in
    let asked' : op_of path (answers ps) q ≡ Some op =
    subst (λ (l : List Pair). op_of path (answers l) q ≡ Some op) all asked in
    let e : answers (take (length ps + 1) (ps ++ (op, a) ∷ [])) ≡ answers ps ++ a ∷ [] =
    ap answers (take_all (ps ++ (op, a) ∷ []) (length ps + 1) (omega (arith, length-append ps ((op, a) ∷ []))))
    ∙ answers-append ps ((op, a) ∷ []) in
    let later : (more : List Answer) → b ((answers ps ++ a ∷ []) ++ more) ≡ run end path
    (most_asked - (length ps + 1)) (answers ps ++ a ∷ []) (answered (k (length ps)) a) more =
    step end path b (answers ps) (length ps) q op at k a few (length-answers ps) asked' here in
    let is' : IsRest end path b (ps ++ (op, a) ∷ []) (length ps + 1) (answered (k (length ps)) a) =
    subst (λ (l : List Answer). (more : List Answer)
    → b (l ++ more) ≡ run end path (most_asked - (length ps + 1)) l (answered (k (length ps)) a) more) (sym e)
    later in
    let on : Told _ end path b (ps ++ (op, a) ∷ []) v u s x =
    tells end path b (answered (k (length ps)) a) u (ps ++ (op, a) ∷ []) (length ps + 1) s v x
    (omega (arith, length-append ps ((op, a) ∷ []))) is' ran in
    record {
      asked = (op, a) ∷ on.asked;
      grew = on.grew ∙ append_assoc ps ((op, a) ∷ []) on.asked;
      same_path = on.same_path;
      led = (plain, (v, given, on.led));
      goes = (
        begins end path b (answers ps) (length ps) q op at k few asked' here,
        fits,
        subst
            (λ (l : List Answer). Goes b l on.asked) (answers-append ps ((op, a) ∷ [])) on.goes,
      );
      rest = on.rest;
      within = on.within;
    }
tells end path b _ _ _ _ _ _ _ le is (full q at k s' w u s x many ran) =
    tells end path b (Fails (too_many at)) u s'.pairs s'.at s w x le
    (over end path b (answers (take s'.at s'.pairs)) s'.at q at k many is) ran
tells end path b _ _ _ _ _ _ _ le is (lost q at k s' w u s x few asked ran) =
    tells end path b (Fails (no_owner at)) u s'.pairs s'.at s w x le
    (gone end path b (answers (take s'.at s'.pairs)) s'.at q at k few asked is) ran
