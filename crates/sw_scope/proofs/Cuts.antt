-- How many frames there are, and where they are cut.
use Rattle.std.proofs.Common.{◌≡◌, ℕ, zero, suc, ◌+◌, ◌<◌, ◌≤◌, ◌==◌, Bool, true, false, cond, ◌&&◌, List, [], ◌∷◌, ◌++◌, length, take, drop, get_or, Option, Some, None, slice_get, slice_set, option_map, bytes_eq, refl, sym, ◌∙◌, ap, subst, length-append, arith}
use Rattle.std.proofs.lemmas.List.{drop-set-lt, take-set-le, drop-set-add, length-take-le, take-append-le, drop-append-le}
use Rattle.std.proofs.Math.Seq.{take-set-lt}
use Rattle.sw_values.specs.declared.plain.Plain.{Plain}
use Rattle.sw_scope.specs.declared.mark.FrameMark.{FrameMark}
use Rattle.sw_scope.specs.Frames.{Frame, Variable, place, later, value_at, or_else, look_in, is_flow, all_flow}
use Rattle.sw_scope.specs.Stack.{Standing, seen_from, set_from, set_here, declare_on}
use Rattle.sw_scope.specs.Cut.{back, cut, standing, frames, IsCut, found, shifted, put_at, flows}

pub length-back : (ms : List FrameMark) → length (back ms) ≡ length ms
length-back [] = refl
length-back (m ∷ ms) = length-append (back ms) (m ∷ []) ∙ omega (arith, length-back ms)

pub length-cut : (ms : List FrameMark) (vs : List Variable) → length (cut ms vs) ≡ length ms
length-cut [] vs = refl
length-cut (m ∷ ms) vs = ap suc (length-cut ms (take m.start vs))

pub length-frames : (ms : List FrameMark) (vs : List Variable) → length (frames ms vs) ≡ length ms
unfolding frames
length-frames ms vs = length-cut (back ms) vs ∙ length-back ms

take-none : (ms : List FrameMark) → take 0 ms ≡ []
take-none [] = refl
take-none (m ∷ ms) = refl

pub back-take : (ms : List FrameMark) (i : ℕ) (d : FrameMark) → i < length ms → back (take (suc i) ms) ≡ get_or ms i d ∷ back (take i ms)
back-take [] i d lt = absurd (omega arith)
back-take (m ∷ ms) zero d lt = ap (λ l. back l ++ m ∷ []) (take-none ms)
back-take (m ∷ ms) (suc i) d lt = ap (λ l. l ++ m ∷ []) (back-take ms i d (omega arith))

-- ---- places that are within

abbrev pub Below : Option ℕ → ℕ → Type 0
Below None n = Unit {0}
Below (Some i) n = i < n

pub place-below : (vs : List Variable) (name : List ℕ) → Below (place vs name) (length vs)
place-below [] name = tt
place-below (v ∷ vs) name = step (place vs name) (bytes_eq v.0 name) (place-below vs name)
  where
    step : (o : Option ℕ) (b : Bool) → Below o (length vs) → Below (later o b) (suc (length vs))
    step (Some i) b lt = omega (arith, lt)
    step None true lt = omega arith
    step None false lt = tt

weaken : (o : Option ℕ) (n m : ℕ) → Below o n → n ≤ m → Below o m
weaken None n m b le = tt
weaken (Some i) n m b le = omega (arith, b, le)

length-drop : (n : ℕ) (vs : List Variable) → n ≤ length vs → n + length (drop n vs) ≡ length vs
length-drop zero [] le = refl
length-drop (suc n) [] le = absurd (omega arith)
length-drop zero (v ∷ vs) le = omega arith
length-drop (suc n) (v ∷ vs) le = omega (arith, length-drop n vs (omega arith))

cond_below : (b : Bool) (o p : Option ℕ) (n : ℕ) → Below o n → Below p n → Below (cond b o p) n
cond_below true o p n x y = x
cond_below false o p n x y = y

shifted_below : (start n : ℕ) (o p : Option ℕ) (m : ℕ) → Below o m → start + m ≡ n → Below p n → Below (shifted start o p) n
shifted_below start n None p m b e y = y
shifted_below start n (Some i) p m b e y = omega (arith, b, e)

pub cut-take : (m : FrameMark) (ms : List FrameMark) (vs : List Variable) → IsCut (m ∷ ms) (length vs) → IsCut ms (length (take m.start vs))
cut-take m ms vs is = rw (length-take-le m.start vs is.0) is.2

pub found-below : (n : ℕ) (ms : List FrameMark) (vs : List Variable) (name : List ℕ) → IsCut ms (length vs) → Below (found n ms vs name) (length vs)
found-below n [] vs name is = tt
found-below n (m ∷ ms) vs name is =
    let e : length (take m.start vs) ≡ m.start = length-take-le m.start vs is.0 in
    let lower : (k : ℕ) → Below (found k ms (take m.start vs) name) (length vs) = λ k. weaken _ _ _ (found-below k ms (take m.start vs) name (cut-take m ms vs is)) (omega (arith, e, is.0)) in
    cond_below (n == suc (length ms)) _ _ _
    (shifted_below m.start (length vs) (place (drop m.start vs) name) _ (length (drop m.start vs)) (place-below (drop m.start vs) name) (length-drop m.start vs is.0) (lower m.below)) (lower n)

pub found-start : (n : ℕ) (m : FrameMark) (ms : List FrameMark) (vs : List Variable) (name : List ℕ) → IsCut (m ∷ ms) (length vs) → Below (found n ms (take m.start vs) name) m.start
found-start n m ms vs name is =
    subst (λ (k : ℕ). Below (found n ms (take m.start vs) name) k) (length-take-le m.start vs is.0) (found-below n ms (take m.start vs) name (cut-take m ms vs is))

-- ---- looking

pub slice_get-take : (n i : ℕ) (vs : List Variable) → i < n → slice_get (take n vs) i ≡ slice_get vs i
slice_get-take zero i [] lt = refl
slice_get-take (suc n) i [] lt = refl
slice_get-take zero i (v ∷ vs) lt = absurd (omega arith)
slice_get-take (suc n) zero (v ∷ vs) lt = refl
slice_get-take (suc n) (suc i) (v ∷ vs) lt = slice_get-take n i vs (omega arith)

pub slice_get-drop : (n i : ℕ) (vs : List Variable) → slice_get (drop n vs) i ≡ slice_get vs (n + i)
slice_get-drop zero i [] = refl
slice_get-drop (suc n) i [] = refl
slice_get-drop zero i (v ∷ vs) = let e : 0 + i ≡ i = omega arith in ap (slice_get (v ∷ vs)) (sym e)
slice_get-drop (suc n) i (v ∷ vs) = let e : suc n + i ≡ suc (n + i) = omega arith in slice_get-drop n i vs ∙ ap (slice_get (v ∷ vs)) (sym e)

value-take : (n : ℕ) (vs : List Variable) (o : Option ℕ) → Below o n → value_at (take n vs) o ≡ value_at vs o
value-take n vs None b = refl
value-take n vs (Some i) b = ap (option_map (λ v. v.1)) (slice_get-take n i vs b)

look_here : (start : ℕ) (vs : List Variable) (p l : Option ℕ) (ll : Option Plain) → Below p (length (drop start vs)) → ll ≡ value_at vs l → or_else (value_at (drop start vs) p) ll ≡ value_at vs (shifted start p l)
look_here start vs None l ll lt el = el
look_here start vs (Some i) l ll lt el = is_some (slice_get (drop start vs) i) refl
  where
    none : (ws : List Variable) (j : ℕ) → j < length ws → slice_get ws j ≡ None → ⊥
    none [] j lt e = omega (arith, lt)
    none (w ∷ ws) zero lt e = cc
    none (w ∷ ws) (suc j) lt e = none ws j (omega (arith, lt)) e

    is_some : (o : Option Variable) → slice_get (drop start vs) i ≡ o → or_else (value_at (drop start vs) (Some i)) ll ≡ value_at vs (Some (start + i))
    is_some (Some v) e = ap (λ r. or_else (option_map (λ v. v.1) r) ll) e ∙ ap (option_map (λ v. v.1)) (sym e ∙ slice_get-drop start i vs)
    is_some None e = absurd (none (drop start vs) i lt e)

look_at : (b : Bool) (m : FrameMark) (vs : List Variable) (name : List ℕ) (l o : Option ℕ) (fs gs : List Frame) → look_in fs name ≡ value_at vs l → look_in gs name ≡ value_at vs o
    → look_in (cond b ((standing m (drop m.start vs)).frame ∷ fs) gs) name ≡ value_at vs (cond b (shifted m.start (place (drop m.start vs) name) l) o)
look_at false m vs name l o fs gs el eo = eo
look_at true m vs name l o fs gs el eo = look_here m.start vs (place (drop m.start vs) name) l (look_in fs name) (place-below (drop m.start vs) name) el

pub look_cut : (n : ℕ) (ms : List FrameMark) (vs : List Variable) (name : List ℕ) → IsCut ms (length vs) → look_in (seen_from n (cut ms vs)) name ≡ value_at vs (found n ms vs name)
look_cut n [] vs name is = refl
look_cut n (m ∷ ms) vs name is =
    let lower : (k : ℕ) → look_in (seen_from k (cut ms (take m.start vs))) name ≡ value_at vs (found k ms (take m.start vs) name) =
    λ k. look_cut k ms (take m.start vs) name (cut-take m ms vs is) ∙ value-take m.start vs _ (found-start k m ms vs name is) in
    rw (length-cut ms (take m.start vs)) (look_at (n == suc (length ms)) m vs name _ _ _ _ (lower m.below) (lower n))

-- ---- setting

cut_lower : (m : FrameMark) (ms : List FrameMark) (vs : List Variable) (r : Option ℕ) (v : Variable) → Below r m.start
    → cut (m ∷ ms) (put_at vs r v) ≡ standing m (drop m.start vs) ∷ cut ms (put_at (take m.start vs) r v)
cut_lower m ms vs None v b = refl
cut_lower m ms vs (Some i) v b = rw (drop-set-lt m.start vs i v b, take-set-lt m.start vs i v b) refl

set_at : (b : Bool) (m : FrameMark) (ms : List FrameMark) (vs : List Variable) (v : Variable) (p l o : Option ℕ) (ll oo : List Standing) (lower : ℕ → List Standing) → ll ≡ lower m.below
    → Below l m.start → Below o m.start → ll ≡ cut ms (put_at (take m.start vs) l v) → oo ≡ cut ms (put_at (take m.start vs) o v)
    → cond b (set_here p (standing m (drop m.start vs)) (cut ms (take m.start vs)) lower v) (standing m (drop m.start vs) ∷ oo) ≡ cut (m ∷ ms) (put_at vs (cond b (shifted m.start p l) o) v)
set_at false m ms vs v p l o ll oo lower is bl bo el eo = rw eo (sym (cut_lower m ms vs o v bo))
set_at true m ms vs v None l o ll oo lower is bl bo el eo = rw (sym is ∙ el) (sym (cut_lower m ms vs l v bl))
set_at true m ms vs v (Some i) l o ll oo lower is bl bo el eo = rw (drop-set-add m.start vs i v, take-set-le m.start vs (m.start + i) v (omega arith)) refl

pub set_cut : (n : ℕ) (ms : List FrameMark) (vs : List Variable) (v : Variable) → IsCut ms (length vs) → set_from n (cut ms vs) v ≡ cut ms (put_at vs (found n ms vs v.0) v)
set_cut n [] vs v is = refl
set_cut n (m ∷ ms) vs v is =
    let ws : List Variable = take m.start vs in
    rw (length-cut ms ws)
    (set_at (n == suc (length ms)) m ms vs v (place (drop m.start vs) v.0) (found m.below ms ws v.0) (found n ms ws v.0) _ _ (λ k. set_from k (cut ms ws) v) refl
    (found-start m.below m ms vs v.0 is) (found-start n m ms vs v.0 is) (set_cut m.below ms ws v (cut-take m ms vs is)) (set_cut n ms ws v (cut-take m ms vs is)))

pub length-put : (vs : List Variable) (r : Option ℕ) (v : Variable) → length (put_at vs r v) ≡ length vs
length-put vs None v = refl
length-put vs (Some i) v = length-set vs i
  where
    length-set : (ws : List Variable) (j : ℕ) → length (slice_set ws j v) ≡ length ws
    length-set [] j = refl
    length-set (w ∷ ws) zero = refl
    length-set (w ∷ ws) (suc j) = ap suc (length-set ws j)

-- ---- kinds

flow_at : (b : Bool) (m : FrameMark) (vs : List Variable) (fs gs : List Frame) (l o : Bool) → all_flow fs ≡ l → all_flow gs ≡ o → all_flow (cond b ((standing m vs).frame ∷ fs) gs) ≡ cond b (is_flow m.kind && l) o
flow_at false m vs fs gs l o el eo = eo
flow_at true m vs fs gs l o el eo = ap (λ r. is_flow m.kind && r) el

pub flow_cut : (n : ℕ) (ms : List FrameMark) (vs : List Variable) → all_flow (seen_from n (cut ms vs)) ≡ flows n ms
flow_cut n [] vs = refl
flow_cut n (m ∷ ms) vs =
    let ws : List Variable = take m.start vs in
    rw (length-cut ms ws) (flow_at (n == suc (length ms)) m (drop m.start vs) _ _ _ _ (flow_cut m.below ms ws) (flow_cut n ms ws))

-- ---- declaring

pub declare_cut : (ms : List FrameMark) (vs : List Variable) (v : Variable) → IsCut ms (length vs) → cut ms (vs ++ v ∷ []) ≡ declare_on (cut ms vs) v
declare_cut [] vs v is = refl
declare_cut (m ∷ ms) vs v is = rw (drop-append-le m.start vs (v ∷ []) is.0, take-append-le m.start vs (v ∷ []) is.0) refl

pub cut-more : (ms : List FrameMark) (n k : ℕ) → IsCut ms n → n ≤ k → IsCut ms k
cut-more [] n k is le = tt
cut-more (m ∷ ms) n k is le = (omega (arith, is.0, le), is.1, is.2)

pub back-push : (ms : List FrameMark) (m : FrameMark) → back (ms ++ m ∷ []) ≡ m ∷ back ms
back-push [] m = refl
back-push (x ∷ ms) m = ap (λ l. l ++ x ∷ []) (back-push ms m)

pub length-push : (vs : List Variable) (v : Variable) → length vs ≤ length (vs ++ v ∷ [])
length-push vs v = omega (arith, length-append vs (v ∷ []))
