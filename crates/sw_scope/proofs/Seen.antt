-- What is seen of cut variables, and what the calls make of them.
use Rattle.std.proofs.Common.{◌≡◌, ℕ, zero, suc, ◌<◌, ◌≤◌, nat_le, cond, List, [], ◌∷◌, ◌++◌, length, take, drop, slice_get, slice_set, get_or, Some, None, option_map, Result, Ok, Err, OnOk, OnErr, refl, sym, ◌∙◌, ap, subst, arith}
use Rattle.std.proofs.Math.Seq.{take-length}
use Rattle.sw_values.specs.declared.plain.Plain.{Plain}
use Rattle.sw_scope.specs.declared.mark.FrameMark.{FrameMark}
use Rattle.sw_scope.specs.declared.mark.FrameKind.{FrameKind}
use Rattle.sw_scope.specs.Frames.{Variable, value_at, look_in, all_flow}
use Rattle.sw_scope.specs.Stack.{Standing, seen, set_on, declare_on, put_on, popped}
use Rattle.sw_scope.specs.Cut.{back, frames, IsCut, StandsLower, found, put_at, flows}
use Rattle.sw_scope.proofs.Cuts.{length-back, length-cut, look_cut, set_cut, flow_cut, declare_cut, cut-more, back-push, length-push, length-put, cut-take}

pub all_flow_is : (ms : List FrameMark) (vs : List Variable) → all_flow (seen (frames ms vs)) ≡ flows (length ms) (back ms)
unfolding seen frames
all_flow_is ms vs = rw (length-cut (back ms) vs, length-back ms) (flow_cut (length ms) (back ms) vs)

pub lower_marks : (ms : List FrameMark) (n : ℕ) → IsCut (back ms) n → StandsLower (back ms)
lower_marks ms n is = lower_all (back ms) n is
  where
    lower_all : (ms : List FrameMark) (n : ℕ) → IsCut ms n → StandsLower ms
    lower_all [] n is = tt
    lower_all (m ∷ ms) n is = (is.1, lower_all ms m.start is.2)

pub look_is : (ms : List FrameMark) (vs : List Variable) (name : List ℕ) → IsCut (back ms) (length vs) → look_in (seen (frames ms vs)) name ≡ value_at vs (found (length ms) (back ms) vs name)
unfolding seen frames
look_is ms vs name is = rw (length-cut (back ms) vs, length-back ms) (look_cut (length ms) (back ms) vs name is)

pub set_is : (ms : List FrameMark) (vs : List Variable) (v : Variable) → IsCut (back ms) (length vs) → set_on (frames ms vs) v ≡ frames ms (put_at vs (found (length ms) (back ms) vs v.0) v)
unfolding set_on frames
set_is ms vs v is = rw (length-cut (back ms) vs, length-back ms) (set_cut (length ms) (back ms) vs v is)

pub on_ok : {A E : Type 0} {P Q : Type 0} (r : Result A E) → OnOk r P → (P → Q) → OnOk r Q
on_ok (Ok v) p f = f p
on_ok (Err e) p f = tt

pub on_both : {A E : Type 0} {P Q R : Type 0} (r : Result A E) → OnOk r P → OnErr r Q → (P → R) → (Q → R) → R
on_both (Ok v) p q f g = f p
on_both (Err e) p q f g = g q

-- ---- a new variable

pub declare_is : (ms : List FrameMark) (vs ws : List Variable) (v : Variable) (fs : List Standing) → IsCut (back ms) (length vs) → frames ms vs ≡ fs → ws ≡ vs ++ v ∷ [] → frames ms ws ≡ declare_on fs v
unfolding frames
declare_is ms vs ws v fs is same grew = rw (grew, sym same) (declare_cut (back ms) vs v is)

pub declare_cuts : (ms : List FrameMark) (vs ws : List Variable) (v : Variable) → IsCut (back ms) (length vs) → ws ≡ vs ++ v ∷ [] → IsCut (back ms) (length ws)
declare_cuts ms vs ws v is grew = rw grew (cut-more (back ms) (length vs) (length (vs ++ v ∷ [])) is (length-push vs v))

pub same_cuts : (ms : List FrameMark) (vs ws : List Variable) → IsCut (back ms) (length vs) → ws ≡ vs → IsCut (back ms) (length ws)
same_cuts ms vs ws is same = rw same is

-- ---- a new frame

drop-all : (vs : List Variable) → drop (length vs) vs ≡ []
drop-all [] = refl
drop-all (v ∷ vs) = drop-all vs

pub put_is : (ms ns : List FrameMark) (vs : List Variable) (n b : ℕ) (kind : FrameKind) (fs : List Standing) → frames ms vs ≡ fs → ns ≡ ms ++ record { kind = kind; below = b; start = length vs; index = None } ∷ []
    → b ≡ cond (nat_le n (length ms)) n (length ms) → frames ns vs ≡ put_on fs n kind
unfolding frames put_on
put_is ms ns vs n b kind fs same grew below =
    rw (grew, back-push ms (record { kind = kind; below = b; start = length vs; index = None }), drop-all vs, take-length vs, below, sym same, length-cut (back ms) vs, length-back ms) refl

pub put_cuts : (ms ns : List FrameMark) (vs : List Variable) (b : ℕ) (kind : FrameKind) → IsCut (back ms) (length vs) → b ≤ length ms → ns ≡ ms ++ record { kind = kind; below = b; start = length vs; index = None } ∷ [] → IsCut (back ns) (length vs)
put_cuts ms ns vs b kind is le grew = rw (grew, back-push ms (record { kind = kind; below = b; start = length vs; index = None })) (omega arith, omega (arith, le, length-back ms), is)

pub same_marks : (ms ns : List FrameMark) (vs : List Variable) → IsCut (back ms) (length vs) → ns ≡ ms → IsCut (back ns) (length vs)
same_marks ms ns vs is same = rw same is

-- ---- a frame less

pub pop_is : (ms ns : List FrameMark) (m : FrameMark) (vs ws : List Variable) (fs : List Standing) → frames ms vs ≡ fs → ms ≡ ns ++ m ∷ [] → ws ≡ take m.start vs → frames ns ws ≡ popped fs
unfolding frames
pop_is ms ns m vs ws fs same was cut_off = rw (cut_off, sym same, was, back-push ns m) refl

pub pop_cuts : (ms ns : List FrameMark) (m : FrameMark) (vs ws : List Variable) → IsCut (back ms) (length vs) → ms ≡ ns ++ m ∷ [] → ws ≡ take m.start vs → IsCut (back ns) (length ws)
pop_cuts ms ns m vs ws is was cut_off =
    rw cut_off (cut-take m (back ns) vs (subst (λ (l : List FrameMark). IsCut l (length vs)) (ap back was ∙ back-push ns m) is))

pub pop_none : (ms ns : List FrameMark) (vs : List Variable) (fs : List Standing) → frames ms vs ≡ fs → ms ≡ [] → ns ≡ [] → frames ns vs ≡ popped fs
unfolding frames
pop_none ms ns vs fs same was now = rw (now, sym same, was) refl

-- ---- one that is seen

pub look_none : (ms : List FrameMark) (vs : List Variable) (name : List ℕ) (fs : List Standing) → IsCut (back ms) (length vs) → frames ms vs ≡ fs → None ≡ found (length ms) (back ms) vs name → look_in (seen fs) name ≡ None
look_none ms vs name fs is same none = rw (sym same) (look_is ms vs name is ∙ ap (value_at vs) (sym none))

pub look_at : (ms : List FrameMark) (vs : List Variable) (name : List ℕ) (fs : List Standing) (i : ℕ) → IsCut (back ms) (length vs) → frames ms vs ≡ fs → Some i ≡ found (length ms) (back ms) vs name
    → look_in (seen fs) name ≡ option_map (λ v. v.1) (slice_get vs i)
look_at ms vs name fs i is same some = rw (sym same) (look_is ms vs name is ∙ ap (value_at vs) (sym some))

there : (vs : List Variable) (i : ℕ) → i < length vs → (v : Plain) × (option_map (λ v. v.1) (slice_get vs i) ≡ Some v)
there [] i lt = absurd (omega (arith, lt))
there (v ∷ vs) zero lt = (v.1, refl)
there (v ∷ vs) (suc i) lt = there vs i (omega (arith, lt))

pub look_some : (ms : List FrameMark) (vs : List Variable) (name : List ℕ) (fs : List Standing) (i : ℕ) → IsCut (back ms) (length vs) → frames ms vs ≡ fs → Some i ≡ found (length ms) (back ms) vs name → i < length vs
    → (v : Plain) × (look_in (seen fs) name ≡ Some v)
look_some ms vs name fs i is same some lt = let v = there vs i lt in (v.0, look_at ms vs name fs i is same some ∙ v.1)

pub set_none : (ms : List FrameMark) (vs : List Variable) (v : Variable) (fs : List Standing) → IsCut (back ms) (length vs) → frames ms vs ≡ fs → None ≡ found (length ms) (back ms) vs v.0 → fs ≡ set_on fs v
set_none ms vs v fs is same none = rw (sym same) (sym (set_is ms vs v is ∙ ap (λ r. frames ms (put_at vs r v)) (sym none)))

pub set_some : (ms : List FrameMark) (vs ws : List Variable) (v : Variable) (fs : List Standing) (i : ℕ) → IsCut (back ms) (length vs) → frames ms vs ≡ fs → Some i ≡ found (length ms) (back ms) vs v.0 → ws ≡ slice_set vs i v → frames ms ws ≡ set_on fs v
set_some ms vs ws v fs i is same some grew = rw (sym same) (ap (frames ms) grew ∙ sym (set_is ms vs v is ∙ ap (λ r. frames ms (put_at vs r v)) (sym some)))

pub set_cuts : (ms : List FrameMark) (vs ws : List Variable) (v : Variable) (i : ℕ) → IsCut (back ms) (length vs) → ws ≡ slice_set vs i v → IsCut (back ms) (length ws)
set_cuts ms vs ws v i is grew = rw (grew, length-put vs (Some i) v) is

value_here : (vs : List Variable) (i : ℕ) (x : Variable) → i < length vs → Some (get_or vs i x).1 ≡ option_map (λ v. v.1) (slice_get vs i)
value_here [] i x lt = absurd (omega (arith, lt))
value_here (v ∷ vs) zero x lt = refl
value_here (v ∷ vs) (suc i) x lt = value_here vs i x (omega (arith, lt))

pub look_here : (ms : List FrameMark) (vs ws : List Variable) (name : List ℕ) (fs : List Standing) (i : ℕ) (x : Variable) → IsCut (back ms) (length vs) → frames ms vs ≡ fs → Some i ≡ found (length ms) (back ms) vs name → i < length vs → ws ≡ vs
    → Some (get_or ws i x).1 ≡ look_in (seen fs) name
look_here ms vs ws name fs i x is same some lt e = rw e (value_here vs i x lt ∙ sym (look_at ms vs name fs i is same some))
