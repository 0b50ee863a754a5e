-- Indexes of names.
use Rattle.std.proofs.Common.{◌≡◌, ℕ, zero, suc, ◌+◌, ◌-◌, ◌<◌, ◌≤◌, ◌==◌, Bool, true, false, cond, List, [], ◌∷◌, ◌++◌, length, take, drop, get_or, map, Option, Some, None, slice_get, slice_set, bytes_eq, refl, sym, ◌∙◌, ap, subst, length-append, arith}
use Rattle.std.proofs.lemmas.Slice.Eq.{bytes_eq-Decides}
use Rattle.std.proofs.Math.Seq.{take-length, take-append_seam}
use Rattle.std.proofs.lemmas.List.{take-set-le, get_or-set_same, length-set, take_more, length-take-le, take-take, drop-take, take-append-le}
use Rattle.sw_scope.specs.declared.mark.FrameMark.{FrameMark}
use Rattle.sw_scope.specs.Frames.{Variable, later, place}
use Rattle.sw_scope.specs.Cut.{back, cut, frames, IsCut, found, shifted}
use Rattle.sw_scope.specs.Index.{IsNoted, IsIndex, IsIndexed, AreIndexed, head_index, head_with}
use Rattle.std.specs.Prelude.{IfSome}
use Rattle.std.proofs.lemmas.List.{length-drop}
use Rattle.std.specs.Option.{is_some}
use Rattle.sw_scope.proofs.Jumps.{none, read}
use Rattle.sw_scope.proofs.Cuts.{back-push, back-take, found-start, slice_get-take, slice_get-drop, Below, place-below}

-- ---- one more name

place-more : (vs : List Variable) (v : Variable) (q : List ℕ) → place (vs ++ v ∷ []) q ≡ cond (bytes_eq v.0 q) (Some (length vs)) (place vs q)
place-more [] v q = by (bytes_eq v.0 q)
  where
    by : (b : Bool) → later None b ≡ cond b (Some 0) None
    by true = refl
    by false = refl
place-more (x ∷ vs) v q = ap (λ o. later o (bytes_eq x.0 q)) (place-more vs v q) ∙ by (bytes_eq v.0 q)
  where
    by : (b : Bool) → later (cond b (Some (length vs)) (place vs q)) (bytes_eq x.0 q) ≡ cond b (Some (suc (length vs))) (later (place vs q) (bytes_eq x.0 q))
    by true = refl
    by false = refl

pub noted : (before after : List (List ℕ × ℕ)) (vs : List Variable) (i : ℕ) (v : Variable) → i < length vs → IsIndex before (take i vs) → IsNoted before (get_or vs i v).0 i after → IsIndex after (take (i + 1) vs)
noted before after vs i v lt is notes q =
    let count : length (take i vs) ≡ i = length-take-le i vs (omega arith) in
    notes q ∙ ap (λ o. cond (bytes_eq (get_or vs i v).0 q) (Some i) o) (is q) ∙ ap (λ n. cond (bytes_eq (get_or vs i v).0 q) (Some n) (place (take i vs) q)) (sym count)
    ∙ sym (ap (λ l. place l q) (take_more vs i v lt) ∙ place-more (take i vs) (get_or vs i v) q)

-- ---- the innermost frame

pub back_is : (ms : List FrameMark) (m : FrameMark) (ns : List FrameMark) → ms ≡ ns ++ m ∷ [] → back ms ≡ m ∷ back ns
back_is ms m ns e = ap back e ∙ back-push ns m

cut_with : (index : Option (List (List ℕ × ℕ))) (ms : List FrameMark) (vs : List Variable) → cut (head_with index ms) vs ≡ cut ms vs
cut_with index [] vs = refl
cut_with index (m ∷ ms) vs = refl

pub frames_with : (index : Option (List (List ℕ × ℕ))) (ms ns : List FrameMark) (vs : List Variable) → back ns ≡ head_with index (back ms) → frames ns vs ≡ frames ms vs
unfolding frames
frames_with index ms ns vs e = ap (λ l. cut l vs) e ∙ cut_with index (back ms) vs

is_cut_with : (index : Option (List (List ℕ × ℕ))) (ms : List FrameMark) (n : ℕ) → IsCut ms n → IsCut (head_with index ms) n
is_cut_with index [] n is = is
is_cut_with index (m ∷ ms) n is = is

pub cuts_with : (index : Option (List (List ℕ × ℕ))) (ms ns : List FrameMark) (n : ℕ) → back ns ≡ head_with index (back ms) → IsCut (back ms) n → IsCut (back ns) n
cuts_with index ms ns n e is = rw e (is_cut_with index (back ms) n is)

-- ---- one more variable of the innermost frame

pub pushed : (ms : List FrameMark) (vs : List Variable) (v : Variable) → head_index ms ≡ None → IsCut ms (length vs) → AreIndexed ms vs → AreIndexed ms (vs ++ v ∷ [])
pushed [] vs v none is indexed = tt
pushed (m ∷ ms) vs v none is indexed = (rw none tt, rw (take-append-le m.start vs (v ∷ []) is.0) indexed.1)

-- ---- names alone tell the places

abbrev pub named : List Variable → List (List ℕ)
named vs = map (λ (v : Variable). v.0) vs

abbrev pub place_by : List (List ℕ) → List ℕ → Option ℕ
place_by [] q = None
place_by (n ∷ ns) q = later (place_by ns q) (bytes_eq n q)

place_named : (vs : List Variable) (q : List ℕ) → place vs q ≡ place_by (named vs) q
place_named [] q = refl
place_named (v ∷ vs) q = ap (λ o. later o (bytes_eq v.0 q)) (place_named vs q)

place_same : (vs ws : List Variable) (q : List ℕ) → named vs ≡ named ws → place vs q ≡ place ws q
place_same vs ws q e = place_named vs q ∙ ap (λ ns. place_by ns q) e ∙ sym (place_named ws q)

named-take : (n : ℕ) (vs : List Variable) → named (take n vs) ≡ take n (named vs)
named-take zero [] = refl
named-take (suc n) [] = refl
named-take zero (v ∷ vs) = refl
named-take (suc n) (v ∷ vs) = ap (λ l. v.0 ∷ l) (named-take n vs)

named-drop : (n : ℕ) (vs : List Variable) → named (drop n vs) ≡ drop n (named vs)
named-drop zero [] = refl
named-drop (suc n) [] = refl
named-drop zero (v ∷ vs) = refl
named-drop (suc n) (v ∷ vs) = named-drop n vs

indexed_same : (index : Option (List (List ℕ × ℕ))) (vs ws : List Variable) → named vs ≡ named ws → IsIndexed index vs → IsIndexed index ws
indexed_same None vs ws e is = tt
indexed_same (Some index) vs ws e is = λ q. is q ∙ place_same vs ws q e

pub are_indexed_same : (ms : List FrameMark) (vs ws : List Variable) → named vs ≡ named ws → AreIndexed ms vs → AreIndexed ms ws
are_indexed_same [] vs ws e is = tt
are_indexed_same (m ∷ ms) vs ws e is = (
  indexed_same m.index (drop m.start vs) (drop m.start ws) (named-drop m.start vs ∙ ap (drop m.start) e ∙ sym (named-drop m.start ws)) is.0,
  are_indexed_same ms (take m.start vs) (take m.start ws) (named-take m.start vs ∙ ap (take m.start) e ∙ sym (named-take m.start ws)) is.1,
)

-- ---- places within a frame

pub in_frame : (o : Option ℕ) (vs : List Variable) (start end : ℕ) (q : List ℕ) → start ≤ end → end ≤ length vs → o ≡ place (drop start (take end vs)) q → IfSome o (λ i. start + i < end)
in_frame o vs start end q le within e = by o (rw e (place-below (drop start (take end vs)) q))
  where
    count : length (drop start (take end vs)) ≡ end - start
    count = length-drop start (take end vs) ∙ ap (λ n. n - start) (length-take-le end vs within)

    by : (p : Option ℕ) → Below p (length (drop start (take end vs))) → IfSome p (λ i. start + i < end)
    by None b = tt
    by (Some i) b = omega (arith, b, count, le)

-- ---- the innermost frame

-- the last mark, and those before it
pub opened : (ms : List FrameMark) (i : ℕ) (d : FrameMark) → 0 < length ms → i ≡ length ms - 1 → back ms ≡ get_or ms i d ∷ back (take i ms)
opened ms i d some e =
    let all : suc i ≡ length ms = omega (arith, e) in
    sym (ap back (ap (λ n. take n ms) all ∙ take-length ms)) ∙ back-take ms i d (omega (arith, e))

pub replaced : (ms ns : List FrameMark) (i : ℕ) (index : Option (List (List ℕ × ℕ))) (m d : FrameMark) → 0 < length ms → i ≡ length ms - 1 → m ≡ record (get_or ms i d) { index = index } → ns ≡ slice_set ms i m
    → back ns ≡ head_with index (back ms)
replaced ms ns i index m d some e is set =
    let count : length (slice_set ms i m) ≡ length ms = length-set ms i m in
    let there : get_or (slice_set ms i m) i d ≡ m = get_or-set_same ms i m d (omega (arith, e)) in
    ap back set ∙ opened (slice_set ms i m) i d (omega (arith, count)) (e ∙ ap (λ n. n - 1) (sym count)) ∙ ap (λ x. x ∷ back (take i (slice_set ms i m))) (there ∙ is)
    ∙ ap (λ l. record (get_or ms i d) { index = index } ∷ back l) (take-set-le i ms i m (omega arith)) ∙ sym (ap (head_with index) (opened ms i d some e))

pub first_index : (ms : List FrameMark) (i : ℕ) (d : FrameMark) → 0 < length ms → i ≡ length ms - 1 → (get_or ms i d).index ≡ head_index (back ms)
first_index ms i d some e = sym (ap head_index (opened ms i d some e))

pub rebuilt : (ms : List FrameMark) (i : ℕ) (a b c m d : FrameMark) (index : Option (List (List ℕ × ℕ))) → i < length ms → a ≡ get_or ms i a → b ≡ get_or ms i b → c ≡ get_or ms i c
    → m ≡ record { kind = a.kind; below = b.below; start = c.start; index = index } → m ≡ record (get_or ms i d) { index = index }
rebuilt ms i a b c m d index lt ea eb ec e =
    let fa : a ≡ get_or ms i d = ea ∙ read ms i a d lt in
    let fb : b ≡ get_or ms i d = eb ∙ read ms i b d lt in
    let fc : c ≡ get_or ms i d = ec ∙ read ms i c d lt in
    e ∙ ap (λ k. record { kind = k; below = b.below; start = c.start; index = index }) (ap (λ x. x.kind) fa)
    ∙ ap (λ k. record { kind = (get_or ms i d).kind; below = k; start = c.start; index = index }) (ap (λ x. x.below) fb)
    ∙ ap (λ k. record { kind = (get_or ms i d).kind; below = (get_or ms i d).below; start = k; index = index }) (ap (λ x. x.start) fc)

pub none_of : {A : Type 0} (o : Option A) → is_some o ≡ false → o ≡ None
none_of None e = refl
none_of (Some x) e = absurd cc

-- the innermost frame, which starts here and has one more variable than its index knows
pub record IsOpened (ms : List FrameMark) (vs : List Variable) (start : ℕ) : Type 0 where
  pub mark : FrameMark
  pub rest : List FrameMark
  pub is : back ms ≡ mark ∷ rest
  pub start_is : start ≡ mark.start
  pub within : mark.start ≤ length vs - 1
  pub indexed : AreIndexed (mark ∷ rest) (take (length vs - 1) vs)

pub open_innermost : (ms ns : List FrameMark) (vs : List Variable) (count start : ℕ) → ns ≡ ms → count ≡ length ms → (count ≡ 0 → ⊥) → ((d : FrameMark) → start ≡ (get_or ns (count - 1) d).start)
    → IsCut (back ms) (length vs - 1) → AreIndexed (back ms) (take (length vs - 1) vs) → IsOpened ms vs start
open_innermost ms ns vs count start same e some starts is indexed =
    let lt : 0 < length ms = omega (arith, e, some) in
    let open_is : back ms ≡ get_or ms (count - 1) none ∷ back (take (count - 1) ms) = opened ms (count - 1) none lt (omega (arith, e)) in
    let cut : IsCut (get_or ms (count - 1) none ∷ back (take (count - 1) ms)) (length vs - 1) = subst (λ (l : List FrameMark). IsCut l (length vs - 1)) open_is is in
    record {
      mark = get_or ms (count - 1) none;
      rest = back (take (count - 1) ms);
      is = open_is;
      start_is = starts none ∙ ap (λ l. (get_or l (count - 1) none).start) same;
      within = cut.0;
      indexed = subst (λ (l : List FrameMark). AreIndexed l (take (length vs - 1) vs)) open_is indexed;
    }

pub has_one : (vs : List Variable) (start : ℕ) → 0 < length vs → start ≤ length vs - 1 → 0 < length (drop start vs)
has_one vs start some le = omega (arith, length-drop start vs)

pub frame_less : (m : FrameMark) (ms : List FrameMark) (vs : List Variable) → 0 < length vs → m.start ≤ length vs - 1 → AreIndexed (m ∷ ms) (take (length vs - 1) vs)
    → IsIndexed m.index (take (length (drop m.start vs) - 1) (drop m.start vs))
frame_less m ms vs some le is =
    let k : ℕ = (length vs - 1) - m.start in
    let whole : length vs - 1 ≡ m.start + k = omega (arith, le) in
    let count : k ≡ length (drop m.start vs) - 1 = omega (arith, length-drop m.start vs) in
    subst (λ (ws : List Variable). IsIndexed m.index ws) (ap (λ n. drop m.start (take n vs)) whole ∙ drop-take m.start k vs ∙ ap (λ n. take n (drop m.start vs)) count) is.0

pub frame_more : (m : FrameMark) (ms : List FrameMark) (vs : List Variable) (index : Option (List (List ℕ × ℕ))) → m.start ≤ length vs - 1 → IsIndexed index (drop m.start vs) → AreIndexed (m ∷ ms) (take (length vs - 1) vs)
    → AreIndexed (head_with index (head_with None (m ∷ ms))) vs
frame_more m ms vs index le new is = (new, subst (λ (ws : List Variable). AreIndexed ms ws) (take-take m.start (length vs - 1) vs le) is.1)

pub all_but_last : (vs ws : List Variable) (v : Variable) → ws ≡ vs ++ v ∷ [] → take (length ws - 1) ws ≡ vs
all_but_last vs ws v e =
    let count : length ws - 1 ≡ length vs = ap (λ l. length l - 1) e ∙ omega (arith, length-append vs (v ∷ [])) in
    ap (λ n. take n ws) count ∙ ap (take (length vs)) e ∙ take-append_seam vs (v ∷ [])

-- ---- a frame more or less

pub put_indexed : (ms ns : List FrameMark) (m : FrameMark) (vs : List Variable) → m.index ≡ None → m.start ≡ length vs → AreIndexed (back ms) vs → ns ≡ ms ++ m ∷ [] → AreIndexed (back ns) vs
put_indexed ms ns m vs none start is grew =
    rw (grew, back-push ms m) (subst (λ (o : Option (List (List ℕ × ℕ))). IsIndexed o (drop m.start vs)) (sym none) tt, rw (start, take-length vs) is)

pub same_indexed : (ms ns : List FrameMark) (vs : List Variable) → AreIndexed (back ms) vs → ns ≡ ms → AreIndexed (back ns) vs
same_indexed ms ns vs is same = rw same is

pub pop_indexed : (ms ns : List FrameMark) (m : FrameMark) (vs ws : List Variable) → AreIndexed (back ms) vs → ms ≡ ns ++ m ∷ [] → ws ≡ take m.start vs → AreIndexed (back ns) ws
pop_indexed ms ns m vs ws is was cut_off =
    let opened : AreIndexed (m ∷ back ns) vs = subst (λ (l : List FrameMark). AreIndexed l vs) (ap back was ∙ back-push ns m) is in
    rw cut_off opened.1

-- ---- the name of what is found

abbrev pub Named : List Variable → Option ℕ → List ℕ → Type 0
Named vs None q = Unit {0}
Named vs (Some i) q = (v : Variable) × (slice_get vs i ≡ Some v) × (v.0 ≡ q)

place_is : (vs : List Variable) (q : List ℕ) → Named vs (place vs q) q
place_is [] q = tt
place_is (x ∷ vs) q = step (place vs q) (bytes_eq x.0 q) refl (place_is vs q)
  where
    step : (o : Option ℕ) (b : Bool) → bytes_eq x.0 q ≡ b → Named vs o q → Named (x ∷ vs) (later o b) q
    step (Some i) b e n = n
    step None true e n = (x, refl, (bytes_eq-Decides x.0 q).0 e)
    step None false e n = tt

pub found_is : (n : ℕ) (ms : List FrameMark) (vs : List Variable) (q : List ℕ) → IsCut ms (length vs) → Named vs (found n ms vs q) q
found_is n [] vs q is = tt
found_is n (m ∷ ms) vs q is =
    let lower : (k : ℕ) → Named vs (found k ms (take m.start vs) q) q =
    λ k. up _ (found-start k m ms vs q is) (found_is k ms (take m.start vs) q (subst (λ (c : ℕ). IsCut ms c) (sym (length-take-le m.start vs is.0)) is.2)) in
    either (n == suc (length ms)) _ _ (first (place (drop m.start vs) q) (found m.below ms (take m.start vs) q) (place_is (drop m.start vs) q) (lower m.below)) (lower n)
  where
    up : (o : Option ℕ) → Below o m.start → Named (take m.start vs) o q → Named vs o q
    up None b x = tt
    up (Some i) b x = (x.0, sym (slice_get-take m.start i vs b) ∙ x.1, x.2)

    first : (o p : Option ℕ) → Named (drop m.start vs) o q → Named vs p q → Named vs (shifted m.start o p) q
    first None p x y = y
    first (Some i) p x y = (x.0, sym (slice_get-drop m.start i vs) ∙ x.1, x.2)

    either : (b : Bool) (o p : Option ℕ) → Named vs o q → Named vs p q → Named vs (cond b o p) q
    either true o p x y = x
    either false o p x y = y

named_set : (vs : List Variable) (i : ℕ) (v w : Variable) → slice_get vs i ≡ Some w → w.0 ≡ v.0 → named vs ≡ named (slice_set vs i v)
named_set [] i v w e same = refl
named_set (x ∷ vs) zero v w e same = let is : x ≡ w = cc in ap (λ n. n ∷ named vs) (ap (λ y. y.0) is ∙ same)
named_set (x ∷ vs) (suc i) v w e same = ap (λ l. x.0 ∷ l) (named_set vs i v w e same)

pub set_indexed : (ms : List FrameMark) (vs ws : List Variable) (v : Variable) (i : ℕ) → IsCut (back ms) (length vs) → AreIndexed (back ms) vs → Some i ≡ found (length ms) (back ms) vs v.0 → ws ≡ slice_set vs i v → AreIndexed (back ms) ws
set_indexed ms vs ws v i is indexed there set =
    let here : Named vs (Some i) v.0 = subst (λ (o : Option ℕ). Named vs o v.0) (sym there) (found_is (length ms) (back ms) vs v.0 is) in
    are_indexed_same (back ms) vs ws (named_set vs i v here.0 here.1 here.2 ∙ ap named (sym set)) indexed

-- ---- the frames before the last variable

pub grown_cut : (ms : List FrameMark) (vs ws : List Variable) (v : Variable) → IsCut (back ms) (length vs) → ws ≡ vs ++ v ∷ [] → IsCut (back ms) (length ws - 1)
grown_cut ms vs ws v is grew =
    let count : length vs ≡ length ws - 1 = sym (ap (λ l. length l - 1) grew ∙ omega (arith, length-append vs (v ∷ []))) in
    subst (λ (n : ℕ). IsCut (back ms) n) count is

pub grown_indexed : (ms : List FrameMark) (vs ws : List Variable) (v : Variable) → AreIndexed (back ms) vs → ws ≡ vs ++ v ∷ [] → AreIndexed (back ms) (take (length ws - 1) ws)
grown_indexed ms vs ws v is grew = rw (all_but_last vs ws v grew) is
