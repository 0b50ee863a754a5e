-- One more of those that are attached hears a reply.
use Rattle.std.proofs.Common.{◌≡◌, ◌≢◌, ℕ, ◌+◌, ◌≤◌, ◌<◌, ◌⊎◌, inl, inr, List, [], ◌++◌, length, take, drop, get_or, refl, sym, ◌∙◌, ap, subst, arith, Option, None, Some}
use Rattle.std.specs.Prelude.{slice_get, slice_set, map, option_map}
use Rattle.std.proofs.lemmas.Option.{slice_get-get_or, slice_get_within, get_or_from_slice_get, slice_get-map}
use Rattle.std.proofs.lemmas.List.{length-map, append-nil, drop_all, take_all, get_or-set_same, get_or-set_other, length-set, get_or-drop, drop-set-lt}
use Rattle.std.proofs.lemmas.Grind.{drop_more_same}
use Rattle.sw_hub.specs.Hubs.{Each}

-- those before a place are done, and the others as they were
pub record Going {A : Type 0} (before now : List A) (i : ℕ) (is : A → A → Type 0) : Type 0 where
  pub count : length now ≡ length before
  pub each : (k : ℕ) (old new : A) → k < i → slice_get before k ≡ Some old → slice_get now k ≡ Some new → is old new
  pub rest : drop i now ≡ drop i before

pub going_start : {A : Type 0} (xs : List A) (is : A → A → Type 0) → Going xs xs 0 is
going_start xs is = record { count = refl; each = λ k old new lt. absurd (omega (arith, lt)); rest = refl }

pub going_on : {A : Type 0} (before now : List A) (i : ℕ) (is : A → A → Type 0) (d y : A) → i < length before → Going before now i is → is (get_or now i d) y
    → Going before (slice_set now i y) (i + 1) is
going_on {A} before now i is d y lt g one = record {
  count = length-set now i y ∙ g.count;
  each = λ k old new less eo en. go k old new (below k less) eo en;
  rest = drop-set-lt (i + 1) now i y (omega arith) ∙ drop_more_same now before i g.rest;
}
  where
    below : (k : ℕ) → k < i + 1 → (k < i) ⊎ (k ≡ i)
    below k less = grind arith

    here : (k : ℕ) → get_or now k d ≡ get_or (drop k now) 0 d
    here k = sym (get_or-drop k now 0 d ∙ ap (λ (n : ℕ). get_or now n d) (let p : k + 0 ≡ k = omega arith in p))

    there : (k : ℕ) → get_or (drop k before) 0 d ≡ get_or before k d
    there k = get_or-drop k before 0 d ∙ ap (λ (n : ℕ). get_or before n d) (let p : k + 0 ≡ k = omega arith in p)

    same : get_or now i d ≡ get_or before i d
    same = here i ∙ ap (λ (xs : List A). get_or xs 0 d) g.rest ∙ there i

    go : (k : ℕ) (old new : A) → (k < i) ⊎ (k ≡ i) → slice_get before k ≡ Some old → slice_get (slice_set now i y) k ≡ Some new → is old new
    go k old new (inl less) eo en =
        let inside = slice_get_within (slice_set now i y) k new en in
        let size = length-set now i y in
        let apart : k ≢ i = λ e. absurd (omega (arith, less, e)) in
        g.each k old new less eo
        (slice_get-get_or now k new (omega (arith, inside, size))
        ∙ ap (λ (x : A). Some x) (sym (get_or-set_other now i k y new apart) ∙ get_or_from_slice_get (slice_set now i y) k new new en))
    go k old new (inr at) eo en =
        let first : get_or now i d ≡ old = same ∙ ap (λ (n : ℕ). get_or before n d) (sym at) ∙ get_or_from_slice_get before k old d eo in
        let size = g.count in
        let second : y ≡ new =
        sym (get_or-set_same now i y d (omega (arith, lt, size))) ∙ ap (λ (n : ℕ). get_or (slice_set now i y) n d) (sym at)
        ∙ get_or_from_slice_get (slice_set now i y) k new d en in
        subst (λ (x : A). is x new) first (subst (λ (x : A). is (get_or now i d) x) second one)

pub going_done : {A : Type 0} (before now : List A) (i : ℕ) (is : A → A → Type 0) → length before ≤ i → Going before now i is → Each before now is
going_done before now i is end g = record {
  count = g.count;
  each = λ k old new eo en. let inside = slice_get_within before k old eo in g.each k old new (omega (arith, inside, end)) eo en;
}

-- a fact of each, seen through a function
module _ {A B : Type 0} (f : A → B) (is : B → B → Type 0) (before now : List A) (e : Each before now (λ x y. is (f x) (f y))) where
  each_by : (k : ℕ) (old new : B) (a b : Option A) → slice_get before k ≡ a → slice_get now k ≡ b → option_map f a ≡ Some old → option_map f b ≡ Some new → is old new
  each_by k old new None b x y u v = cc
  each_by k old new (Some p) None x y u v = cc
  each_by k old new (Some p) (Some q) x y u v =
      let first : f p ≡ old = cc in
      let second : f q ≡ new = cc in
      subst (λ (z : B). is z new) first (subst (λ (z : B). is (f p) z) second (e.each k p q x y))

  pub each_map : Each (map f before) (map f now) is
  each_map = record {
    count = length-map now f ∙ e.count ∙ sym (length-map before f);
    each = λ k old new x y.
        each_by k old new (slice_get before k) (slice_get now k) refl refl (sym (slice_get-map f before k) ∙ x) (sym (slice_get-map f now k) ∙ y);
  }

-- what was lent by a vector stands in it again
pub each_back : {A B : Type 0} (f : A → B) (is : B → B → Type 0) (held before now : List A) (len : ℕ) → before ≡ held → length before ≡ len → Each (map f before) (map f now) is
    → Each (map f held) (map f (take len (now ++ drop (length now) held))) is
each_back {A} {B} f is held before now len e l x =
    let same : length now ≡ length before = sym (length-map now f) ∙ x.count ∙ length-map before f in
    let of_held : length before ≡ length held = ap length e in
    let rest : drop (length now) held ≡ [] = drop_all (length now) held (omega (arith, same, of_held)) in
    let whole : take len (now ++ drop (length now) held) ≡ now =
    ap (λ t. take len (now ++ t)) rest ∙ ap (take len) (append-nil now) ∙ take_all len now (omega (arith, same, l)) in
    subst (λ (t : List A). Each (map f held) (map f t) is) (sym whole) (subst (λ (t : List A). Each (map f t) (map f now) is) e x)
