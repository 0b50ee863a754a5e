-- Attributes that stand in two texts are the same in both.
use Rattle.std.proofs.Common.{◌≡◌, ℕ, ◌+◌, ◌-◌, ◌≤◌, ◌<◌, Bool, true, false, not, ◌&&◌, List, refl, sym, ◌∙◌, ap, subst, arith, Option, Some, None}
use Rattle.std.specs.Prelude.{◌==◌, nat_lt}
use Rattle.std.proofs.lemmas.Bool.Decides.{nat_tests}
use Rattle.sw_text_scan.specs.Bytes.{sign, byte, is_letter}
use Rattle.sw_text_scan.specs.Runs.{begins_name}
use Rattle.sw_text_scan.proofs.Bounds.{if_true}
use Rattle.sw_text_scan.proofs.Progress.{either}
use Rattle.sw_selector.specs.Attributes.{word_end, prefix_end, operator_end, value_end, bracket_end, modifier_end, valued_end, operated_end, matched_end, named_end, attribute_end}
use Rattle.sw_text_locality.specs.Names.{white, name_end}
use Rattle.sw_selector.proofs.Lexical.{prefix_forward}
use Rattle.sw_text_locality.proofs.Lexical.{equal, split, name_forward, white_forward, name_further}
use Rattle.sw_text_locality.proofs.Kept.{Alike}
use Rattle.sw_selector.proofs.Local.{some_is, at, same, same_on, white_at, name_at, begins_at, named_at, prefix_at, prefix_stays, word_name}

-- the last byte of an attribute is its bracket
module _ (bs : List ℕ) where
  abbrev Shut : Option ℕ → Type 0
  Shut o = (j : ℕ) → o ≡ Some j → (byte bs (j - 1) == sign "]") ≡ true

  none_shut : Shut None
  none_shut j e = absurd (cc)

  shut_at : (p : ℕ) → (byte bs p == sign "]") ≡ true → Shut (Some (p + 1))
  shut_at p t j e = let here = some_is e in ap (λ (x : ℕ). byte bs x == sign "]") (let z : j - 1 ≡ p = omega (arith, here) in z) ∙ t

  bracket_shut : (p : ℕ) → Shut (bracket_end bs p)
  bracket_shut p = either Shut (byte bs p == sign "]") (Some (p + 1)) None (λ t. shut_at p t) (λ _. none_shut)

  modifier_shut : (p : ℕ) → Shut (modifier_end bs p)
  unfolding modifier_end
  modifier_shut p =
      either Shut (is_letter (byte bs p)) (bracket_end bs (white bs (p + 1))) (bracket_end bs p) (λ _. bracket_shut (white bs (p + 1))) (λ _. bracket_shut p)

  valued_shut : (o : Option ℕ) → Shut (valued_end bs o)
  valued_shut None = none_shut
  valued_shut (Some k) = modifier_shut (white bs k)

  operated_shut : (o : Option ℕ) → Shut (operated_end bs o)
  operated_shut None = none_shut
  operated_shut (Some k) = valued_shut (value_end bs (white bs k))

  matched_shut : (p : ℕ) → Shut (matched_end bs p)
  unfolding matched_end
  matched_shut p = either Shut (byte bs p == sign "]") (Some (p + 1)) _ (λ t. shut_at p t) (λ _. operated_shut (operator_end bs p))

  named_shut : (p : ℕ) → Shut (named_end bs p)
  named_shut p = either Shut (begins_name bs p) (matched_end bs (white bs (name_end bs p))) None (λ _. matched_shut (white bs (name_end bs p))) (λ _. none_shut)

  pub attribute_shut : (i j : ℕ) → attribute_end bs i ≡ Some j → (byte bs (j - 1) == sign "]") ≡ true
  unfolding attribute_end
  attribute_shut i j e = named_shut (prefix_end bs (white bs (i + 1))) j e

module _ (bs cs : List ℕ) (i d n : ℕ) (a : Alike bs cs i d n) where
  abbrev to : ℕ → ℕ
  to p = at bs cs i d n a p

  -- a name without a prefix in an attribute, whose last byte is its bracket
  module _ (p : ℕ) (l : i ≤ p) (here : prefix_end bs p ≡ p) (first : begins_name bs p ≡ true) (lt : name_end bs p < i + n) (free : (byte bs (name_end bs p) == sign "\\") ≡ false)
      (shut : (byte bs ((i + n) - 1) == sign "]") ≡ true) where
    abbrev w : ℕ
    w = name_end bs p

    up : p ≤ w
    up = name_forward bs p

    there : byte cs (to w) ≡ byte bs w
    there = let u = up in same bs cs i d n a w (omega (arith, u, l)) lt

    bar_shut : (b : ℕ) → (b == sign "|") ≡ true → (b == sign "]") ≡ true → ⊥
    bar_shut b e f = let x : b ≡ sign "|" = equal b (sign "|") e in let wrong : (sign "|" == sign "]") ≡ true = ap (λ (z : ℕ). z == sign "]") (sym x) ∙ f in absurd (cc)

    -- a bar isn't the last byte
    further : (byte bs w == sign "|") ≡ true → (s : Bool) → nat_lt (w + 1) (i + n) ≡ s → w + 1 < i + n
    further t true s = grind (arith, nat_tests)
    further t false s =
        let ge : i + n ≤ w + 1 = grind (arith, nat_tests) in
        let last : (i + n) - 1 ≡ w = omega (arith, ge, lt) in
        absurd (bar_shut (byte bs w) t (ap (λ (x : ℕ). byte bs x == sign "]") (sym last) ∙ shut))

    prefix_goes : ((byte bs w == sign "|") && not (byte bs (w + 1) == sign "=")) ≡ true → prefix_end bs p ≡ w + 1
    unfolding prefix_end
    prefix_goes f =
        let e = word_name bs p first in
        if_true ((byte bs (word_end bs p) == sign "|") && not (byte bs (word_end bs p + 1) == sign "=")) (word_end bs p + 1) p
        (ap (λ (x : ℕ). (byte bs x == sign "|") && not (byte bs (x + 1) == sign "=")) e ∙ f)
        ∙ ap (λ (x : ℕ). x + 1) e

    no_prefix : (s : Bool) → ((byte bs w == sign "|") && not (byte bs (w + 1) == sign "=")) ≡ s → s ≡ false
    no_prefix false s = refl
    no_prefix true s = let on = prefix_goes s in let u = up in absurd (omega (arith, on, here, u))

    left_no : (x y : Bool) → x ≡ false → (x && y) ≡ false
    left_no true y e = absurd (cc)
    left_no false y e = refl

    tests : (t : Bool) → (byte bs w == sign "|") ≡ t → ((byte cs (to w) == sign "|") && not (byte cs (to w + 1) == sign "=")) ≡ false
    tests false t = left_no (byte cs (to w) == sign "|") _ (ap (λ (b : ℕ). b == sign "|") there ∙ t)
    tests true t =
        let u = up in
        ap (λ (b : ℕ). (b == sign "|") && not (byte cs (to w + 1) == sign "=")) there
        ∙ ap (λ (b : ℕ). (byte bs w == sign "|") && not (b == sign "=")) (same_on bs cs i d n a w 1 (omega (arith, u, l)) (further t (nat_lt (w + 1) (i + n)) refl))
        ∙ no_prefix ((byte bs w == sign "|") && not (byte bs (w + 1) == sign "=")) refl

    stays : prefix_end cs (to p) ≡ to (prefix_end bs p)
    stays =
        prefix_stays cs (to p) (to w) (word_name cs (to p) (begins_at bs cs i d n a p l (omega (arith, lt)) first) ∙ name_at bs cs i d n a p l lt free)
        (tests (byte bs w == sign "|") refl) ∙ ap to (sym here)

  -- the prefix in an attribute, behind which a name stands
  name_prefix : (p : ℕ) → i ≤ p → begins_name bs (prefix_end bs p) ≡ true → name_end bs (prefix_end bs p) < i + n → (byte bs (name_end bs (prefix_end bs p)) == sign "\\") ≡ false
      → (byte bs ((i + n) - 1) == sign "]") ≡ true → prefix_end cs (to p) ≡ to (prefix_end bs p)
  name_prefix p l begins room slash shut = go (nat_lt p (prefix_end bs p)) refl
    where
      go : (t : Bool) → nat_lt p (prefix_end bs p) ≡ t → prefix_end cs (to p) ≡ to (prefix_end bs p)
      go true t =
          let on = name_further bs (prefix_end bs p) begins in
          prefix_at bs cs i d n a p l (grind (arith, nat_tests)) (omega (arith, on, room))
      go false t =
          let fw = prefix_forward bs p in
          let le : prefix_end bs p ≤ p = grind (arith, nat_tests) in
          let here : prefix_end bs p ≡ p = omega (arith, fw, le) in
          stays p l here (ap (begins_name bs) (sym here) ∙ begins) (subst (λ (x : ℕ). name_end bs x < i + n) here room)
          (ap (λ (x : ℕ). byte bs (name_end bs x) == sign "\\") (sym here) ∙ slash) shut

  abbrev p1 : ℕ
  p1 = white bs (i + 1)

  abbrev p2 : ℕ
  p2 = prefix_end bs p1

  attribute_named : begins_name bs p2 ≡ true → matched_end bs (white bs (name_end bs p2)) ≡ Some (i + n) → (byte bs ((i + n) - 1) == sign "]") ≡ true
      → named_end cs (prefix_end cs (white cs (d + 1))) ≡ Some (d + n)
  attribute_named t f shut =
      let first = white_forward bs (i + 1) in
      let second = prefix_forward bs p1 in
      let third = name_forward bs p2 in
      let rest = named_at bs cs i d n a p2 (i + n) t f (omega (arith, first, second)) (omega arith) in
      let room = rest.1.0 in
      ap (λ (x : ℕ). named_end cs (prefix_end cs (white cs x))) (let z : d + 1 ≡ to (i + 1) = omega arith in z)
      ∙ ap (λ (x : ℕ). named_end cs (prefix_end cs x)) (white_at bs cs i d n a (i + 1) (omega arith) (omega (arith, first, second, third, room)))
      ∙ ap (named_end cs) (name_prefix p1 (omega (arith, first)) t room rest.1.1 shut)
      ∙ rest.0 ∙ ap Some (let z : to (i + n) ≡ d + n = omega arith in z)

  pub attribute_again : attribute_end bs i ≡ Some (i + n) → attribute_end cs d ≡ Some (d + n)
  unfolding attribute_end
  attribute_again e =
      split (begins_name bs p2) (matched_end bs (white bs (name_end bs p2))) None (Some (i + n))
      (λ t f. attribute_named t f (attribute_shut bs i (i + n) e)) (λ t f. absurd (cc)) e
