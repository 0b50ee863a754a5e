-- What is left of an argument without the white space around it.
use Rattle.std.proofs.Common.{◌≡◌, ℕ, zero, suc, ◌+◌, ◌-◌, ◌≤◌, ◌<◌, Bool, true, false, ◌&&◌, List, refl, sym, ◌∙◌, ap, arith}
use Rattle.std.specs.Prelude.{◌==◌, nat_lt, if◌then◌else◌}
use Rattle.std.proofs.lemmas.Bool.Decides.{nat_tests}
use Rattle.sw_text_scan.specs.Bytes.{sign, byte, is_white}
use Rattle.sw_text_scan.specs.Pieces.{trimmed_from, trimmed_end}
use Rattle.sw_text_scan.proofs.Bounds.{if_true, if_false, and_left, and_right}
use Rattle.sw_text_scan.proofs.PieceLemmas.{trimmed_more, trimmed_stop}
use Rattle.sw_text_scan.proofs.Progress.{either}
use Rattle.sw_selector.specs.Simples.{argument_end}
use Rattle.sw_text_locality.proofs.Kept.{Alike}
use Rattle.sw_selector.proofs.Local.{white_slash}
use Rattle.sw_selector.proofs.Raw.{Trimmed}

slash_not_white : (b : ℕ) → (b == sign "\\") ≡ true → is_white b ≡ false
slash_not_white b e = grind (arith, nat_tests)

-- a text of n bytes from i on without the white space behind it ends at e
record Left (bs : List ℕ) (i n e : ℕ) : Type 0 where
  from : i ≤ e
  within : e ≤ i + n
  white : (x : ℕ) → e ≤ x → x < i + n → is_white (byte bs x) ≡ true
  last : i < e → is_white (byte bs (e - 1)) ≡ false

left_from : (bs : List ℕ) (i n : ℕ) → Left bs i n (trimmed_from bs i n)
left_from bs i zero = record { from = omega arith; within = omega arith; white = λ x l r. absurd (omega (arith, l, r)); last = λ lt. absurd (omega (arith, lt)) }
left_from bs i (suc n) =
    either (Left bs i (suc n)) (is_white (byte bs (i + n))) (trimmed_from bs i n) (i + suc n) (λ t. more t (left_from bs i n))
    (λ t. record {
      from = omega arith;
      within = omega arith;
      white = λ x l r. absurd (omega (arith, l, r));
      last = λ lt. ap (λ (x : ℕ). is_white (byte bs x)) (let z : (i + suc n) - 1 ≡ i + n = omega arith in z) ∙ t;
    })
  where
    more : is_white (byte bs (i + n)) ≡ true → Left bs i n (trimmed_from bs i n) → Left bs i (suc n) (trimmed_from bs i n)
    more t h = record {
      from = h.from;
      within = let w = h.within in omega (arith, w);
      white = λ x l r. one x l r (nat_lt x (i + n)) refl;
      last = h.last;
    }
      where
        one : (x : ℕ) → trimmed_from bs i n ≤ x → x < i + suc n → (b : Bool) → nat_lt x (i + n) ≡ b → is_white (byte bs x) ≡ true
        one x l r true b = h.white x l (grind (arith, nat_tests))
        one x l r false b = let ge : i + n ≤ x = grind (arith, nat_tests) in ap (λ (y : ℕ). is_white (byte bs y)) (let z : x ≡ i + n = omega (arith, ge, r) in z) ∙ t

module _ (bs : List ℕ) (i k : ℕ) (lt : i < k) (begins : is_white (byte bs i) ≡ false) where
  left : Left bs i (k - i) (trimmed_end bs i k)
  unfolding trimmed_end
  left = left_from bs i (k - i)

  some : i < trimmed_end bs i k
  some = go (nat_lt i (trimmed_end bs i k)) refl
    where
      go : (b : Bool) → nat_lt i (trimmed_end bs i k) ≡ b → i < trimmed_end bs i k
      go true b = grind (arith, nat_tests)
      go false b =
          let ge : trimmed_end bs i k ≤ i = grind (arith, nat_tests) in
          let wrong : true ≡ false = sym (left.white i ge (omega (arith, lt))) ∙ begins in cc

  white_left : (x : ℕ) → trimmed_end bs i k ≤ x → x < k → is_white (byte bs x) ≡ true
  white_left x l r = left.white x l (omega (arith, lt, r))

  pub trimmed : Trimmed bs i (argument_end bs i k) k
  unfolding argument_end
  trimmed =
      either (λ (e : ℕ). Trimmed bs i e k) ((byte bs (trimmed_end bs i k - 1) == sign "\\") && nat_lt (trimmed_end bs i k) k) (trimmed_end bs i k + 1) (trimmed_end bs i k)
      (λ t. more (and_left (byte bs (trimmed_end bs i k - 1) == sign "\\") _ t) (let b = and_right (byte bs (trimmed_end bs i k - 1) == sign "\\") _ t in grind (arith, nat_tests)))
      (λ t. plain t)
    where
      more : (byte bs (trimmed_end bs i k - 1) == sign "\\") ≡ true → trimmed_end bs i k < k → Trimmed bs i (trimmed_end bs i k + 1) k
      more s out = record {
        some = let x = some in omega (arith, x);
        within = omega (arith, out);
        white = λ x l r. white_left x (omega (arith, l)) r;
        slash = λ f. absurd (no f);
        kept = λ _. (let x = some in omega (arith, x), ap (λ (y : ℕ). byte bs y == sign "\\") (let z : (trimmed_end bs i k + 1) - 2 ≡ trimmed_end bs i k - 1 = omega arith in z) ∙ s);
      }
        where
          no : (byte bs ((trimmed_end bs i k + 1) - 1) == sign "\\") ≡ true → ⊥
          no f =
              let here : (trimmed_end bs i k + 1) - 1 ≡ trimmed_end bs i k = omega arith in
              let w = white_left (trimmed_end bs i k) (omega arith) out in
              let wrong : true ≡ false = sym f ∙ ap (λ (y : ℕ). byte bs y == sign "\\") here ∙ white_slash (byte bs (trimmed_end bs i k)) w in cc

      plain : ((byte bs (trimmed_end bs i k - 1) == sign "\\") && nat_lt (trimmed_end bs i k) k) ≡ false → Trimmed bs i (trimmed_end bs i k) k
      plain t = record {
        some = some;
        within = bound;
        white = white_left;
        slash = λ f. whole f (nat_lt (trimmed_end bs i k) k) refl;
        kept = λ w. absurd (let wrong : true ≡ false = sym w ∙ left.last some in cc);
      }
        where
          bound : trimmed_end bs i k ≤ k
          bound = let w = left.within in omega (arith, w, lt)

          whole : (byte bs (trimmed_end bs i k - 1) == sign "\\") ≡ true → (b : Bool) → nat_lt (trimmed_end bs i k) k ≡ b → trimmed_end bs i k ≡ k
          whole f true b = absurd (let wrong : true ≡ false = sym (both (byte bs (trimmed_end bs i k - 1) == sign "\\") (nat_lt (trimmed_end bs i k) k) f b) ∙ t in cc)
            where
              both : (x y : Bool) → x ≡ true → y ≡ true → (x && y) ≡ true
              both true y e f = f
              both false y e f = absurd (cc)
          whole f false b = let w = bound in let ge : k ≤ trimmed_end bs i k = grind (arith, nat_tests) in omega (arith, w, ge)

-- in the other text nothing is left out
pub end_again : (bs cs : List ℕ) (i d n k : ℕ) → Alike bs cs i d n → Trimmed bs i (i + n) k → argument_end cs d (d + n) ≡ d + n
unfolding argument_end trimmed_end
end_again bs cs i d n k a t = go (is_white (byte cs ((d + n) - 1))) refl
  where
    some : 0 < n
    some = let s = t.some in omega (arith, s)

    last : byte bs ((i + n) - 1) ≡ byte cs ((d + n) - 1)
    last =
        let s = some in
        ap (byte bs) (let z : (i + n) - 1 ≡ i + (n - 1) = omega (arith, s) in z) ∙ a (n - 1) (omega (arith, s)) ∙ ap (byte cs) (let z : d + (n - 1) ≡ (d + n) - 1 = omega (arith, s) in z)

    choice : (e : ℕ) → trimmed_from cs d ((d + n) - d) ≡ e
        → (if (byte cs (trimmed_from cs d ((d + n) - d) - 1) == sign "\\") && nat_lt (trimmed_from cs d ((d + n) - d)) (d + n) then trimmed_from cs d ((d + n) - d) + 1 else trimmed_from cs d ((d + n) - d))
        ≡ (if (byte cs (e - 1) == sign "\\") && nat_lt e (d + n) then e + 1 else e)
    choice e f = ap (λ (x : ℕ). if (byte cs (x - 1) == sign "\\") && nat_lt x (d + n) then x + 1 else x) f

    go : (b : Bool) → is_white (byte cs ((d + n) - 1)) ≡ b
        → (if (byte cs (trimmed_from cs d ((d + n) - d) - 1) == sign "\\") && nat_lt (trimmed_from cs d ((d + n) - d)) (d + n) then trimmed_from cs d ((d + n) - d) + 1 else trimmed_from cs d ((d + n) - d)) ≡ d + n
    go false b =
        choice (d + n) (trimmed_stop cs d (d + n) (let s = some in omega (arith, s)) b)
        ∙ if_false ((byte cs ((d + n) - 1) == sign "\\") && nat_lt (d + n) (d + n)) ((d + n) + 1) (d + n) (no (byte cs ((d + n) - 1) == sign "\\") (nat_lt (d + n) (d + n)) (grind (arith, nat_tests)))
      where
        no : (x y : Bool) → y ≡ false → (x && y) ≡ false
        no true y e = e
        no false y e = refl
    go true b =
        let k2 = t.kept (ap is_white last ∙ b) in
        let more = k2.0 in
        let s = some in
        let slash : (byte cs (((d + n) - 1) - 1) == sign "\\") ≡ true =
        ap (λ (x : ℕ). byte cs x == sign "\\") (let z : ((d + n) - 1) - 1 ≡ d + (n - 2) = omega (arith, more) in z) ∙ ap (λ (x : ℕ). x == sign "\\") (sym (a (n - 2) (omega (arith, s))))
        ∙ ap (λ (x : ℕ). byte bs x == sign "\\") (let z : i + (n - 2) ≡ (i + n) - 2 = omega (arith, more) in z) ∙ k2.1 in
        choice ((d + n) - 1) (trimmed_more cs d (d + n) (omega (arith, s)) b ∙ trimmed_stop cs d ((d + n) - 1) (omega (arith, more)) (slash_not_white (byte cs (((d + n) - 1) - 1)) slash))
        ∙ if_true ((byte cs (((d + n) - 1) - 1) == sign "\\") && nat_lt ((d + n) - 1) (d + n)) (((d + n) - 1) + 1) ((d + n) - 1)
        (both (byte cs (((d + n) - 1) - 1) == sign "\\") (nat_lt ((d + n) - 1) (d + n)) slash (grind (arith, nat_tests)))
        ∙ (let z : ((d + n) - 1) + 1 ≡ d + n = omega (arith, s) in z)
      where
        both : (x y : Bool) → x ≡ true → y ≡ true → (x && y) ≡ true
        both true y e f = f
        both false y e f = absurd (cc)
