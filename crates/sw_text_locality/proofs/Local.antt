-- Runs, names and strings that stand in two texts end at the same place in both.
use Rattle.std.proofs.Common.{◌≡◌, ℕ, ◌+◌, ◌-◌, ◌≤◌, ◌<◌, Bool, true, false, List, refl, sym, ◌∙◌, ap, subst, arith, Some, None}
use Rattle.std.specs.Prelude.{◌==◌}
use Rattle.std.proofs.lemmas.Bool.Decides.{nat_tests}
use Rattle.sw_text_scan.specs.declared.runs.Class.{Class}
use Rattle.sw_text_scan.specs.declared.runs.Class.TheVariants as classes
use Rattle.sw_text_scan.specs.Bytes.{sign, byte, is_white, is_name_byte}
use Rattle.sw_text_scan.specs.Runs.{next, run_end, begins_name}
use Rattle.sw_text_scan.specs.Brackets.{string_end}
use Rattle.sw_text_scan.proofs.Bounds.{if_true, run_forward}
use Rattle.sw_text_scan.proofs.Progress.{run_stops}
use Rattle.sw_text_locality.specs.Names.{white, name_end}
use Rattle.sw_text_locality.proofs.Lexical.{split, white_forward, name_forward}
use Rattle.sw_text_locality.proofs.Begins.{begins_kept}
use Rattle.sw_text_locality.proofs.Kept.{Alike}
use Rattle.sw_text_locality.proofs.Written.{no_name}
use Rattle.sw_text_locality.proofs.Runs.{name_stops, white_stops, text_stops, Steps, white_steps, name_steps, text_steps, run_again}

pub some_is : {k j : ℕ} → Some k ≡ Some j → k ≡ j
some_is e = cc

pub white_slash : (b : ℕ) → is_white b ≡ true → (b == sign "\\") ≡ false
white_slash b e = grind (arith, nat_tests)

pub white_ends : (bs : List ℕ) (p : ℕ) → is_white (byte bs (white bs p)) ≡ false
white_ends bs p = go (is_white (byte bs (white bs p))) refl
  where
    go : (t : Bool) → is_white (byte bs (white bs p)) ≡ t → t ≡ false
    go false t = refl
    go true t =
        let stops = run_stops bs classes.White p in
        let on = if_true (is_white (byte bs (white bs p))) (white bs p + 1) (white bs p) t in
        absurd (omega (arith, stops, on))

module _ (bs cs : List ℕ) (i d n : ℕ) (a : Alike bs cs i d n) where
  -- the place in the other text
  abbrev pub at : ℕ → ℕ
  at p = d + (p - i)

  pub same : (p : ℕ) → i ≤ p → p < i + n → byte cs (at p) ≡ byte bs p
  same p l lt = sym (ap (byte bs) (let e : p ≡ i + (p - i) = omega (arith, l) in e) ∙ a (p - i) (omega (arith, l, lt)))

  pub same_on : (p k : ℕ) → i ≤ p → p + k < i + n → byte cs (at p + k) ≡ byte bs (p + k)
  same_on p k l lt = ap (byte cs) (let e : at p + k ≡ at (p + k) = omega (arith, l) in e) ∙ same (p + k) (omega (arith, l)) lt

  from : (p m : ℕ) → i ≤ p → p + m ≤ i + n → Alike bs cs p (at p) m
  from p m l r k lt = sym (same_on p k l (omega (arith, lt, r)))

  pub run_at : (c : Class) → Steps bs cs c → (p : ℕ) → i ≤ p → run_end c bs p < i + n → next c cs (at (run_end c bs p)) ≤ at (run_end c bs p)
      → run_end c cs (at p) ≡ at (run_end c bs p)
  run_at c steps p l lt stops =
      let fw = run_forward bs c p in
      let back : at p + (run_end c bs p - p) ≡ at (run_end c bs p) = omega (arith, l, fw) in
      run_again bs cs c steps (run_end c bs p - p) p (at p) (run_end c bs p - p) (omega arith) (let e : run_end c bs p ≡ p + (run_end c bs p - p) = omega (arith, fw) in e)
      (from p ((run_end c bs p - p) + 1) l (omega (arith, fw, lt))) (subst (λ (x : ℕ). next c cs x ≤ x) (sym back) stops)
      ∙ back

  pub white_at : (p : ℕ) → i ≤ p → white bs p < i + n → white cs (at p) ≡ at (white bs p)
  white_at p l lt =
      let fw = white_forward bs p in
      run_at classes.White (white_steps bs cs) p l lt
      (white_stops cs (at (white bs p)) (ap is_white (same (white bs p) (omega (arith, fw, l)) lt) ∙ white_ends bs p))

  pub name_at : (p : ℕ) → i ≤ p → name_end bs p < i + n → (byte bs (name_end bs p) == sign "\\") ≡ false → name_end cs (at p) ≡ at (name_end bs p)
  name_at p l lt slash =
      let fw = name_forward bs p in
      let there = same (name_end bs p) (omega (arith, fw, l)) lt in
      run_at classes.Name (name_steps bs cs) p l lt
      (name_stops cs (at (name_end bs p)) (ap is_name_byte there ∙ no_name bs (name_end bs p) (run_stops bs classes.Name p)) (ap (λ (b : ℕ). b == sign "\\") there ∙ slash))

  pub begins_at : (p : ℕ) → i ≤ p → name_end bs p ≤ i + n → begins_name bs p ≡ true → begins_name cs (at p) ≡ true
  begins_at p l r e =
      let fw = name_forward bs p in
      begins_kept bs cs p (at p) (name_end bs p - p) (from p (name_end bs p - p) l (omega (arith, fw, r))) e (omega (arith, fw))

  pub string_at : (q p r : ℕ) → string_end bs q p ≡ Some r → i ≤ p → r ≤ i + n → string_end cs q (at p) ≡ Some (at r)
  unfolding string_end
  string_at q p r e l room =
      split (byte bs (run_end (classes.Text q) bs (p + 1)) == q) (Some (run_end (classes.Text q) bs (p + 1) + 1)) None (Some r)
      (λ t f. let here = some_is f in
      let fw = run_forward bs (classes.Text q) (p + 1) in
      let there = same (run_end (classes.Text q) bs (p + 1)) (omega (arith, fw, l)) (omega (arith, here, room)) in
      let run = run_at (classes.Text q) (text_steps bs cs q) (p + 1) (omega (arith, l)) (omega (arith, here, room))
      (text_stops cs q (at (run_end (classes.Text q) bs (p + 1))) (ap (λ (b : ℕ). b == q) there ∙ t)) in
      let end : run_end (classes.Text q) cs (at p + 1) ≡ at (run_end (classes.Text q) bs (p + 1)) = ap (run_end (classes.Text q) cs) (let z : at p + 1 ≡ at (p + 1) = omega (arith, l) in z) ∙ run in
      if_true (byte cs (run_end (classes.Text q) cs (at p + 1)) == q) (Some (run_end (classes.Text q) cs (at p + 1) + 1)) None
      (ap (λ (x : ℕ). byte cs x == q) end ∙ ap (λ (b : ℕ). b == q) there ∙ t)
      ∙ ap Some (let z : run_end (classes.Text q) cs (at p + 1) + 1 ≡ at r = omega (arith, end, here, fw, l) in z))
      (λ t f. absurd (cc)) e
