-- Runs that take something, and where they stop.
use Rattle.std.proofs.Common.{◌≡◌, ℕ, zero, suc, ◌+◌, ◌-◌, ◌≤◌, ◌<◌, Bool, true, false, ◌&&◌, ◌||◌, List, length, refl, subst, arith}
use Rattle.std.specs.Prelude.{◌==◌, nat_lt, if◌then◌else◌}
use Rattle.std.proofs.lemmas.Bool.Decides.{nat_tests}
use Rattle.sw_text_scan.specs.declared.runs.Class.{Class}
use Rattle.sw_text_scan.specs.declared.runs.Class.TheVariants as classes
use Rattle.sw_text_scan.specs.Bytes.{sign, byte, is_digit, starts_plainly}
use Rattle.sw_text_scan.specs.Runs.{next, run_from, run_end, escape_end, starts_at, begins_name}
use Rattle.sw_text_scan.proofs.Bounds.{next_within, next_past, run_step, run_forward, run_past}

pub either : {A : Type 0} (P : A → Type 0) (b : Bool) (x y : A) → (b ≡ true → P x) → (b ≡ false → P y) → P (if b then x else y)
either P true x y f g = f refl
either P false x y f g = g refl

-- where a name begins, a name character stands
pub name_taken : (bs : List ℕ) (i : ℕ) → begins_name bs i ≡ true → i < next classes.Name bs i
unfolding begins_name
name_taken bs i m = go (starts_plainly (byte bs i)) (nat_lt i (escape_end bs i)) (byte bs i == sign "-") (starts_at bs (i + 1) || (byte bs (i + 1) == sign "-")) (is_digit (byte bs i)) (escape_end bs i) (λ e. let s : nat_lt i (escape_end bs i) ≡ true = e in grind (arith, nat_tests)) m
  where
    go : (plain escapes dash more digit : Bool) (end : ℕ) → (escapes ≡ true → i < end) → ((plain || escapes) || (dash && more)) ≡ true → i < (if plain || (digit || dash) then i + 1 else end)
    go true escapes dash more digit end h e = omega arith
    go false escapes dash more true end h e = omega arith
    go false escapes true more false end h e = omega arith
    go false true false more false end h e = h refl
    go false false false more false end h e = absurd (cc)

module _ (bs : List ℕ) (c : Class) where
  -- a run that takes something goes on
  pub run_on : (i : ℕ) → i < next c bs i → i < run_end c bs i
  run_on i lt =
      let more = run_forward bs c (next c bs i) in
      let e = run_step bs c i lt in omega arith

  -- a run ends where its class takes nothing
  run_from_stops : (n i : ℕ) → i ≤ length bs → length bs ≤ n + i → next c bs (run_from c bs n i) ≤ run_from c bs n i
  run_from_stops zero i l enough = let w = next_within bs c i l in omega arith
  run_from_stops (suc n) i l enough =
      let on = next_within bs c i l in
      either (λ (j : ℕ). next c bs j ≤ j) (nat_lt i (next c bs i)) (run_from c bs n (next c bs i)) i
      (λ m. run_from_stops n (next c bs i) on (let lt : i < next c bs i = grind (arith, nat_tests) in omega arith))
      (λ m. grind (arith, nat_tests))

  run_stops_within : (i : ℕ) → i ≤ length bs → next c bs (run_end c bs i) ≤ run_end c bs i
  unfolding run_end
  run_stops_within i l = run_from_stops (length bs - i) i l (omega arith)

  pub run_stops : (i : ℕ) → next c bs (run_end c bs i) ≤ run_end c bs i
  run_stops i = go (nat_lt i (length bs)) refl
    where
      go : (t : Bool) → nat_lt i (length bs) ≡ t → next c bs (run_end c bs i) ≤ run_end c bs i
      go true e = run_stops_within i (let lt : i < length bs = grind (arith, nat_tests) in omega arith)
      go false e =
          let past : length bs ≤ i = grind (arith, nat_tests) in
          let stays = run_past bs c i past in
          let none = next_past bs c i past in
          subst (λ (k : ℕ). next c bs k ≤ k) (let back : i ≡ run_end c bs i = omega (arith, stays) in back) (omega (arith, none))
