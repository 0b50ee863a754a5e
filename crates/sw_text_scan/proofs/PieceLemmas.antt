-- One step of trimming.
use Rattle.std.proofs.Common.{◌≡◌, ℕ, suc, ◌+◌, ◌-◌, ◌≤◌, ◌<◌, true, false, List, refl, sym, ◌∙◌, ap, arith}
use Rattle.sw_text_scan.specs.Bytes.{byte, is_white}
use Rattle.sw_text_scan.specs.Pieces.{trimmed_from}
use Rattle.sw_text_scan.proofs.Bounds.{if_true, if_false}

module _ (bs : List ℕ) where
  count_more : (i n k : ℕ) → k ≡ n → is_white (byte bs (i + n)) ≡ true → trimmed_from bs i (suc n) ≡ trimmed_from bs i k
  count_more i n k e m = if_true (is_white (byte bs (i + n))) (trimmed_from bs i n) (i + suc n) m ∙ ap (trimmed_from bs i) (sym e)

  pub trimmed_more : (i j : ℕ) → i < j → is_white (byte bs (j - 1)) ≡ true → trimmed_from bs i (j - i) ≡ trimmed_from bs i ((j - 1) - i)
  trimmed_more i j lt m =
      let e : j - i ≡ suc ((j - 1) - i) = omega arith in
      let p : j - 1 ≡ i + ((j - 1) - i) = omega arith in
      ap (trimmed_from bs i) e ∙ count_more i ((j - 1) - i) ((j - 1) - i) refl (ap (λ (k : ℕ). is_white (byte bs k)) (sym p) ∙ m)

  pub trimmed_stop : (i j : ℕ) → i < j → is_white (byte bs (j - 1)) ≡ false → trimmed_from bs i (j - i) ≡ j
  trimmed_stop i j lt m =
      let e : j - i ≡ suc ((j - 1) - i) = omega arith in
      let p : j - 1 ≡ i + ((j - 1) - i) = omega arith in
      let q : i + suc ((j - 1) - i) ≡ j = omega arith in
      ap (trimmed_from bs i) e
      ∙ if_false (is_white (byte bs (i + ((j - 1) - i)))) (trimmed_from bs i ((j - 1) - i)) (i + suc ((j - 1) - i)) (ap (λ (k : ℕ). is_white (byte bs k)) (sym p) ∙ m)
      ∙ q

  pub trimmed_none : (i j : ℕ) → j ≤ i → trimmed_from bs i (j - i) ≡ i
  trimmed_none i j le = let e : j - i ≡ 0 = omega arith in ap (trimmed_from bs i) e
