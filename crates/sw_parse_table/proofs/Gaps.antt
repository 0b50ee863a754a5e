-- White space without the comments in it, step by step.
use Rattle.std.proofs.Common.{◌≡◌, ℕ, suc, ◌+◌, ◌-◌, ◌<◌, ◌≤◌, Bool, true, false, List, ◌++◌, refl, sym, ◌∙◌, ap, subst, arith, append_assoc}
use Rattle.std.specs.Prelude.{nat_lt, max, if◌then◌else◌}
use Rattle.std.proofs.lemmas.Bool.Decides.{nat_tests}
use Rattle.sw_parse_table.specs.declared.source.Source.{Source}
use Rattle.sw_parse_table.specs.Sources.{bytes_from, is_commented, from_at, to_at, gap_at, token_from, token_to, blank, blank_from, cut, before_gap, behind_gap, texts_from}

-- what holds of both holds of the greater one
pub of_max : (P : ℕ → Type 0) (a b : ℕ) → P a → P b → P (max a b)
of_max P a b p q = go (nat_lt a b) refl
  where
    go : (t : Bool) → nat_lt a b ≡ t → P (max a b)
    go true e = let l : a < b = grind (arith, nat_tests) in let same : b ≡ max a b = omega arith in subst P same q
    go false e = let l : b ≤ a = grind (arith, nat_tests) in let same : a ≡ max a b = omega arith in subst P same p

less_one : (i n : ℕ) → i < n → n - i ≡ suc (n - (i + 1))
less_one i n l = omega arith

module _ (source : Source) where
  -- one more comment
  pub gap_more : (text whole : List ℕ) (to from at end : ℕ) → at < end → text ++ blank_from source to from at (end - at) ≡ whole
      → (text ++ blank false (bytes_from source from (token_from source at))) ++ blank_from source to (max from (token_to source at)) (at + 1) (end - (at + 1)) ≡ whole
  gap_more text whole to from at end l e =
      append_assoc text (blank false (bytes_from source from (token_from source at))) (blank_from source to (max from (token_to source at)) (at + 1) (end - (at + 1)))
      ∙ ap (λ (n : ℕ). text ++ blank_from source to from at n) (sym (less_one at end l)) ∙ e

  -- one more token
  one_more : (to from at end : ℕ) → at < end
      → texts_from source to from at (end - at) ≡ before_gap source from (at + 1) (texts_from source to (behind_gap source from (at + 1)) (at + 1) (end - (at + 1)))
  one_more to from at end l = ap (texts_from source to from at) (less_one at end l)

  pub texts_step : (to from next at end : ℕ) → at < end → next ≡ behind_gap source from (at + 1)
      → texts_from source to from at (end - at) ≡ before_gap source from (at + 1) (texts_from source to next (at + 1) (end - (at + 1)))
  texts_step to from next at end l e =
      one_more to from at end l
      ∙ ap (λ (x : ℕ). before_gap source from (at + 1) (texts_from source to x (at + 1) (end - (at + 1)))) (sym e)

  -- no comment before the next token
  pub texts_past : (to from at end : ℕ) → at < end → is_commented source (at + 1) ≡ false
      → texts_from source to from at (end - at) ≡ texts_from source to from (at + 1) (end - (at + 1))
  texts_past to from at end l e =
      one_more to from at end l
      ∙ ap (λ (b : Bool). if b
      then cut (bytes_from source from (to_at source (at + 1 - 1))) (gap_at source (at + 1))
      (texts_from source to (if b then from_at source (at + 1) else from) (at + 1) (end - (at + 1)))
      else texts_from source to (if b then from_at source (at + 1) else from) (at + 1) (end - (at + 1))) e
