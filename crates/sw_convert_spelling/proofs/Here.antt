-- Texts that stand at a place of another.
use Rattle.std.proofs.Common.{◌≡◌, ℕ, ◌+◌, List, [], ◌∷◌, ◌++◌, length, ◌∙◌, ap, subst, arith, append_assoc, length-append}
use Rattle.sw_text_scan.specs.Bytes.{byte}
use Rattle.sw_convert_spelling.proofs.MovedRuns.{byte_behind, first_byte}

-- these bytes stand at a place
abbrev pub Here : List ℕ → ℕ → List ℕ → Type 0
Here bs at [] = Unit {0}
Here bs at (b ∷ xs) = (byte bs at ≡ b) × Here bs (at + 1) xs

module _ (bs : List ℕ) where
  pub here_left : (at : ℕ) (xs ys : List ℕ) → Here bs at (xs ++ ys) → Here bs at xs
  here_left at [] ys h = tt
  here_left at (x ∷ xs) ys h = (h.0, here_left (at + 1) xs ys h.1)

  pub here_right : (at : ℕ) (xs ys : List ℕ) → Here bs at (xs ++ ys) → Here bs (at + length xs) ys
  here_right at [] ys h = subst (λ (k : ℕ). Here bs k ys) (let e : at ≡ at + 0 = omega arith in e) h
  here_right at (x ∷ xs) ys h =
      subst (λ (k : ℕ). Here bs k ys) (let e : (at + 1) + length xs ≡ at + length (x ∷ xs) = omega arith in e)
      (here_right (at + 1) xs ys h.1)

  pub here_both : (at : ℕ) (xs ys : List ℕ) → Here bs at xs → Here bs (at + length xs) ys → Here bs at (xs ++ ys)
  here_both at [] ys h g = subst (λ (k : ℕ). Here bs k ys) (let e : at + 0 ≡ at = omega arith in e) g
  here_both at (x ∷ xs) ys h g =
      (h.0, here_both (at + 1) xs ys h.1 (subst (λ (k : ℕ). Here bs k ys) (let e : at + length (x ∷ xs) ≡ (at + 1) + length xs = omega arith in e) g))

-- a text stands behind what is written before it
pub stands : (before xs : List ℕ) → Here (before ++ xs) (length before) xs
stands before [] = tt
stands before (x ∷ xs) = (
  ap (byte (before ++ x ∷ xs)) (let e : length before ≡ length before + 0 = omega arith in e) ∙ byte_behind before (x ∷ xs) 0 ∙ first_byte x xs,
  subst (λ (t : List ℕ). Here t (length before + 1) xs) (append_assoc before (x ∷ []) xs)
      (subst (λ (k : ℕ). Here ((before ++ x ∷ []) ++ xs) k xs) (length-append before (x ∷ [])) (stands (before ++ x ∷ []) xs)),
)
