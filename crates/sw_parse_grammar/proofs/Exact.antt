-- A level too many is answered wherever it comes.
use Rattle.std.proofs.Common.{◌≡◌, ℕ, suc, ◌+◌, ◌≤◌, ◌<◌, ◌⊎◌, inl, inr, true, List, refl, sym, ap, subst, arith}
use Rattle.sw_parse_grammar.specs.Grammar.{Grammar, Text, Answer, Got, Unexpected, TooDeep, BeginsAny}
use Rattle.sw_parse_grammar.specs.Levels.{Levels, Bounded, FirstDeep, ReadsDeep, DeepExactly}

apart : (a b : ℕ) → (a < b) ⊎ ((a ≡ b) ⊎ (b < a))
apart a b = grind arith

module _ {V F : Type 0} (rules : F → Grammar V F) (t : Text V) (O C : List ℕ) where
  -- before a bound no token opens a level too many
  not_before : (n i m k : ℕ) → Bounded t O C 0 i m n → FirstDeep t O C n i k → k < m → ⊥
  not_before n i m k bound first lt = let no : n < n = bound k n first.1 lt first.2 in omega arith

  one_first : (n i k m : ℕ) → FirstDeep t O C n i k → FirstDeep t O C n i m → k ≡ m
  one_first n i k m a b = elim (apart k m) [
    | inl lt ↦ absurd (not_before n i m k b.0 a lt)
    | inr rest ↦ elim rest [ inl same ↦ same | inr lt ↦ absurd (not_before n i k m a.0 b lt) ]
  ]

  same_place : {k m : ℕ} → ◌≡◌ {A = Answer V} (TooDeep k) (TooDeep m) → k ≡ m
  same_place e = cc

  pub deep_exactly : (n : ℕ) (f : F) (i : ℕ) (a : Answer V) → ReadsDeep rules t O C n f i a → DeepExactly rules t O C n f i a
  deep_exactly n f i (Got w j) r k = (λ e. absurd (cc), λ d. absurd (not_before n i j k r.3 d.1 (let within = r.1 (suc k) d.0 in omega arith)))
  deep_exactly n f i (Unexpected j) r k = (λ e. absurd (cc), λ d. absurd (not_before n i j k r.3 d.1 (let within = r.1 (suc k) d.0 in omega arith)))
  deep_exactly n f i (TooDeep j) r k = (
    λ e. subst (λ (m : ℕ). BeginsAny rules t f i (suc m) × FirstDeep t O C n i m) (same_place e) (r.0, r.1),
    λ d. ap TooDeep (one_first n i j k r.1 d.1),
  )
