-- Two grammars with the same texts and beginnings.
use Rattle.std.specs.Prelude.{ℕ, List}
use Rattle.sw_parse_grammar.specs.Grammar.{Grammar, Text, DerivesIn, BeginsIn}

pub record Same {V F : Type 0} (t : Text V) (R : F → ℕ → ℕ → List V → Type 0) (R' : F → ℕ → ℕ → Type 0)
    (g g' : Grammar V F) : Type 0 where
  pub d : (i j : ℕ) (w : List V) → DerivesIn t R g i j w → DerivesIn t R g' i j w
  pub d' : (i j : ℕ) (w : List V) → DerivesIn t R g' i j w → DerivesIn t R g i j w
  pub b : (i m : ℕ) → BeginsIn t R R' g i m → BeginsIn t R R' g' i m
  pub b' : (i m : ℕ) → BeginsIn t R R' g' i m → BeginsIn t R R' g i m
