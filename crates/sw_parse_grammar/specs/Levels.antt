-- How many levels are open before a token.
use Rattle.std.specs.Prelude.{◌≡◌, ◌↔◌, ℕ, suc, ◌-◌, ◌<◌, ◌≤◌, Bool, true, false, ◌&&◌, List, [], ◌∷◌}
use Rattle.sw_parse_grammar.specs.Grammar.{Grammar, keep, skip, empty, ahead, seq, alt, many, sep, group, unless, build, Text, member, disjoint, DerivesAny, BeginsAny, Answer, Got, Unexpected, TooDeep}

-- the levels after one more token
abbrev pub stepped : List ℕ → List ℕ → ℕ → ℕ → ℕ
stepped O C b k = elim (member k O) [ true ↦ suc b | false ↦ elim (member k C) [ true ↦ b - 1 | false ↦ b ] ]

-- Where b levels are open before the token at i, b' are before the token at j.
pub data Levels {V : Type 0} (t : Text V) (O C : List ℕ) : ℕ → ℕ → ℕ → ℕ → Type 0 where
  same : {b i : ℕ} → Levels t O C b i b i
  token : {b i b' j : ℕ} → Levels t O C (stepped O C b (t.kind i)) (suc i) b' j → Levels t O C b i b' j

abbrev pub subset : List ℕ → List ℕ → Bool
subset [] ys = true
subset (x ∷ xs) ys = member x ys && subset xs ys

-- only groups have the tokens that open and close
abbrev pub nested : {V F : Type 0} → List ℕ → List ℕ → Grammar V F → Bool
nested O C (keep s) = disjoint s O && disjoint s C
nested O C (skip s) = disjoint s O && disjoint s C
nested O C empty = true
nested O C (ahead s) = true
nested O C (seq a b) = nested O C a && nested O C b
nested O C (alt a b) = nested O C a && nested O C b
nested O C (many g) = nested O C g
nested O C (sep s g) = (disjoint s O && disjoint s C) && nested O C g
nested O C (group o f c) = subset o O && (subset c C && disjoint c O)
nested O C (unless s g) = nested O C g
nested O C (build h g) = nested O C g

-- From i to m, with b levels open at i, each token that opens finds fewer than top levels.
abbrev pub Bounded : {V : Type 0} → Text V → List ℕ → List ℕ → ℕ → ℕ → ℕ → ℕ → Type 0
Bounded t O C b i m top = (p b' : ℕ) → Levels t O C b i b' p → p < m → member (t.kind p) O ≡ true → b' < top

-- The token at k is the first one from i on that opens level n + 1.
abbrev pub FirstDeep : {V : Type 0} → Text V → List ℕ → List ℕ → ℕ → ℕ → ℕ → Type 0
FirstDeep t O C n i k = Bounded t O C 0 i k n × Levels t O C 0 i n k × (member (t.kind k) O ≡ true)

-- What a reader of a form answers from i on, with the levels that are open counted from the tokens alone.
abbrev pub ReadsDeep : {V F : Type 0} → (F → Grammar V F) → Text V → List ℕ → List ℕ → ℕ → F → ℕ → Answer V → Type 0
-- the longest beginning, which is whole, and opens at most n levels
ReadsDeep {V} rules t O C n f i (Got w j) =
    DerivesAny rules t f i j w × ((m : ℕ) → BeginsAny rules t f i m → m ≤ j)
    × ((v : List V) → DerivesAny rules t f i j v → v ≡ w) × Bounded t O C 0 i j n
-- the longest beginning, which isn't whole, and opens at most n levels
ReadsDeep {V} rules t O C n f i (Unexpected k) =
    BeginsAny rules t f i k × ((m : ℕ) → BeginsAny rules t f i m → m ≤ k)
    × ((v : List V) → DerivesAny rules t f i k v → ⊥) × Bounded t O C 0 i k n
-- the first token that opens a level too many, which the form can take
ReadsDeep rules t O C n f i (TooDeep k) = BeginsAny rules t f i (suc k) × FirstDeep t O C n i k

-- A level too many is answered exactly where the tokens up to a place begin the form and the token there, which the
-- form can take, is the first that opens level n + 1.
abbrev pub DeepExactly : {V F : Type 0} → (F → Grammar V F) → Text V → List ℕ → List ℕ → ℕ → F → ℕ → Answer V → Type 0
DeepExactly rules t O C n f i a = (k : ℕ) → (a ≡ TooDeep k) ↔ (BeginsAny rules t f i (suc k) × FirstDeep t O C n i k)
