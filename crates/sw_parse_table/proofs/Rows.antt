-- Sets of terminals that are numbered in a row.
use Rattle.std.proofs.Common.{◌≡◌, ℕ, zero, suc, ◌+◌, Bool, ◌&&◌, ◌||◌, nat_le, nat_lt, eqb, List, [], ◌∷◌, ◌++◌, true, false, inl, inr, refl, ap, sym, subst, ◌∙◌, arith}
use Rattle.std.proofs.lemmas.Bool.Decides.{nat_tests}
use Rattle.sw_parse_grammar.specs.Grammar.{member, without}
use Rattle.sw_parse_grammar.specs.Levels.{subset}
use Rattle.sw_parse_grammar.proofs.Sets.{and_both, or_cases}
use Rattle.sw_parse_terminals.specs.declared.terminal.Terminal.TheVariants.{DollarNamed}
use Rattle.sw_parse_terminals.specs.Numbers.{just, numbers_from}
use Rattle.sw_parse_table.specs.Sets.{starts, endings, literals}

range_step : (k a n : ℕ) → (eqb k a || (nat_le (suc a) k && nat_lt k (suc a + n))) ≡ (nat_le a k && nat_lt k (a + suc n))
range_step k a n = grind (arith, nat_tests)

member_range : (k a n : ℕ) → member k (numbers_from a n) ≡ (nat_le a k && nat_lt k (a + n))
member_range k a zero = grind (arith, nat_tests)
member_range k a (suc n) = ap (λ (b : Bool). eqb k a || b) (member_range k (suc a) n) ∙ range_step k a n

in_subset : (k : ℕ) (xs ys : List ℕ) → subset xs ys ≡ true → member k xs ≡ true → member k ys ≡ true
in_subset k [] ys s e = absurd (cc)
in_subset k (x ∷ xs) ys s e =
    let both = and_both (member x ys) (subset xs ys) s in
    elim (or_cases (eqb k x) (member k xs) e) [
      | inl p ↦ subst (λ (z : ℕ). member z ys ≡ true) (grind (arith, p)) both.0
      | inr p ↦ in_subset k xs ys both.1 p
    ]

same_bools : (a b : Bool) → (a ≡ true → b ≡ true) → (b ≡ true → a ≡ true) → a ≡ b
same_bools true b f g = sym (f refl)
same_bools false true f g = g refl
same_bools false false f g = refl

same_members : (xs ys : List ℕ) → subset xs ys ≡ true → subset ys xs ≡ true → (k : ℕ) → member k xs ≡ member k ys
same_members xs ys s t k = same_bools (member k xs) (member k ys) (in_subset k xs ys s) (in_subset k ys xs t)

-- a set of so many terminals from one on is a test of two orders
row : (a n : ℕ) (set : List ℕ) → subset (numbers_from a n) set ≡ true → subset set (numbers_from a n) ≡ true → (k : ℕ) → (nat_le a k && nat_lt k (a + n)) ≡ member k set
row a n set s t k = sym (member_range k a n) ∙ same_members (numbers_from a n) set s t k

up_to : (k a b : ℕ) → (nat_le a k && nat_le k b) ≡ (nat_le a k && nat_lt k (b + 1))
up_to k a b = grind (arith, nat_tests)

-- a value begins with a terminal of a row
pub starts_row : (k : ℕ) → (nat_le 20 k && nat_le k 47) ≡ member k starts
starts_row k = up_to k 20 47 ∙ row 20 28 starts refl refl k

-- and goes on with one of a shorter row
pub goes_on_row : (k : ℕ) → (nat_le 20 k && nat_le k 46) ≡ member k (without endings starts)
goes_on_row k = up_to k 20 46 ∙ row 20 27 (without endings starts) refl refl k

pub literals_row : (k : ℕ) → (nat_le 20 k && nat_le k 29) ≡ member k literals
literals_row k = up_to k 20 29 ∙ row 20 10 literals refl refl k

-- the terminals with which an argument begins are those of values
pub argument_row : (k : ℕ) → member k starts ≡ member k (just DollarNamed ++ without (just DollarNamed) starts)
argument_row k = same_members starts (just DollarNamed ++ without (just DollarNamed) starts) refl refl k
