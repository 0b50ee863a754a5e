-- Sets of terminals that are numbered in rows.
use Rattle.std.proofs.Common.{◌≡◌, ℕ, zero, suc, ◌+◌, ◌≤◌, Bool, ◌&&◌, ◌||◌, nat_le, nat_lt, eqb, List, [], ◌∷◌, ◌++◌, true, false, inl, inr, refl, ap, sym, subst, ◌∙◌, arith}
use Rattle.std.proofs.lemmas.Bool.Decides.{nat_tests}
use Rattle.sw_parse_grammar.specs.Grammar.{member}
use Rattle.sw_parse_grammar.specs.Levels.{subset}
use Rattle.sw_parse_grammar.proofs.Sets.{and_both, or_cases}
use Rattle.sw_parse_terminals.specs.Numbers.{numbers_from}
use Rattle.sw_scss_parse.specs.Starts.{plain_starts, member_starts, flow_starts, worded_starts, statement_starts}

range_step : (k a n : ℕ) → (eqb k a || (nat_le (suc a) k && nat_lt k (suc a + n))) ≡ (nat_le a k && nat_lt k (a + suc n))
range_step k a n = grind (arith, nat_tests)

member_range : (k a n : ℕ) → member k (numbers_from a n) ≡ (nat_le a k && nat_lt k (a + n))
member_range k a zero = grind (arith, nat_tests)
member_range k a (suc n) = ap (λ (b : Bool). eqb k a || b) (member_range k (suc a) n) ∙ range_step k a n

up_to : (k a b : ℕ) → (nat_le a k && nat_le k b) ≡ (nat_le a k && nat_lt k (b + 1))
up_to k a b = grind (arith, nat_tests)

in_subset : (k : ℕ) (xs ys : List ℕ) → subset xs ys ≡ true → member k xs ≡ true → member k ys ≡ true
in_subset k [] ys s e = absurd (cc)
in_subset k (x ∷ xs) ys s e =
    let both = and_both (member x ys) (subset xs ys) s in
    elim (or_cases (eqb k x) (member k xs) e) [
      | inl p ↦ subst (λ (z : ℕ). member z ys ≡ true) (grind (arith, p)) both.0
      | inr p ↦ in_subset k xs ys both.1 p
    ]

same_bools : (a b : Bool) → (a ≡ true → b ≡ true) → (b ≡ true → a ≡ true) → a ≡ b
same_bools true b f g = sym (f refl)
same_bools false true f g = g refl
same_bools false false f g = refl

same_members : (xs ys : List ℕ) → subset xs ys ≡ true → subset ys xs ≡ true → (k : ℕ) → member k xs ≡ member k ys
same_members xs ys s t k = same_bools (member k xs) (member k ys) (in_subset k xs ys s) (in_subset k ys xs t)

or_assoc : (a b c : Bool) → ((a || b) || c) ≡ (a || (b || c))
or_assoc true b c = refl
or_assoc false b c = refl

pub member_both : (k : ℕ) (xs ys : List ℕ) → member k (xs ++ ys) ≡ (member k xs || member k ys)
member_both k [] ys = refl
member_both k (x ∷ xs) ys =
    ap (λ (b : Bool). eqb k x || b) (member_both k xs ys) ∙ sym (or_assoc (eqb k x) (member k xs) (member k ys))

-- a row of so many terminals from one on is a test of two orders
range : (k a n b : ℕ) → b + 1 ≡ a + n → (nat_le a k && nat_le k b) ≡ member k (numbers_from a n)
range k a n b e =
    up_to k a b ∙ ap (λ (z : ℕ). nat_le a k && nat_lt k z) e ∙ sym (member_range k a n)

pub member_row : (k : ℕ) → (nat_le 80 k && nat_le k 83) ≡ member k member_starts
member_row k = range k 80 4 83 refl ∙ same_members (numbers_from 80 4) member_starts refl refl k

-- the tests of two rows are those of both
two : (p q p' q' : Bool) → p ≡ p' → q ≡ q' → (p || q) ≡ (p' || q')
two p q p' q' e f = ap (λ (b : Bool). b || q) e ∙ ap (λ (b : Bool). p' || b) f

pub flow_row : (k : ℕ) → ((nat_le 84 k && nat_le k 88) || (nat_le 92 k && nat_le k 94)) ≡ member k flow_starts
flow_row k =
    two _ _ _ _ (range k 84 5 88 refl) (range k 92 3 94 refl) ∙ sym (member_both k (numbers_from 84 5)
    (numbers_from 92 3)) ∙ same_members (numbers_from 84 5 ++ numbers_from 92 3) flow_starts refl refl k

pub worded_row : (k : ℕ) → ((nat_le 78 k && nat_le k 88) || (nat_le 92 k && nat_le k 102)) ≡ member k worded_starts
worded_row k =
    two _ _ _ _ (range k 78 11 88 refl) (range k 92 11 102 refl) ∙ sym (member_both k (numbers_from 78 11)
    (numbers_from 92 11)) ∙ same_members (numbers_from 78 11 ++ numbers_from 92 11) worded_starts refl refl k

plain_right : (k : ℕ) → (eqb k 1 || ((nat_le 6 k && nat_le k 10) || ((nat_le 31 k && nat_le k 36) || (nat_le 75 k
    && nat_le k 77)))) ≡ member k plain_starts
plain_right k =
    two _ _ _ _ refl (two _ _ _ _ (range k 6 5 10 refl) (two _ _ _ _ (range k 31 6 36 refl) (range k 75 3 77 refl)
    ∙ sym (member_both k (numbers_from 31 6) (numbers_from 75 3))) ∙ sym (member_both k (numbers_from 6 5)
    (numbers_from 31 6 ++ numbers_from 75 3)))
    ∙ same_members (1 ∷ (numbers_from 6 5 ++ (numbers_from 31 6 ++ numbers_from 75 3))) plain_starts refl refl k

pub plain_row : (k : ℕ) → (((eqb k 1 || (nat_le 6 k && nat_le k 10)) || (nat_le 31 k && nat_le k 36)) || (nat_le 75 k
    && nat_le k 77)) ≡ member k plain_starts
plain_row k =
    or_assoc (eqb k 1 || (nat_le 6 k && nat_le k 10)) (nat_le 31 k && nat_le k 36) (nat_le 75 k && nat_le k 77)
    ∙ or_assoc (eqb k 1) (nat_le 6 k && nat_le k 10) ((nat_le 31 k && nat_le k 36) || (nat_le 75 k && nat_le k 77))
    ∙ plain_right k

pub statement_row : (k : ℕ) (p q : Bool) → p ≡ member k plain_starts → q ≡ member k worded_starts
    → (p || q) ≡ member k statement_starts
statement_row k p q e f = two p q _ _ e f ∙ sym (member_both k plain_starts worded_starts)

-- no statement begins at the end of the text
pub begins_some : (k : ℕ) → member k statement_starts ≡ true → 1 ≤ k
begins_some zero e = absurd (cc)
begins_some (suc k) e = omega arith
