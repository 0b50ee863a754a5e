-- A map that is merged with a map of one pair.
use Rattle.std.specs.Prelude.{position, nat_lt}
use Rattle.std.specs.List.{IsDistinct, AllByRecursion, position_or_len}
use Rattle.std.specs.Cmp.Lexicographic.{nat_list_eq_equiv}
use Rattle.std.proofs.Common.{◌≡◌, refl, ℕ, ◌+◌, suc, Bool, true, false, not, cond, List, [], ◌∷◌, ◌++◌, length, map, Option, Some, None, is_some, unwrap_or, bytes_eq, Result, Ok, Err, sym, ap, subst, ◌∙◌, arith, tests, append-nil}
use Rattle.sw_values.specs.declared.plain.Plain.{Plain}
use Rattle.sw_values.specs.declared.value.Node.{Node}
use Rattle.sw_values.specs.declared.value.Node.TheVariants as N
use Rattle.sw_values.specs.Canon.{canon, key_canon}
use Rattle.sw_values.specs.Growing.{map_pairs, map_with, is_map}
use Rattle.sw_values.specs.Maps.{place_of, value_at, with_value_at, with_value, AreDistinct}
use Rattle.sw_values.specs.Shape.{node_of}
use Rattle.sw_fn_call.specs.declared.fault.FnFault.{FnFault}
use Rattle.sw_fn_call.specs.Answers.{Answer, IsAnswer, with, within}
use Rattle.sw_fn_call.specs.Arguments.{rest}
use Rattle.sw_fn_map.specs.Pairs.{Pair, pairs_by as pairs_in, pairs_of, map_value}
use Rattle.sw_fn_map.specs.Changes.{updated, merged, merged_at}
use Rattle.sw_eval_growing.specs.Growth.{merge_in, one_of, pairs_by, pairs_given, are_some, has_pairs, AreApart, HasDistinctKeys}

-- ---- places

abbrev next : Option ℕ → Option ℕ
next None = None
next (Some place) = Some (suc place)

-- the place in a list with one thing before it
place_by : (here : Bool) (at len : ℕ) → cond (nat_lt (cond (not here) (1 + at) 0) (suc len)) (Some (cond (not here) (1 + at) 0)) None
    ≡ cond here (Some 0) (next (cond (nat_lt at len) (Some at) None))
place_by true at len = grind (arith, tests)
place_by false at len = behind (nat_lt at len) refl
  where
    behind : (test : Bool) → nat_lt at len ≡ test → cond (nat_lt (1 + at) (suc len)) (Some (1 + at)) None ≡ next (cond (nat_lt at len) (Some at) None)
    behind true e = grind (arith, tests, e)
    behind false e = grind (arith, tests, e)

position-cons : {X : Type 0} (test : X → Bool) (x : X) (xs : List X)
    → position test (x ∷ xs) ≡ cond (test x) (Some 0) (next (position test xs))
position-cons test x xs = place_by (test x) (position_or_len test xs) (length xs)

-- ---- the pairs that are there

updated_by : (p : Pair) (here : Bool) (place : Option ℕ) (key value : Plain) → place ≡ cond here (Some 0) None
    → ◌≡◌ {A = Pair} (p.0, unwrap_or (value_at ((key, value) ∷ []) place) p.1) (p.0, cond here value p.1)
updated_by p true place key value e = rw e refl
updated_by p false place key value e = rw e refl

updated_is : (p : Pair) (key value : Plain)
    → ◌≡◌ {A = Pair} (updated ((key, value) ∷ []) p) (p.0, cond (bytes_eq (key_canon p) (canon key)) value p.1)
updated_is p key value =
    updated_by p (bytes_eq (key_canon p) (canon key)) _ key value (position-cons (bytes_eq (key_canon p)) (canon key) [])

updated_there : (p : Pair) (key value : Plain) → bytes_eq (canon key) (key_canon p) ≡ true
    → ◌≡◌ {A = Pair} (updated ((key, value) ∷ []) p) (p.0, value)
updated_there p key value h =
    updated_is p key value ∙ ap (λ here. (p.0, cond here value p.1)) (nat_list_eq_equiv.symm (key_canon p) (canon key) ∙ h)

updated_else : (p : Pair) (key value : Plain) → bytes_eq (canon key) (key_canon p) ≡ false
    → updated ((key, value) ∷ []) p ≡ p
updated_else p key value h =
    updated_is p key value ∙ ap (λ here. (p.0, cond here value p.1)) (nat_list_eq_equiv.symm (key_canon p) (canon key) ∙ h)

-- the pairs behind one of that key stay
all_else : (pairs : List Pair) (there : List ℕ) (key value : Plain) → bytes_eq (canon key) there ≡ true
    → AllByRecursion (λ other. bytes_eq there other ≡ false) (map key_canon pairs)
    → map (updated ((key, value) ∷ [])) pairs ≡ pairs
all_else [] there key value h apart = refl
all_else (p ∷ pairs) there key value h apart =
    ap (λ q. q ∷ map (updated ((key, value) ∷ [])) pairs)
    (updated_else p key value (nat_list_eq_equiv.congr (canon key) there (key_canon p) h ∙ apart.0))
    ∙ ap (λ rest. p ∷ rest) (all_else pairs there key value h apart.1)

-- ---- all

-- the pair that is new, where the key stands nowhere
abbrev added : List Pair → Option ℕ → Pair → List Pair
added pairs place pair = cond (not (is_some (value_at pairs place))) (pair ∷ []) []

found : (p : Pair) (rest pairs : List Pair) (place : Option ℕ) (first : Pair) (key value : Plain) → place ≡ Some 0
    → ◌≡◌ {A = Pair} first (p.0, value) → rest ≡ pairs
    → (first ∷ rest) ++ added (p ∷ pairs) place (key, value) ≡ with_value_at (p ∷ pairs) place key value
found p rest pairs place first key value e f g = rw (e, f, g) (append-nil _)

later : (p : Pair) (rest pairs : List Pair) (before : Option ℕ) (key value : Plain)
    → rest ++ added pairs before (key, value) ≡ with_value_at pairs before key value
    → (p ∷ rest) ++ added (p ∷ pairs) (next before) (key, value) ≡ with_value_at (p ∷ pairs) (next before) key value
later p rest pairs None key value e = ap (λ (all : List Pair). p ∷ all) e
later p rest pairs (Some at) key value e = ap (λ (all : List Pair). p ∷ all) e

passed : (p : Pair) (rest pairs : List Pair) (place before : Option ℕ) (first : Pair) (key value : Plain)
    → place ≡ next before → first ≡ p → rest ++ added pairs before (key, value) ≡ with_value_at pairs before key value
    → (first ∷ rest) ++ added (p ∷ pairs) place (key, value) ≡ with_value_at (p ∷ pairs) place key value
passed p rest pairs place before first key value e f g = rw (e, f) (later p rest pairs before key value g)

merged_step : (p : Pair) (pairs : List Pair) (key value : Plain) (here : Bool) → bytes_eq (canon key) (key_canon p) ≡ here
    → AllByRecursion (λ other. bytes_eq (key_canon p) other ≡ false) (map key_canon pairs)
    → place_of (p ∷ pairs) (canon key) ≡ cond here (Some 0) (next (place_of pairs (canon key)))
    → merged pairs ((key, value) ∷ []) ≡ with_value pairs key value
    → merged (p ∷ pairs) ((key, value) ∷ []) ≡ with_value (p ∷ pairs) key value
merged_step p pairs key value true h apart at rest =
    found p (map (updated ((key, value) ∷ [])) pairs) pairs (place_of (p ∷ pairs) (canon key)) (updated ((key, value) ∷ []) p) key
    value at (updated_there p key value h) (all_else pairs (key_canon p) key value h apart)
merged_step p pairs key value false h apart at rest =
    passed p (map (updated ((key, value) ∷ [])) pairs) pairs (place_of (p ∷ pairs) (canon key)) (place_of pairs (canon key))
    (updated ((key, value) ∷ []) p) key value at (updated_else p key value h) rest

pub merged_one : (pairs : List Pair) (key value : Plain) → AreDistinct pairs
    → merged pairs ((key, value) ∷ []) ≡ with_value pairs key value
unfolding IsDistinct
merged_one [] key value apart = refl
merged_one (p ∷ pairs) key value apart =
    merged_step p pairs key value _ refl apart.0 (position-cons (bytes_eq (canon key)) (key_canon p) (map key_canon pairs))
    (merged_one pairs key value apart.1)

-- ---- what merges

with_ok : (answer : Answer) → with answer (λ value. Ok value) ≡ answer
with_ok (Ok value) = refl
with_ok (Err fault) = refl

merges_in : (node : Node) (given : Result (List Pair) FnFault) (pair : Pair) → is_some (map_pairs node) ≡ true
    → AreApart (map_pairs node) → given ≡ Ok (pair ∷ [])
    → within (map_with (map_pairs node) pair.0 pair.1) ≡ with (pairs_in node) (λ pairs. with given (merged_at pairs []))
merges_in (N.Map pairs) given pair h apart e =
    rw e (sym (with_ok (map_value (merged pairs (pair ∷ []))) ∙ ap map_value (merged_one pairs pair.0 pair.1 apart)))
merges_in (N.List _ _ _) given pair h apart e = cc
merges_in (N.Number _) given pair h apart e = cc
merges_in (N.Text _ _) given pair h apart e = cc
merges_in (N.Colour _) given pair h apart e = cc
merges_in (N.Bool _) given pair h apart e = cc
merges_in N.Null given pair h apart e = cc
merges_in (N.Args _ _) given pair h apart e = cc

merges : (map others other : Plain) (pair : Pair) → is_map map ≡ true → HasDistinctKeys map
    → rest others ≡ Ok (other ∷ []) → pairs_of other ≡ Ok (pair ∷ [])
    → within (map_with (map_pairs (node_of map)) pair.0 pair.1) ≡ merge_in map others
unfolding pairs_of
merges map others other pair h apart e f = rw e (merges_in (node_of map) (pairs_in (node_of other)) pair h apart f)

-- the only pair
pair_is : (given : Result (List Pair) FnFault) (pair : Pair) → one_of given ≡ Some pair → given ≡ Ok (pair ∷ [])
pair_is (Ok []) pair e = cc
pair_is (Ok (one ∷ [])) pair e = cc
pair_is (Ok (_ ∷ _ ∷ _)) pair e = cc
pair_is (Err fault) pair e = cc

-- the only value, and its only pair
map_is : (given : Result (List Plain) FnFault) (pair : Pair) → pairs_by (one_of given) ≡ Some pair
    → (other : Plain) × (given ≡ Ok (other ∷ [])) × (pairs_of other ≡ Ok (pair ∷ []))
map_is (Ok []) pair e = absurd cc
map_is (Ok (one ∷ [])) pair e = (one, refl, pair_is (pairs_of one) pair e)
map_is (Ok (_ ∷ _ ∷ _)) pair e = absurd cc
map_is (Err fault) pair e = absurd cc

some_map : (pairs : Option (List Pair)) → are_some pairs ≡ true → is_some pairs ≡ true
some_map None h = cc
some_map (Some pairs) h = refl

-- what has pairs is a map
pub has_map : (map : Plain) → has_pairs map ≡ true → is_map map ≡ true
has_map map h = some_map (map_pairs (node_of map)) h

pub one_pair : (map others : Plain) (pair : Pair) (result : Answer) → has_pairs map ≡ true → HasDistinctKeys map
    → pairs_given others ≡ Some pair → IsAnswer result (within (map_with (map_pairs (node_of map)) pair.0 pair.1))
    → IsAnswer result (merge_in map others)
one_pair map others pair result h apart e is =
    let other = map_is (rest others) pair e in
    subst (λ (a : Answer). IsAnswer result a) (merges map others other.0 pair (has_map map h) apart other.1 other.2) is
