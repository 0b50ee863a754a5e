-- Maps without equal keys are alike exactly where their words are equal.
use Rattle.std.proofs.Common.{◌≡◌, ◌+◌, ◌<◌, ℕ, zero, suc, length, drop, get_or, slice_get, arith, option_map, unwrap_or, Bool, true, false, cond, if◌then◌else◌, ◌&&◌, List, [], ◌∷◌, map, is_some, bytes_eq, Option, Some, None, Ordering, Less, Equal, Greater, nat_cmp, refl, sym, ap, ap₂, ◌∙◌, subst, true≢false}
use Rattle.std.specs.Ordering.{match_ordering}
use Rattle.std.specs.Cmp.{both_ways}
use Rattle.std.specs.Cmp.Lexicographic.{slice_cmp, nat_list_cmp_total, nat_list_eq_equiv, texts_ties}
use Rattle.std.specs.BTreeMap.{insert_entry}
use Rattle.std.specs.FinMap.{FinMap, entries, get, insert, from_sorted, entries-insert, entries-from_sorted, get-insert, get-from_sorted, get-entries, same_map, len, len-insert, len-entries}
use Rattle.std.specs.FinMap.Entries.{put, by_order, find}
use Rattle.std.specs.List.{IsDistinct, AllByRecursion, position_from}
use Rattle.std.proofs.lemmas.Iterator.Adapters.{position_from-zero}
use Rattle.std.proofs.lemmas.Map.Keys.{IsDistinct-head, IsDistinct-tail}
use Rattle.std.proofs.lemmas.Map.Lookups.{exact_bytes}
use Rattle.std.proofs.lemmas.Slice.Eq.{bytes_eq-Decides}
use Rattle.std.proofs.lemmas.Bool.{and_parts, and_from}
use Rattle.sw_values.specs.declared.plain.Plain.{Plain}
use Rattle.sw_values.specs.Canon.{canon, canon_pair, key_canon, sorted_into, entries_words, map_words}
use Rattle.sw_values.specs.Equality.{is_equal, value_for, is_value, pairs_within, keys_within, maps_alike}
use Rattle.sw_values.specs.Maps.{AreDistinct, value_of, value_at, place_of, second}
use Rattle.sw_values.proofs.Told.{tail}
use Rattle.sw_values.proofs.Agreement.{pair_told}
use Rattle.sw_values.proofs.Places.{got}

abbrev Entry : Type 0
Entry = List ℕ × List ℕ

abbrev order : List ℕ → List ℕ → Ordering
order = slice_cmp nat_cmp

-- ---- look-ups

abbrev found : List ℕ → List Entry → Option (List ℕ)
found q [] = None
found q (e ∷ es) = cond (bytes_eq q e.0) (Some e.1) (found q es)

found_is : (q : List ℕ) (es : List Entry) → find order q es ≡ found q es
found_is q [] = refl
found_is q (e ∷ es) = ap₂ (λ b r. cond b (Some e.1) r) (sym (texts_ties q e.0)) (found_is q es)

by_is : {A : Type 0} (o : Ordering) (a b c : A) → by_order o a b c ≡ match_ordering o a b c
by_is Less a b c = refl
by_is Equal a b c = refl
by_is Greater a b c = refl

put_is : (k v : List ℕ) (es : List Entry) → put order k v es ≡ insert_entry order es k v
put_is k v [] = refl
put_is k v (e ∷ es) =
    ap (λ l. by_order (order k e.0) ((k, v) ∷ e ∷ es) ((e.0, v) ∷ es) (e ∷ l)) (put_is k v es) ∙ by_is (order k e.0) _ _ _

abbrev Table : Type 0
Table = FinMap order (List ℕ)

made : Table → List Entry → Table
made m [] = m
made m (e ∷ es) = made (insert m e.0 e.1) es

entries_made : (m : Table) (es : List Entry) → entries (made m es) ≡ sorted_into (entries m) es
unfolding made
entries_made m [] = refl
entries_made m (e ∷ es) =
    entries_made (insert m e.0 e.1) es
    ∙ ap (λ l. sorted_into l es) (entries-insert nat_list_cmp_total m e.0 e.1 ∙ put_is e.0 e.1 (entries m))

or_else : Option (List ℕ) → Option (List ℕ) → Option (List ℕ)
or_else (Some v) other = Some v
or_else None other = other

none_found : (q : List ℕ) (es : List Entry) → AllByRecursion (λ y. bytes_eq q y ≡ false) (map (λ e. e.0) es) → found q es ≡ None
none_found q [] h = refl
none_found q (e ∷ es) h = ap (λ b. cond b (Some e.1) (found q es)) h.0 ∙ none_found q es h.1

join_at : (b : Bool) (v : List ℕ) (rest old : Option (List ℕ)) → (b ≡ true → rest ≡ None) → or_else rest (cond b (Some v) old) ≡ or_else (cond b (Some v) rest) old
unfolding or_else
join_at true v rest old h = ap (λ r. or_else r (Some v)) (h refl)
join_at false v rest old h = refl

get_made : (m : Table) (es : List Entry) (q : List ℕ) → IsDistinct bytes_eq (map (λ e. e.0) es) → get (made m es) q ≡ or_else (found q es) (get m q)
unfolding made or_else
get_made m [] q d = refl
get_made m (e ∷ es) q d =
    get_made (insert m e.0 e.1) es q (IsDistinct-tail _ _ _ d)
    ∙ ap (or_else (found q es)) (get-insert nat_list_cmp_total m e.0 e.1 q ∙ ap (λ b. cond b (Some e.1) (get m q)) (sym (texts_ties q e.0)))
    ∙ join_at (bytes_eq q e.0) e.1 (found q es) (get m q)
    (λ h. ap (λ k. found k es) ((bytes_eq-Decides q e.0).0 h) ∙ none_found e.0 es (IsDistinct-head bytes_eq e.0 (map (λ e. e.0) es) d))

or_none : (o : Option (List ℕ)) → or_else o None ≡ o
unfolding or_else
or_none (Some v) = refl
or_none None = refl

table_of : List Entry → Table
table_of es = made (from_sorted []) es

sorted_is : (es : List Entry) → entries (table_of es) ≡ sorted_into [] es
unfolding table_of
sorted_is es = entries_made (from_sorted []) es ∙ ap (λ l. sorted_into l es) (entries-from_sorted order [] tt)

get_is : (es : List Entry) (q : List ℕ) → IsDistinct bytes_eq (map (λ e. e.0) es) → get (table_of es) q ≡ found q es
unfolding table_of
get_is es q d = get_made (from_sorted []) es q d ∙ ap (or_else (found q es)) (get-from_sorted order [] q tt) ∙ or_none (found q es)

-- ---- equal words

entries_told : (es fs : List Entry) → entries_words es ≡ entries_words fs → es ≡ fs
entries_told [] [] e = refl
entries_told [] (f ∷ fs) e = cc
entries_told (a ∷ es) [] e = cc
entries_told (a ∷ es) (f ∷ fs) e =
    let k : (a.0 ≡ f.0) × (a.1 ≡ f.1) × (entries_words es ≡ entries_words fs) = pair_told a.0 a.1 f.0 f.1 (entries_words es) (entries_words fs) e in
    let rest : es ≡ fs = entries_told es fs k.2 in
    λ i. (k.0 i, k.1 i) ∷ rest i

words_told : (es fs : List Entry) → map_words es ≡ map_words fs → sorted_into [] es ≡ sorted_into [] fs
words_told [] [] e = refl
words_told [] (f ∷ fs) e = cc
words_told (a ∷ es) [] e = cc
words_told (a ∷ es) (f ∷ fs) e = entries_told _ _ (ap tail e)

Alike : List Entry → List Entry → Type 0
Alike es fs = (q : List ℕ) → found q es ≡ found q fs

alike_from_words : (es fs : List Entry) → IsDistinct bytes_eq (map (λ e. e.0) es) → IsDistinct bytes_eq (map (λ e. e.0) fs) → map_words es ≡ map_words fs → Alike es fs
unfolding Alike
alike_from_words es fs d k e q =
    sym (get_is es q d) ∙ get-entries (table_of es) q
    ∙ ap (find order q) (sorted_is es ∙ words_told es fs e ∙ sym (sorted_is fs))
    ∙ sym (get-entries (table_of fs) q) ∙ get_is fs q k

there : (e : Entry) (es : List Entry) → found e.0 (e ∷ es) ≡ Some e.1
there e es = ap (λ b. cond b (Some e.1) (found e.0 es)) ((bytes_eq-Decides e.0 e.0).1 refl)

words_from_sorted : (es fs : List Entry) → Alike es fs → sorted_into [] es ≡ sorted_into [] fs → map_words es ≡ map_words fs
unfolding Alike
words_from_sorted [] [] h e = refl
words_from_sorted [] (f ∷ fs) h e = let k : None ≡ Some f.1 = h f.0 ∙ there f fs in cc
words_from_sorted (a ∷ es) [] h e = let k : Some a.1 ≡ None = sym (there a es) ∙ h a.0 in cc
words_from_sorted (a ∷ es) (f ∷ fs) h e = ap (λ l. 4 ∷ entries_words l) e

words_from_alike : (es fs : List Entry) → IsDistinct bytes_eq (map (λ e. e.0) es) → IsDistinct bytes_eq (map (λ e. e.0) fs) → Alike es fs → map_words es ≡ map_words fs
unfolding Alike
words_from_alike es fs d k h =
    let same : table_of es ≡ table_of fs =
    same_map nat_list_cmp_total exact_bytes (table_of es) (table_of fs) (λ q. get_is es q d ∙ h q ∙ sym (get_is fs q k)) in
    words_from_sorted es fs h (sym (sorted_is es) ∙ ap entries same ∙ sorted_is fs)

-- ---- alike maps

has : List ℕ → Option (List ℕ) → Bool
has v None = false
has v (Some w) = bytes_eq v w

value_is : (key value : Plain) (pairs : List (Plain × Plain)) → is_value is_equal value (value_for is_equal key pairs) ≡ has (canon value) (found (canon key) (map canon_pair pairs))
unfolding has
value_is key value [] = refl
value_is key value (p ∷ pairs) = elim (is_equal key p.0) as (λ b. is_value is_equal value (if b then Some p.1 else value_for is_equal key pairs) ≡ has (canon value) (cond b (Some (canon p.1)) (found (canon key) (map canon_pair pairs)))) [
  | true ↦ refl
  | false ↦ value_is key value pairs
]

some_is : (key : Plain) (pairs : List (Plain × Plain)) → is_some (value_for is_equal key pairs) ≡ is_some (found (canon key) (map canon_pair pairs))
some_is key [] = refl
some_is key (p ∷ pairs) = elim (is_equal key p.0) as (λ b. is_some (if b then Some p.1 else value_for is_equal key pairs) ≡ is_some (cond b (Some (canon p.1)) (found (canon key) (map canon_pair pairs)))) [
  | true ↦ refl
  | false ↦ some_is key pairs
]

has_told : (v : List ℕ) (o : Option (List ℕ)) → has v o ≡ true → o ≡ Some v
unfolding has
has_told v None e = cc
has_told v (Some w) e = ap Some (sym ((bytes_eq-Decides v w).0 e))

has_from : (v : List ℕ) (o : Option (List ℕ)) → o ≡ Some v → has v o ≡ true
unfolding has
has_from v o e = ap (has v) e ∙ (bytes_eq-Decides v v).1 refl

within_at : (pairs others : List (Plain × Plain)) → pairs_within is_equal pairs others ≡ true → (q v : List ℕ) → found q (map canon_pair pairs) ≡ Some v → found q (map canon_pair others) ≡ Some v
within_at [] others h q v e = cc
within_at (p ∷ pairs) others h q v e =
    let k : (is_value is_equal p.1 (value_for is_equal p.0 others) ≡ true) × (pairs_within is_equal pairs others ≡ true) = and_parts _ _ h in
    elim (bytes_eq q (canon p.0)) as (λ b. bytes_eq q (canon p.0) ≡ b → cond b (Some (canon p.1)) (found q (map canon_pair pairs)) ≡ Some v → found q (map canon_pair others) ≡ Some v) [
      | true ↦ λ t f. ap (λ r. found r (map canon_pair others)) ((bytes_eq-Decides q (canon p.0)).0 t) ∙ has_told (canon p.1) _ (sym (value_is p.0 p.1 others) ∙ k.0) ∙ f
      | false ↦ λ t f. within_at pairs others k.1 q v f
    ] refl e

key_at : (others pairs : List (Plain × Plain)) → keys_within is_equal others pairs ≡ true → (q v : List ℕ) → found q (map canon_pair others) ≡ Some v → is_some (found q (map canon_pair pairs)) ≡ true
key_at [] pairs h q v e = cc
key_at (p ∷ others) pairs h q v e =
    let k : (is_some (value_for is_equal p.0 pairs) ≡ true) × (keys_within is_equal others pairs ≡ true) = and_parts _ _ h in
    elim (bytes_eq q (canon p.0)) as (λ b. bytes_eq q (canon p.0) ≡ b → cond b (Some (canon p.1)) (found q (map canon_pair others)) ≡ Some v → is_some (found q (map canon_pair pairs)) ≡ true) [
      | true ↦ λ t f. ap (λ r. is_some (found r (map canon_pair pairs))) ((bytes_eq-Decides q (canon p.0)).0 t) ∙ sym (some_is p.0 pairs) ∙ k.0
      | false ↦ λ t f. key_at others pairs k.1 q v f
    ] refl e

settle : (o r : Option (List ℕ)) → ((v : List ℕ) → o ≡ Some v → r ≡ Some v) → ((v : List ℕ) → r ≡ Some v → is_some o ≡ true) → o ≡ r
settle (Some v) r f g = sym (f v refl)
settle None None f g = refl
settle None (Some w) f g = absurd (true≢false (sym (g w refl)))

alike_from_rule : (pairs others : List (Plain × Plain)) → maps_alike is_equal pairs others ≡ true → Alike (map canon_pair pairs) (map canon_pair others)
unfolding Alike
alike_from_rule pairs others h q =
    let k : (keys_within is_equal others pairs ≡ true) × (pairs_within is_equal pairs others ≡ true) = and_parts _ _ h in
    settle _ _ (λ v e. within_at pairs others k.1 q v e) (λ v e. key_at others pairs k.0 q v e)

-- each entry is found in a list of entries
Found : List Entry → List Entry → Type 0
Found [] fs = Unit {0}
Found (e ∷ es) fs = (found e.0 fs ≡ Some e.1) × Found es fs

still : (a : Entry) (es fs : List Entry) → AllByRecursion (λ y. bytes_eq a.0 y ≡ false) (map (λ e. e.0) es) → Found es fs → Found es (a ∷ fs)
unfolding Found
still a [] fs h k = tt
still a (e ∷ es) fs h k =
    (ap (λ b. cond b (Some a.1) (found e.0 fs)) (nat_list_eq_equiv.symm e.0 a.0 ∙ h.0) ∙ k.0, still a es fs h.1 k.1)

all_there : (es : List Entry) → IsDistinct bytes_eq (map (λ e. e.0) es) → Found es es
unfolding Found
all_there [] d = tt
all_there (e ∷ es) d = (there e es, still e es es (IsDistinct-head bytes_eq e.0 (map (λ e. e.0) es) d) (all_there es (IsDistinct-tail _ _ _ d)))

moved : (es fs gs : List Entry) → Alike fs gs → Found es fs → Found es gs
unfolding Found Alike
moved [] fs gs h k = tt
moved (e ∷ es) fs gs h k = (sym (h e.0) ∙ k.0, moved es fs gs h k.1)

within_from : (pairs others : List (Plain × Plain)) → Found (map canon_pair pairs) (map canon_pair others) → pairs_within is_equal pairs others ≡ true
unfolding Found
within_from [] others h = refl
within_from (p ∷ pairs) others h =
    and_from _ _ (value_is p.0 p.1 others ∙ has_from (canon p.1) _ h.0) (within_from pairs others h.1)

keys_from : (pairs others : List (Plain × Plain)) → Found (map canon_pair pairs) (map canon_pair others) → keys_within is_equal pairs others ≡ true
unfolding Found
keys_from [] others h = refl
keys_from (p ∷ pairs) others h = and_from _ _ (some_is p.0 others ∙ ap is_some h.0) (keys_from pairs others h.1)

keys_are : (pairs : List (Plain × Plain)) → map (λ e. e.0) (map canon_pair pairs) ≡ map key_canon pairs
keys_are [] = refl
keys_are (p ∷ pairs) = ap (λ l. canon p.0 ∷ l) (keys_are pairs)

turned : (es fs : List Entry) → Alike es fs → Alike fs es
unfolding Alike
turned es fs h q = sym (h q)

rule_from_alike : (pairs others : List (Plain × Plain)) → IsDistinct bytes_eq (map (λ e. e.0) (map canon_pair pairs)) → IsDistinct bytes_eq (map (λ e. e.0) (map canon_pair others))
    → Alike (map canon_pair pairs) (map canon_pair others) → maps_alike is_equal pairs others ≡ true
rule_from_alike pairs others d k h =
    and_from _ _ (keys_from others pairs (moved _ _ _ (turned _ _ h) (all_there (map canon_pair others) k)))
    (within_from pairs others (moved _ _ _ h (all_there (map canon_pair pairs) d)))

-- ---- maps of different lengths

-- a table has none of these keys
Misses : Table → List Entry → Type 0
Misses m [] = Unit {0}
Misses m (e ∷ es) = (get m e.0 ≡ None) × Misses m es

misses_more : (m : Table) (a : Entry) (es : List Entry) → AllByRecursion (λ y. bytes_eq a.0 y ≡ false) (map (λ e. e.0) es) → Misses m es → Misses (insert m a.0 a.1) es
unfolding Misses
misses_more m a [] h k = tt
misses_more m a (e ∷ es) h k = (
  get-insert nat_list_cmp_total m a.0 a.1 e.0
      ∙ ap (λ b. cond b (Some a.1) (get m e.0)) (sym (texts_ties e.0 a.0) ∙ nat_list_eq_equiv.symm e.0 a.0 ∙ h.0) ∙ k.0,
  misses_more m a es h.1 k.1,
)

one_more : (a b n : ℕ) → a ≡ b + 1 + n → a ≡ b + suc n
one_more a b n e = omega (arith, e)

len_made : (m : Table) (es : List Entry) → IsDistinct bytes_eq (map (λ e. e.0) es) → Misses m es → len (made m es) ≡ len m + length es
unfolding made Misses
len_made m [] d h = omega arith
len_made m (e ∷ es) d h =
    let one : len (insert m e.0 e.1) ≡ len m + 1 =
    len-insert nat_list_cmp_total m e.0 e.1 ∙ ap (λ o. cond (is_some o) (len m) (len m + 1)) h.0 in
    let rest : len (made (insert m e.0 e.1) es) ≡ len (insert m e.0 e.1) + length es =
    len_made (insert m e.0 e.1) es (IsDistinct-tail _ _ _ d)
    (misses_more m e es (IsDistinct-head bytes_eq e.0 (map (λ e. e.0) es) d) h.1) in
    one_more _ _ _ (rest ∙ ap (λ n. n + length es) one)

nothing_there : (es : List Entry) → Misses (from_sorted []) es
unfolding Misses
nothing_there [] = tt
nothing_there (e ∷ es) = (get-from_sorted order [] e.0 tt, nothing_there es)

plus_zero : (n : ℕ) → 0 + n ≡ n
plus_zero n = omega arith

len_table : (es : List Entry) → IsDistinct bytes_eq (map (λ e. e.0) es) → len (table_of es) ≡ length es
unfolding table_of
len_table es d =
    let none : len (from_sorted {X = List ℕ} {R = order} []) ≡ 0 = len-entries (from_sorted []) ∙ ap length (entries-from_sorted order [] tt) in
    len_made (from_sorted []) es d (nothing_there es) ∙ ap (λ n. n + length es) none ∙ plus_zero (length es)

alike_lengths : (es fs : List Entry) → IsDistinct bytes_eq (map (λ e. e.0) es) → IsDistinct bytes_eq (map (λ e. e.0) fs) → Alike es fs → length es ≡ length fs
unfolding Alike
alike_lengths es fs d k h =
    let same : table_of es ≡ table_of fs =
    same_map nat_list_cmp_total exact_bytes (table_of es) (table_of fs) (λ q. get_is es q d ∙ h q ∙ sym (get_is fs q k)) in
    sym (len_table es d) ∙ ap len same ∙ len_table fs k

distinct_keys : (pairs : List (Plain × Plain)) → AreDistinct pairs → IsDistinct bytes_eq (map (λ e. e.0) (map canon_pair pairs))
distinct_keys pairs d = subst (IsDistinct bytes_eq) (sym (keys_are pairs)) d

length_pairs : (pairs : List (Plain × Plain)) → length (map canon_pair pairs) ≡ length pairs
length_pairs [] = refl
length_pairs (p ∷ pairs) = ap suc (length_pairs pairs)

never : (b : Bool) → (b ≡ true → ⊥) → b ≡ false
never true h = absurd (h refl)
never false h = refl

pub lengths_told : (pairs others : List (Plain × Plain)) → AreDistinct pairs → AreDistinct others → (length pairs ≡ length others → ⊥) → maps_alike is_equal pairs others ≡ false
lengths_told pairs others d k h =
    never _ (λ e. h (sym (length_pairs pairs) ∙ alike_lengths _ _ (distinct_keys pairs d) (distinct_keys others k) (alike_from_rule pairs others e) ∙ length_pairs others))

pub maps_told : (pairs others : List (Plain × Plain)) → AreDistinct pairs → AreDistinct others
    → maps_alike is_equal pairs others ≡ bytes_eq (map_words (map canon_pair pairs)) (map_words (map canon_pair others))
maps_told pairs others d k =
    both_ways _ _
    (λ e. (bytes_eq-Decides _ _).1 (words_from_alike _ _ (distinct_keys pairs d) (distinct_keys others k) (alike_from_rule pairs others e)))
    (λ e. rule_from_alike pairs others (distinct_keys pairs d) (distinct_keys others k) (alike_from_words _ _ (distinct_keys pairs d) (distinct_keys others k) ((bytes_eq-Decides _ _).0 e)))

-- ---- the value of a key, by its words

value_by : (ℕ → Option (Plain × Plain)) → Option ℕ → Option Plain
value_by f None = None
value_by f (Some place) = option_map second (f place)

looked_up : (key : Plain) (f : ℕ → Option (Plain × Plain)) (i : ℕ) (pairs : List (Plain × Plain)) → ((j : ℕ) → f (i + j) ≡ slice_get pairs j)
    → value_by f (position_from (bytes_eq (canon key)) i (map key_canon pairs)) ≡ value_for is_equal key pairs
unfolding value_by
looked_up key f i [] h = refl
looked_up key f i (p ∷ pairs) h = elim (bytes_eq (canon key) (canon p.0)) as (λ b. value_by f (cond b (Some i) (position_from (bytes_eq (canon key)) (i + 1) (map key_canon pairs))) ≡ cond b (Some p.1) (value_for is_equal key pairs)) [
  | true ↦ let e : i ≡ i + 0 = omega arith in ap (option_map second) (ap f e ∙ h 0)
  | false ↦ looked_up key f (i + 1) pairs (λ j. let e : i + 1 + j ≡ i + suc j = omega arith in ap f e ∙ h (suc j))
]

by_place : (pairs : List (Plain × Plain)) (place : Option ℕ) → value_at pairs place ≡ value_by (slice_get pairs) place
unfolding value_by
by_place pairs None = refl
by_place pairs (Some place) = refl

pub value_of_key : (key : Plain) (pairs : List (Plain × Plain)) → value_of pairs (canon key) ≡ value_for is_equal key pairs
value_of_key key pairs =
    by_place pairs (place_of pairs (canon key)) ∙ ap (value_by (slice_get pairs)) (position_from-zero (bytes_eq (canon key)) (map key_canon pairs))
    ∙ looked_up key (slice_get pairs) 0 pairs (λ j. let e : 0 + j ≡ j = omega arith in ap (slice_get pairs) e)

-- the key of a pair, and the pair, at a place
pub key_of : (pairs : List (Plain × Plain)) (i : ℕ) (p : Plain × Plain) (key : List ℕ) → i < length pairs → slice_get pairs i ≡ Some p → key ≡ get_or (map key_canon pairs) i key → key ≡ canon p.0
key_of [] i p key h e f = absurd (omega (arith, h))
key_of (q ∷ pairs) zero p key h e f = f ∙ ap canon (ap (λ o. (unwrap_or o p).0) e)
key_of (q ∷ pairs) (suc i) p key h e f = key_of pairs i p key (omega (arith, h)) e f

pub key_value : (mine pairs : List (Plain × Plain)) (place : ℕ) (keys : List (List ℕ)) (key : List ℕ) (r : Option Plain) → place < length pairs → keys ≡ map key_canon pairs → key ≡ get_or keys place key → r ≡ value_of mine key
    → (pair : Plain × Plain) → slice_get pairs place ≡ Some pair → r ≡ value_for is_equal pair.0 mine
key_value mine pairs place keys key r h e f g pair k =
    let there : key ≡ canon pair.0 = key_of pairs place pair key h k (f ∙ ap (λ l. get_or l place key) e) in
    g ∙ ap (value_of mine) there ∙ value_of_key pair.0 mine

pair_there : (pairs : List (Plain × Plain)) (place : ℕ) → place < length pairs
    → (p : Plain × Plain) × (slice_get pairs place ≡ Some p) × (drop place pairs ≡ p ∷ drop (suc place) pairs)
pair_there [] place h = absurd (omega (arith, h))
pair_there (p ∷ pairs) zero h = (p, refl, refl)
pair_there (p ∷ pairs) (suc place) h = let k = pair_there pairs place (omega (arith, h)) in (k.0, k.1, k.2)

next : (n : ℕ) → suc n ≡ n + 1
next n = omega arith

pub key_step : (pairs mine : List (Plain × Plain)) (place : ℕ) (r : Option Plain) → place < length pairs
    → ((pair : Plain × Plain) → slice_get pairs place ≡ Some pair → r ≡ value_for is_equal pair.0 mine)
    → keys_within is_equal (drop place pairs) mine ≡ (is_some r && keys_within is_equal (drop (place + 1) pairs) mine)
key_step pairs mine place r h f =
    let k = pair_there pairs place h in
    ap (λ l. keys_within is_equal l mine) k.2
    ∙ ap₂ (λ (o : Option Plain) (n : ℕ). is_some o && keys_within is_equal (drop n pairs) mine) (sym (f k.0 k.1)) (next place)

pub pair_step : (pairs mine : List (Plain × Plain)) (place : ℕ) (pair : Plain × Plain) (r : Option Plain) (b : Bool) → place < length pairs → pair ≡ get_or pairs place pair
    → ((p : Plain × Plain) → slice_get pairs place ≡ Some p → r ≡ value_for is_equal p.0 mine) → b ≡ is_value is_equal pair.1 r
    → pairs_within is_equal (drop place pairs) mine ≡ (b && pairs_within is_equal (drop (place + 1) pairs) mine)
pair_step pairs mine place pair r b h e f g =
    let k = pair_there pairs place h in
    let same : k.0 ≡ pair = ap (λ o. unwrap_or o pair) (sym k.1 ∙ got pairs place pair h e) in
    ap (λ l. pairs_within is_equal l mine) k.2
    ∙ ap₂ (λ (q : Plain × Plain) (o : Option Plain). is_value is_equal q.1 o && pairs_within is_equal (drop (suc place) pairs) mine) same (sym (f k.0 k.1))
    ∙ ap₂ (λ t n. t && pairs_within is_equal (drop n pairs) mine) (sym g) (next place)
