-- The rules of equality, kind by kind: what they say of two values is whether their words are equal.
use Rattle.std.proofs.Common.{◌≡◌, ℕ, Bool, true, false, ◌&&◌, ◌==◌, List, [], ◌∷◌, map, bytes_eq, ℤ, refl, sym, ap, ap₂, ◌∙◌, int_cmp, is_eq}
use Rattle.std.specs.Cmp.{both_ways}
use Rattle.std.specs.Cmp.Lexicographic.{pointwise}
use Rattle.std.proofs.lemmas.Bool.{and_parts, and_from}
use Rattle.std.proofs.lemmas.Bool.Decides.{Decides-int_eq}
use Rattle.std.proofs.lemmas.Slice.Eq.{bytes_eq-Decides}
use Rattle.sw_colour.specs.Colours.{Rgba, are_equal}
use Rattle.sw_values.specs.declared.plain.Separator.{Separator}
use Rattle.sw_values.specs.declared.plain.Separator.TheVariants as separators
use Rattle.sw_values.specs.declared.plain.Plain.{Plain}
use Rattle.sw_values.specs.declared.value.Node.{Node}
use Rattle.sw_values.specs.declared.value.Node.TheVariants as N
use Rattle.sw_values.specs.Amounts.{signed_words, number_words}
use Rattle.sw_values.specs.Canon.{canon, canon_pair, is_empty, list_words, map_words, all_framed, colour_words, entries_words, sorted_into, truth_word, separator_word}
use Rattle.sw_values.specs.Equality.{is_equal, same_separator, same_truth, is_nothing, lists_alike, alike, MapsAreTold}
use Rattle.sw_values.specs.Shape.{plain_of}
use Rattle.sw_values.proofs.Told.{told, head}
use Rattle.sw_values.proofs.Agreement.{numbers_agree, sign_told, four_told, parts_make, at}
use Rattle.sw_values.proofs.Canons.{canon_number, canon_text, canon_colour, canon_list, canon_map, canon_bool, canon_null, canon_args}

-- ---- lists

and_assoc : (x y z : Bool) → ((x && y) && z) ≡ (x && (y && z))
and_assoc true y z = refl
and_assoc false y z = refl

and_never : (x : Bool) → (x && false) ≡ false
and_never true = refl
and_never false = refl

canons_from : (xs ys : List Plain) → pointwise is_equal xs ys ≡ true → map canon xs ≡ map canon ys
canons_from [] [] e = refl
canons_from [] (y ∷ ys) e = cc
canons_from (x ∷ xs) [] e = cc
canons_from (x ∷ xs) (y ∷ ys) e =
    let k : (is_equal x y ≡ true) × (pointwise is_equal xs ys ≡ true) = and_parts _ _ e in
    ap₂ (λ w ws. w ∷ ws) ((bytes_eq-Decides (canon x) (canon y)).0 k.0) (canons_from xs ys k.1)

canons_to : (xs ys : List Plain) → map canon xs ≡ map canon ys → pointwise is_equal xs ys ≡ true
canons_to [] [] e = refl
canons_to [] (y ∷ ys) e = cc
canons_to (x ∷ xs) [] e = cc
canons_to (x ∷ xs) (y ∷ ys) e =
    let h : canon x ≡ canon y = cc in
    let t : map canon xs ≡ map canon ys = cc in
    and_from _ _ ((bytes_eq-Decides (canon x) (canon y)).1 h) (canons_to xs ys t)

items_told : (xs ys : List Plain) → pointwise is_equal xs ys ≡ bytes_eq (all_framed (map canon xs)) (all_framed (map canon ys))
items_told xs ys =
    both_ways _ _ (λ e. (bytes_eq-Decides _ _).1 (ap all_framed (canons_from xs ys e)))
    (λ e. canons_to xs ys (told _ _ ((bytes_eq-Decides _ _).0 e)))

lists_told : (s : Separator) (b : Bool) (xs : List Plain) (t : Separator) (c : Bool) (ys : List Plain)
    → lists_alike is_equal s b xs t c ys ≡ bytes_eq (list_words s b (map canon xs)) (list_words t c (map canon ys))
lists_told s false [] t false [] = refl
lists_told s false [] t true [] = refl
lists_told s false [] t c (y ∷ ys) = refl
lists_told s true [] t false [] = ap (λ x. x && true) (and_never (same_separator s t))
lists_told s true [] t true [] = and_assoc (same_separator s t) true true
lists_told s true [] t c (y ∷ ys) = and_assoc (same_separator s t) (same_truth true c) false
lists_told s b (x ∷ xs) t false [] = and_never (same_separator s t && same_truth b false)
lists_told s b (x ∷ xs) t true [] = and_assoc (same_separator s t) (same_truth b true) false
lists_told s b (x ∷ xs) t c (y ∷ ys) =
    and_assoc (same_separator s t) (same_truth b c) _ ∙ ap (λ r. same_separator s t && (same_truth b c && r)) (items_told (x ∷ xs) (y ∷ ys))

-- ---- colours and truths

signed_from : (x y : ℤ) → signed_words x ≡ signed_words y → x ≡ y
signed_from x y e =
    parts_make x y (sign_told _ _ (ap head e))
    (four_told _ _ (ap (λ l. at l 1) e) (ap (λ l. at l 2) e) (ap (λ l. at l 3) e) (ap (λ l. at l 4) e))

signed_told : (x y : ℤ) → is_eq (int_cmp x y) ≡ bytes_eq (signed_words x) (signed_words y)
signed_told x y =
    both_ways _ _ (λ e. (bytes_eq-Decides _ _).1 (ap signed_words ((Decides-int_eq x y).0 e)))
    (λ e. (Decides-int_eq x y).1 (signed_from x y ((bytes_eq-Decides _ _).0 e)))

four_ands : (r g b a : Bool) → (((r && g) && b) && a) ≡ (r && (g && (b && a)))
four_ands true true b a = refl
four_ands true false b a = refl
four_ands false g b a = refl

colours_told : (x y : Rgba) → are_equal x y ≡ bytes_eq (colour_words x) (colour_words y)
colours_told x y =
    ap (λ r. ((x.red == y.red && x.green == y.green) && x.blue == y.blue) && r) (signed_told x.alpha y.alpha)
    ∙ four_ands (x.red == y.red) (x.green == y.green) (x.blue == y.blue) _

truths_told : (t u : Bool) → same_truth t u ≡ bytes_eq (5 ∷ truth_word t ∷ []) (5 ∷ truth_word u ∷ [])
truths_told true true = refl
truths_told true false = refl
truths_told false true = refl
truths_told false false = refl

-- ---- kinds that differ

unlike : (a b : ℕ) (us ws : List ℕ) → (a == b) ≡ false → false ≡ bytes_eq (a ∷ us) (b ∷ ws)
unlike a b us ws h = ap (λ t. t && bytes_eq us ws) (sym h)

list_first : (s : Separator) (b : Bool) (xs : List Plain) (n : ℕ) (ws : List ℕ) → (3 == n) ≡ false → (7 == n) ≡ false
    → false ≡ bytes_eq (list_words s b (map canon xs)) (n ∷ ws)
list_first s false [] n ws h k = unlike 7 n [] ws k
list_first s true [] n ws h k = unlike 3 n (separator_word s ∷ truth_word true ∷ []) ws h
list_first s b (x ∷ xs) n ws h k = unlike 3 n (separator_word s ∷ truth_word b ∷ all_framed (map canon (x ∷ xs))) ws h

list_last : (s : Separator) (b : Bool) (xs : List Plain) (n : ℕ) (ws : List ℕ) → (n == 3) ≡ false → (n == 7) ≡ false
    → false ≡ bytes_eq (n ∷ ws) (list_words s b (map canon xs))
list_last s false [] n ws h k = unlike n 7 ws [] k
list_last s true [] n ws h k = unlike n 3 ws (separator_word s ∷ truth_word true ∷ []) h
list_last s b (x ∷ xs) n ws h k = unlike n 3 ws (separator_word s ∷ truth_word b ∷ all_framed (map canon (x ∷ xs))) h

map_first : (pairs : List (Plain × Plain)) (n : ℕ) (ws : List ℕ) → (4 == n) ≡ false → (7 == n) ≡ false
    → false ≡ bytes_eq (map_words (map canon_pair pairs)) (n ∷ ws)
map_first [] n ws h k = unlike 7 n [] ws k
map_first (p ∷ pairs) n ws h k = unlike 4 n (entries_words (sorted_into [] (map canon_pair (p ∷ pairs)))) ws h

map_last : (pairs : List (Plain × Plain)) (n : ℕ) (ws : List ℕ) → (n == 4) ≡ false → (n == 7) ≡ false
    → false ≡ bytes_eq (n ∷ ws) (map_words (map canon_pair pairs))
map_last [] n ws h k = unlike n 7 ws [] k
map_last (p ∷ pairs) n ws h k = unlike n 4 ws (entries_words (sorted_into [] (map canon_pair (p ∷ pairs)))) h

list_map : (s : Separator) (b : Bool) (xs : List Plain) (pairs : List (Plain × Plain))
    → (is_nothing b xs && is_empty pairs) ≡ bytes_eq (list_words s b (map canon xs)) (map_words (map canon_pair pairs))
list_map s false [] [] = refl
list_map s true [] [] = refl
list_map s b (x ∷ xs) [] = refl
list_map s false [] (p ∷ pairs) = refl
list_map s true [] (p ∷ pairs) = refl
list_map s b (x ∷ xs) (p ∷ pairs) = refl

map_list : (s : Separator) (b : Bool) (xs : List Plain) (pairs : List (Plain × Plain))
    → (is_nothing b xs && is_empty pairs) ≡ bytes_eq (map_words (map canon_pair pairs)) (list_words s b (map canon xs))
map_list s false [] [] = refl
map_list s true [] [] = refl
map_list s b (x ∷ xs) [] = refl
map_list s false [] (p ∷ pairs) = refl
map_list s true [] (p ∷ pairs) = refl
map_list s b (x ∷ xs) (p ∷ pairs) = refl

-- ---- all kinds

seen : (r : Bool) (a b c d : List ℕ) → a ≡ c → b ≡ d → r ≡ bytes_eq c d → r ≡ bytes_eq a b
seen r a b c d e f h = h ∙ ap₂ bytes_eq (sym e) (sym f)

pub rules : (one other : Node) → MapsAreTold one other → alike is_equal one other ≡ is_equal (plain_of one) (plain_of other)
rules (N.Number n) (N.Number n') h = seen _ _ _ _ _ (canon_number n) (canon_number n') (numbers_agree n n')
rules (N.Number n) (N.Text t' q') h = seen _ _ _ _ _ (canon_number n) (canon_text t' q') (refl)
rules (N.Number n) (N.Colour k') h = seen _ _ _ _ _ (canon_number n) (canon_colour k') (refl)
rules (N.Number n) (N.List xs' s' b') h = seen _ _ _ _ _ (canon_number n) (canon_list xs' s' b') (list_last s' b' xs' 0 (number_words n.value n.units) refl refl)
rules (N.Number n) (N.Map ps') h = seen _ _ _ _ _ (canon_number n) (canon_map ps') (map_last ps' 0 (number_words n.value n.units) refl refl)
rules (N.Number n) (N.Bool u') h = seen _ _ _ _ _ (canon_number n) (canon_bool u') (refl)
rules (N.Number n) N.Null h = seen _ _ _ _ _ (canon_number n) (canon_null) (refl)
rules (N.Number n) (N.Args xs' m') h = seen _ _ _ _ _ (canon_number n) (canon_args xs' m') (list_last separators.Comma false xs' 0 (number_words n.value n.units) refl refl)
rules (N.Text t q) (N.Number n') h = seen _ _ _ _ _ (canon_text t q) (canon_number n') (refl)
rules (N.Text t q) (N.Text t' q') h = seen _ _ _ _ _ (canon_text t q) (canon_text t' q') (refl)
rules (N.Text t q) (N.Colour k') h = seen _ _ _ _ _ (canon_text t q) (canon_colour k') (refl)
rules (N.Text t q) (N.List xs' s' b') h = seen _ _ _ _ _ (canon_text t q) (canon_list xs' s' b') (list_last s' b' xs' 1 t refl refl)
rules (N.Text t q) (N.Map ps') h = seen _ _ _ _ _ (canon_text t q) (canon_map ps') (map_last ps' 1 t refl refl)
rules (N.Text t q) (N.Bool u') h = seen _ _ _ _ _ (canon_text t q) (canon_bool u') (refl)
rules (N.Text t q) N.Null h = seen _ _ _ _ _ (canon_text t q) (canon_null) (refl)
rules (N.Text t q) (N.Args xs' m') h = seen _ _ _ _ _ (canon_text t q) (canon_args xs' m') (list_last separators.Comma false xs' 1 t refl refl)
rules (N.Colour k) (N.Number n') h = seen _ _ _ _ _ (canon_colour k) (canon_number n') (refl)
rules (N.Colour k) (N.Text t' q') h = seen _ _ _ _ _ (canon_colour k) (canon_text t' q') (refl)
rules (N.Colour k) (N.Colour k') h = seen _ _ _ _ _ (canon_colour k) (canon_colour k') (colours_told k k')
rules (N.Colour k) (N.List xs' s' b') h = seen _ _ _ _ _ (canon_colour k) (canon_list xs' s' b') (list_last s' b' xs' 2 (k.red ∷ k.green ∷ k.blue ∷ signed_words k.alpha) refl refl)
rules (N.Colour k) (N.Map ps') h = seen _ _ _ _ _ (canon_colour k) (canon_map ps') (map_last ps' 2 (k.red ∷ k.green ∷ k.blue ∷ signed_words k.alpha) refl refl)
rules (N.Colour k) (N.Bool u') h = seen _ _ _ _ _ (canon_colour k) (canon_bool u') (refl)
rules (N.Colour k) N.Null h = seen _ _ _ _ _ (canon_colour k) (canon_null) (refl)
rules (N.Colour k) (N.Args xs' m') h = seen _ _ _ _ _ (canon_colour k) (canon_args xs' m') (list_last separators.Comma false xs' 2 (k.red ∷ k.green ∷ k.blue ∷ signed_words k.alpha) refl refl)
rules (N.List xs s b) (N.Number n') h = seen _ _ _ _ _ (canon_list xs s b) (canon_number n') (list_first s b xs 0 (number_words n'.value n'.units) refl refl)
rules (N.List xs s b) (N.Text t' q') h = seen _ _ _ _ _ (canon_list xs s b) (canon_text t' q') (list_first s b xs 1 t' refl refl)
rules (N.List xs s b) (N.Colour k') h = seen _ _ _ _ _ (canon_list xs s b) (canon_colour k') (list_first s b xs 2 (k'.red ∷ k'.green ∷ k'.blue ∷ signed_words k'.alpha) refl refl)
rules (N.List xs s b) (N.List xs' s' b') h = seen _ _ _ _ _ (canon_list xs s b) (canon_list xs' s' b') (lists_told s b xs s' b' xs')
rules (N.List xs s b) (N.Map ps') h = seen _ _ _ _ _ (canon_list xs s b) (canon_map ps') (list_map s b xs ps')
rules (N.List xs s b) (N.Bool u') h = seen _ _ _ _ _ (canon_list xs s b) (canon_bool u') (list_first s b xs 5 (truth_word u' ∷ []) refl refl)
rules (N.List xs s b) N.Null h = seen _ _ _ _ _ (canon_list xs s b) (canon_null) (list_first s b xs 6 [] refl refl)
rules (N.List xs s b) (N.Args xs' m') h = seen _ _ _ _ _ (canon_list xs s b) (canon_args xs' m') (lists_told s b xs separators.Comma false xs')
rules (N.Map ps) (N.Number n') h = seen _ _ _ _ _ (canon_map ps) (canon_number n') (map_first ps 0 (number_words n'.value n'.units) refl refl)
rules (N.Map ps) (N.Text t' q') h = seen _ _ _ _ _ (canon_map ps) (canon_text t' q') (map_first ps 1 t' refl refl)
rules (N.Map ps) (N.Colour k') h = seen _ _ _ _ _ (canon_map ps) (canon_colour k') (map_first ps 2 (k'.red ∷ k'.green ∷ k'.blue ∷ signed_words k'.alpha) refl refl)
rules (N.Map ps) (N.List xs' s' b') h = seen _ _ _ _ _ (canon_map ps) (canon_list xs' s' b') (map_list s' b' xs' ps)
rules (N.Map ps) (N.Map ps') h = seen _ _ _ _ _ (canon_map ps) (canon_map ps') (h)
rules (N.Map ps) (N.Bool u') h = seen _ _ _ _ _ (canon_map ps) (canon_bool u') (map_first ps 5 (truth_word u' ∷ []) refl refl)
rules (N.Map ps) N.Null h = seen _ _ _ _ _ (canon_map ps) (canon_null) (map_first ps 6 [] refl refl)
rules (N.Map ps) (N.Args xs' m') h = seen _ _ _ _ _ (canon_map ps) (canon_args xs' m') (map_list separators.Comma false xs' ps)
rules (N.Bool u) (N.Number n') h = seen _ _ _ _ _ (canon_bool u) (canon_number n') (refl)
rules (N.Bool u) (N.Text t' q') h = seen _ _ _ _ _ (canon_bool u) (canon_text t' q') (refl)
rules (N.Bool u) (N.Colour k') h = seen _ _ _ _ _ (canon_bool u) (canon_colour k') (refl)
rules (N.Bool u) (N.List xs' s' b') h = seen _ _ _ _ _ (canon_bool u) (canon_list xs' s' b') (list_last s' b' xs' 5 (truth_word u ∷ []) refl refl)
rules (N.Bool u) (N.Map ps') h = seen _ _ _ _ _ (canon_bool u) (canon_map ps') (map_last ps' 5 (truth_word u ∷ []) refl refl)
rules (N.Bool u) (N.Bool u') h = seen _ _ _ _ _ (canon_bool u) (canon_bool u') (truths_told u u')
rules (N.Bool u) N.Null h = seen _ _ _ _ _ (canon_bool u) (canon_null) (refl)
rules (N.Bool u) (N.Args xs' m') h = seen _ _ _ _ _ (canon_bool u) (canon_args xs' m') (list_last separators.Comma false xs' 5 (truth_word u ∷ []) refl refl)
rules N.Null (N.Number n') h = seen _ _ _ _ _ (canon_null) (canon_number n') (refl)
rules N.Null (N.Text t' q') h = seen _ _ _ _ _ (canon_null) (canon_text t' q') (refl)
rules N.Null (N.Colour k') h = seen _ _ _ _ _ (canon_null) (canon_colour k') (refl)
rules N.Null (N.List xs' s' b') h = seen _ _ _ _ _ (canon_null) (canon_list xs' s' b') (list_last s' b' xs' 6 [] refl refl)
rules N.Null (N.Map ps') h = seen _ _ _ _ _ (canon_null) (canon_map ps') (map_last ps' 6 [] refl refl)
rules N.Null (N.Bool u') h = seen _ _ _ _ _ (canon_null) (canon_bool u') (refl)
rules N.Null N.Null h = seen _ _ _ _ _ (canon_null) (canon_null) (refl)
rules N.Null (N.Args xs' m') h = seen _ _ _ _ _ (canon_null) (canon_args xs' m') (list_last separators.Comma false xs' 6 [] refl refl)
rules (N.Args xs m) (N.Number n') h = seen _ _ _ _ _ (canon_args xs m) (canon_number n') (list_first separators.Comma false xs 0 (number_words n'.value n'.units) refl refl)
rules (N.Args xs m) (N.Text t' q') h = seen _ _ _ _ _ (canon_args xs m) (canon_text t' q') (list_first separators.Comma false xs 1 t' refl refl)
rules (N.Args xs m) (N.Colour k') h = seen _ _ _ _ _ (canon_args xs m) (canon_colour k') (list_first separators.Comma false xs 2 (k'.red ∷ k'.green ∷ k'.blue ∷ signed_words k'.alpha) refl refl)
rules (N.Args xs m) (N.List xs' s' b') h = seen _ _ _ _ _ (canon_args xs m) (canon_list xs' s' b') (lists_told separators.Comma false xs s' b' xs')
rules (N.Args xs m) (N.Map ps') h = seen _ _ _ _ _ (canon_args xs m) (canon_map ps') (list_map separators.Comma false xs ps')
rules (N.Args xs m) (N.Bool u') h = seen _ _ _ _ _ (canon_args xs m) (canon_bool u') (list_first separators.Comma false xs 5 (truth_word u' ∷ []) refl refl)
rules (N.Args xs m) N.Null h = seen _ _ _ _ _ (canon_args xs m) (canon_null) (list_first separators.Comma false xs 6 [] refl refl)
rules (N.Args xs m) (N.Args xs' m') h = seen _ _ _ _ _ (canon_args xs m) (canon_args xs' m') (lists_told separators.Comma false xs separators.Comma false xs')
