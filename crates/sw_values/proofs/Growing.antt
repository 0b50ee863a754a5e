-- Weight and nesting of a list with one more item, and of a map with one more pair.
use Rattle.std.proofs.Common.{◌≡◌, ◌+◌, max, ℕ, Bool, true, List, [], ◌∷◌, ◌++◌, sum_by, Option, Some, None, is_some, Result, Ok, Err, IfOk, IfErr, MatchResult, sym, ap, subst, ◌∙◌, arith, zero-add}
use Rattle.std.proofs.lemmas.List.Sums.{sum_by-append, sum_by_push}
use Rattle.sw_values.specs.declared.fault.ValueFault.{ValueFault}
use Rattle.sw_values.specs.declared.fault.ValueFault.TheVariants as F
use Rattle.sw_values.specs.declared.plain.Separator.{Separator}
use Rattle.sw_values.specs.declared.plain.Plain.{Plain}
use Rattle.sw_values.specs.declared.plain.Plain.TheVariants as P
use Rattle.sw_values.specs.declared.value.Node.{Node}
use Rattle.sw_values.specs.declared.value.Node.TheVariants as N
use Rattle.sw_values.specs.Growing.{list_parts, is_list, list_with, map_pairs, is_map, map_with, IsGrowthFault}
use Rattle.sw_values.specs.Canon.{canon}
use Rattle.sw_values.specs.Maps.{place_of, with_value_at, with_value}
use Rattle.sw_values.specs.Shape.{plain_of, node_of, IsTooLarge}
use Rattle.sw_values.specs.Sizes.{weigh_list, nest_list, weigh_map, nest_map, pair_weight, pair_nest}
use Rattle.sw_values.specs.Weight.{weigh, nest, greatest_by, is_within}
use Rattle.sw_values.proofs.Alike.{back, node_back}

greatest-push : {A : Type 0} (f : A → ℕ) (xs : List A) (x : A) → greatest_by f (xs ++ x ∷ []) ≡ max (greatest_by f xs) (f x)
greatest-push f [] x = omega arith
greatest-push f (y ∷ xs) x = let k : greatest_by f (xs ++ x ∷ []) ≡ max (greatest_by f xs) (f x) = greatest-push f xs x in omega (arith, k)

weigh_more : (items : List Plain) (s t : Separator) (b : Bool) (item : Plain) → weigh (P.List (items ++ item ∷ []) t b) ≡ weigh (P.List items s b) + weigh item
weigh_more items s t b item =
    let one : weigh (P.List (items ++ item ∷ []) t b) ≡ sum_by weigh (items ++ item ∷ []) + 1 = weigh_list _ _ _ in
    let two : weigh (P.List items s b) ≡ sum_by weigh items + 1 = weigh_list _ _ _ in
    let last : sum_by weigh (item ∷ []) ≡ weigh item = zero-add (weigh item) in
    let all : sum_by weigh (items ++ item ∷ []) ≡ sum_by weigh items + sum_by weigh (item ∷ []) = sum_by-append weigh items (item ∷ []) in
    omega (arith, one, two, last, all)

nest_more : (items : List Plain) (s t : Separator) (b : Bool) (item : Plain) → nest (P.List (items ++ item ∷ []) t b) ≡ max (nest (P.List items s b)) (nest item + 1)
nest_more items s t b item =
    let one : nest (P.List (items ++ item ∷ []) t b) ≡ greatest_by nest (items ++ item ∷ []) + 1 = nest_list _ _ _ in
    let two : nest (P.List items s b) ≡ greatest_by nest items + 1 = nest_list _ _ _ in
    let all : greatest_by nest (items ++ item ∷ []) ≡ max (greatest_by nest items) (nest item) = greatest-push nest items item in
    omega (arith, one, two, all)

pub weight_with : (node : Node) (parts : List Plain × Bool) (t : Separator) (item : Plain) → list_parts node ≡ Some parts → weigh (list_with (list_parts node) t item) ≡ weigh (plain_of node) + weigh item
weight_with (N.List items s b) parts t item e = weigh_more items s t b item
weight_with (N.Number _) parts t item e = cc
weight_with (N.Text _ _) parts t item e = cc
weight_with (N.Colour _) parts t item e = cc
weight_with (N.Map _) parts t item e = cc
weight_with (N.Bool _) parts t item e = cc
weight_with N.Null parts t item e = cc
weight_with (N.Args _ _) parts t item e = cc

pub nesting_with : (node : Node) (parts : List Plain × Bool) (t : Separator) (item : Plain) → list_parts node ≡ Some parts → nest (list_with (list_parts node) t item) ≡ max (nest (plain_of node)) (nest item + 1)
nesting_with (N.List items s b) parts t item e = nest_more items s t b item
nesting_with (N.Number _) parts t item e = cc
nesting_with (N.Text _ _) parts t item e = cc
nesting_with (N.Colour _) parts t item e = cc
nesting_with (N.Map _) parts t item e = cc
nesting_with (N.Bool _) parts t item e = cc
nesting_with N.Null parts t item e = cc
nesting_with (N.Args _ _) parts t item e = cc

pub list_is : (self item : Plain) (node : Node) (parts : List Plain × Bool) (t : Separator) → plain_of node ≡ self → list_parts node ≡ Some parts
    → P.List (parts.0 ++ item ∷ []) t parts.1 ≡ list_with (list_parts (node_of self)) t item
list_is self item node parts t e h =
    ap (λ o. list_with o t item) (sym h) ∙ ap (λ (m : Node). list_with (list_parts m) t item) (node_back self node e)

pub weight_of_more : (self item : Plain) (node : Node) (parts : List Plain × Bool) (t : Separator) (w v : ℕ) → plain_of node ≡ self → list_parts node ≡ Some parts → w ≡ weigh self → v ≡ weigh item
    → w + v ≡ weigh (P.List (parts.0 ++ item ∷ []) t parts.1)
weight_of_more self item node parts t w v e h f g =
    let all : weigh (list_with (list_parts node) t item) ≡ weigh (plain_of node) + weigh item = weight_with node parts t item h in
    let here : w ≡ weigh (plain_of node) = f ∙ ap weigh (sym e) in
    let one : w + v ≡ weigh (list_with (list_parts node) t item) = omega (arith, all, here, g) in
    one ∙ ap (λ o. weigh (list_with o t item)) h

pub nesting_of_more : (self item : Plain) (node : Node) (parts : List Plain × Bool) (t : Separator) (n m : ℕ) → plain_of node ≡ self → list_parts node ≡ Some parts → n ≡ nest self → m ≡ nest item
    → max n (m + 1) ≡ nest (P.List (parts.0 ++ item ∷ []) t parts.1)
nesting_of_more self item node parts t n m e h f g =
    let all : nest (list_with (list_parts node) t item) ≡ max (nest (plain_of node)) (nest item + 1) = nesting_with node parts t item h in
    let here : n ≡ nest (plain_of node) = f ∙ ap nest (sym e) in
    let one : max n (m + 1) ≡ nest (list_with (list_parts node) t item) = omega (arith, all, here, g) in
    one ∙ ap (λ o. nest (list_with o t item)) h

pub with_is_list : (parts : Option (List Plain × Bool)) (t : Separator) (item : Plain) → is_some parts ≡ true → is_list (list_with parts t item) ≡ true
with_is_list None t item e = cc
with_is_list (Some parts) t item e = ap (λ (n : Node). is_some (list_parts n)) (back (N.List (parts.0 ++ item ∷ []) t parts.1))

pub with_is_map : (pairs : Option (List (Plain × Plain))) (key value : Plain) → is_some pairs ≡ true → is_map (map_with pairs key value) ≡ true
with_is_map None key value e = cc
with_is_map (Some pairs) key value e = ap (λ (n : Node). is_some (map_pairs n)) (back (N.Map (with_value pairs key value)))

pub grown_is : (made target : Plain) (r : Result Plain ValueFault) → made ≡ target → MatchResult r (λ value. value ≡ made) (λ fault. (fault ≡ F.TooLarge) × IsTooLarge made)
    → IfOk r (λ value. value ≡ target)
grown_is made target (Ok value) e h = h ∙ e
grown_is made target (Err fault) e h = tt

pub stays_list : (r : Result Plain ValueFault) (parts : Option (List Plain × Bool)) (t : Separator) (item : Plain) → is_some parts ≡ true → IfOk r (λ value. value ≡ list_with parts t item)
    → IfOk r (λ value. is_list value ≡ true)
stays_list (Ok value) parts t item e h = rw h (with_is_list parts t item e)
stays_list (Err fault) parts t item e h = tt

pub stays_map : (r : Result Plain ValueFault) (pairs : Option (List (Plain × Plain))) (key value : Plain) → is_some pairs ≡ true → IfOk r (λ made. made ≡ map_with pairs key value)
    → IfOk r (λ made. is_map made ≡ true)
stays_map (Ok made) pairs key value e h = rw h (with_is_map pairs key value e)
stays_map (Err fault) pairs key value e h = tt

pub grown_fault : (made target : Plain) (r : Result Plain ValueFault) → made ≡ target → MatchResult r (λ value. value ≡ made) (λ fault. (fault ≡ F.TooLarge) × IsTooLarge made)
    → IfErr r (λ fault. IsGrowthFault target fault)
grown_fault made target (Ok value) e h = tt
grown_fault made target (Err fault) e h =
    subst (λ (f : ValueFault). IsGrowthFault target f) (sym h.0) (subst (λ (p : Plain). IsTooLarge p) e h.1)

pub ok_on : (made target : Plain) (r : Result Plain ValueFault) → made ≡ target → IfOk r (λ value. value ≡ made) → IfOk r (λ value. value ≡ target)
ok_on made target (Ok value) e h = h ∙ e
ok_on made target (Err fault) e h = tt

pub fault_on : (made target : Plain) (r : Result Plain ValueFault) → made ≡ target → IfErr r (λ fault. IsGrowthFault made fault) → IfErr r (λ fault. IsGrowthFault target fault)
fault_on made target (Ok value) e h = tt
fault_on made target (Err fault) e h = subst (λ (p : Plain). IsGrowthFault p fault) e h

pub of_fault : (made target : Plain) (r : Result Plain ValueFault) → made ≡ target → MatchResult r (λ value. (value ≡ made) × (is_within made ≡ true)) (λ fault. (fault ≡ F.TooLarge) × IsTooLarge made)
    → IfErr r (λ fault. IsGrowthFault target fault)
of_fault made target (Ok value) e h = tt
of_fault made target (Err fault) e h =
    subst (λ (f : ValueFault). IsGrowthFault target f) (sym h.0) (subst (λ (p : Plain). IsTooLarge p) e h.1)

-- ---- maps

pub weight_of_pair : (pairs : List (Plain × Plain)) (key value : Plain) → weigh (P.Map (pairs ++ (key, value) ∷ [])) ≡ weigh (P.Map pairs) + weigh key + weigh value
weight_of_pair pairs key value =
    let one : weigh (P.Map (pairs ++ (key, value) ∷ [])) ≡ sum_by pair_weight (pairs ++ (key, value) ∷ []) + 1 = weigh_map _ in
    let two : weigh (P.Map pairs) ≡ sum_by pair_weight pairs + 1 = weigh_map _ in
    let all : sum_by pair_weight (pairs ++ (key, value) ∷ []) ≡ sum_by pair_weight pairs + (weigh key + weigh value) = sum_by_push pair_weight pairs (key, value) in
    omega (arith, one, two, all)

pub nesting_of_pair : (pairs : List (Plain × Plain)) (key value : Plain) → nest (P.Map (pairs ++ (key, value) ∷ [])) ≡ max (nest (P.Map pairs)) (max (nest key) (nest value) + 1)
nesting_of_pair pairs key value =
    let one : nest (P.Map (pairs ++ (key, value) ∷ [])) ≡ greatest_by pair_nest (pairs ++ (key, value) ∷ []) + 1 = nest_map _ in
    let two : nest (P.Map pairs) ≡ greatest_by pair_nest pairs + 1 = nest_map _ in
    let all : greatest_by pair_nest (pairs ++ (key, value) ∷ []) ≡ max (greatest_by pair_nest pairs) (max (nest key) (nest value)) = greatest-push pair_nest pairs (key, value) in
    omega (arith, one, two, all)

pub map_back : (self : Plain) (node : Node) (pairs : List (Plain × Plain)) → plain_of node ≡ self → map_pairs node ≡ Some pairs → P.Map pairs ≡ self
map_back self (N.Map _) pairs e h = cc
map_back self (N.List _ _ _) pairs e h = cc
map_back self (N.Number _) pairs e h = cc
map_back self (N.Text _ _) pairs e h = cc
map_back self (N.Colour _) pairs e h = cc
map_back self (N.Bool _) pairs e h = cc
map_back self N.Null pairs e h = cc
map_back self (N.Args _ _) pairs e h = cc

-- what is made of a map's node is made of the map
pub map_is : (self key value : Plain) (node : Node) (pairs : List (Plain × Plain)) → plain_of node ≡ self → map_pairs node ≡ Some pairs
    → P.Map (with_value pairs key value) ≡ map_with (map_pairs (node_of self)) key value
map_is self key value node pairs e h =
    ap (λ o. map_with o key value) (sym h) ∙ ap (λ (m : Node). map_with (map_pairs m) key value) (node_back self node e)

-- what is put at a place, or behind the pairs, is what the key's place says
pub at_place : (pairs : List (Plain × Plain)) (key value : Plain) (words : List ℕ) (place : Option ℕ) (made : List (Plain × Plain)) → words ≡ canon key → place ≡ place_of pairs words
    → made ≡ with_value_at pairs place key value → P.Map made ≡ P.Map (with_value pairs key value)
at_place pairs key value words place made e f g =
    ap (λ (ps : List (Plain × Plain)). P.Map ps) (g ∙ ap (λ (o : Option ℕ). with_value_at pairs o key value) (f ∙ ap (λ (ws : List ℕ). place_of pairs ws) e))
