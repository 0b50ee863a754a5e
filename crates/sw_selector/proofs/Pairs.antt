-- Nesting by pairs.
use Rattle.std.proofs.Common.{◌≡◌, ℕ, suc, ◌+◌, ◌*◌, Bool, List, [], ◌∷◌, length, map, refl, ◌∙◌, ap, arith, length-append}
use Rattle.std.specs.List.{flat_map}
use Rattle.std.proofs.lemmas.List.{length-map}
use Rattle.std.proofs.lemmas.List.Concat.{flat_map-cons}
use Rattle.sw_selector.specs.declared.selector.Part.{Part}
use Rattle.sw_selector.specs.Nesting.{prepared, nested, all_nested}
use Rattle.sw_selector.specs.Laws.{NestsInOrder, NestsEachPair}

more : (m n : ℕ) → m + n * m ≡ suc n * m
more m n = omega arith

count : (f : List Part → List (List Part)) (m : ℕ) → ((parent : List Part) → length (f parent) ≡ m) → (parents : List (List Part)) → length (flat_map f parents) ≡ length parents * m
count f m h [] = omega arith
count f m h (parent ∷ parents) =
    let e : length (flat_map f (parent ∷ parents)) ≡ length (f parent) + length (flat_map f parents) =
    ap length (flat_map-cons f parent parents) ∙ length-append (f parent) (flat_map f parents) in
    let a = h parent in
    let b = count f m h parents in
    let c = more m (length parents) in
    omega (arith, e, a, b, c)

pub in_order : (at_root : Bool) (parents child : List (List Part)) → NestsInOrder at_root parents child
unfolding all_nested
in_order at_root parents child = refl

pub each_pair : (at_root : Bool) (parents child : List (List Part)) → NestsEachPair at_root parents child
each_pair at_root parents child =
    ap length (in_order at_root parents child)
    ∙ count (λ (parent : List Part). map (nested at_root parent) (map (prepared parents) child)) (length child)
    (λ parent. length-map (map (prepared parents) child) (nested at_root parent) ∙ length-map child (prepared parents)) parents
