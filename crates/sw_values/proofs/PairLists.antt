-- The pairs of a map as lists: they are no heavier and no deeper than the map.
use Rattle.std.proofs.Common.{◌≡◌, ◌+◌, ◌≤◌, max, ℕ, false, List, [], ◌∷◌, sum_by, sym, ap, ◌∙◌, arith}
use Rattle.std.proofs.lemmas.List.Sums.{sum_by-cons}
use Rattle.sw_values.specs.declared.plain.Plain.{Plain}
use Rattle.sw_values.specs.declared.plain.Plain.TheVariants as P
use Rattle.sw_values.specs.declared.plain.Separator.TheVariants.{Space}
use Rattle.sw_values.specs.declared.value.Node.{Node}
use Rattle.sw_values.specs.declared.value.Node.TheVariants as N
use Rattle.sw_values.specs.Shape.{plain_of}
use Rattle.sw_values.specs.Sizes.{weigh_list, nest_list, weigh_map, nest_map, pair_weight, pair_nest}
use Rattle.sw_values.specs.Weight.{weigh, nest, greatest_by, most, deepest}

pub pair_weighs : (p : Plain × Plain) (items : List Plain) (v w : ℕ) → items ≡ p.0 ∷ p.1 ∷ [] → v ≡ weigh p.0 → w ≡ weigh p.1 → v + w + 1 ≡ weigh (P.List items Space false)
pair_weighs p items v w e f g =
    let one : weigh (P.List (p.0 ∷ p.1 ∷ []) Space false) ≡ sum_by weigh (p.0 ∷ p.1 ∷ []) + 1 = weigh_list _ _ _ in
    let both : sum_by weigh (p.0 ∷ p.1 ∷ []) ≡ weigh p.0 + sum_by weigh (p.1 ∷ []) = sum_by-cons weigh p.0 (p.1 ∷ []) in
    let last : sum_by weigh (p.1 ∷ []) ≡ weigh p.1 + 0 = sum_by-cons weigh p.1 [] in
    rw e (omega (arith, one, both, last, f, g))

pub pair_nests : (p : Plain × Plain) (items : List Plain) (m n : ℕ) → items ≡ p.0 ∷ p.1 ∷ [] → m ≡ nest p.0 → n ≡ nest p.1 → max m n + 1 ≡ nest (P.List items Space false)
pair_nests p items m n e f g =
    let one : nest (P.List (p.0 ∷ p.1 ∷ []) Space false) ≡ max (nest p.0) (max (nest p.1) 0) + 1 = nest_list _ _ _ in
    rw e (omega (arith, one, f, g))

map_of : (value : Plain) (node : Node) (pairs slice : List (Plain × Plain)) → plain_of node ≡ value → node ≡ N.Map pairs → slice ≡ pairs → value ≡ P.Map slice
map_of value node pairs slice e f g = sym e ∙ ap plain_of f ∙ ap (λ (ps : List (Plain × Plain)). P.Map ps) (sym g)

pub map_light : (value : Plain) (node : Node) (pairs slice : List (Plain × Plain)) (w : ℕ) → plain_of node ≡ value → node ≡ N.Map pairs → slice ≡ pairs → w ≡ weigh value → w ≤ most
    → sum_by pair_weight slice + 1 ≤ most
map_light value node pairs slice w e f g h le =
    let one : weigh (P.Map slice) ≡ sum_by pair_weight slice + 1 = weigh_map slice in
    let same : weigh value ≡ weigh (P.Map slice) = ap weigh (map_of value node pairs slice e f g) in
    omega (arith, one, same, h, le)

pub map_flat : (value : Plain) (node : Node) (pairs slice : List (Plain × Plain)) (n : ℕ) → plain_of node ≡ value → node ≡ N.Map pairs → slice ≡ pairs → n ≡ nest value → n ≤ deepest
    → greatest_by pair_nest slice + 1 ≤ deepest
map_flat value node pairs slice n e f g h le =
    let one : nest (P.Map slice) ≡ greatest_by pair_nest slice + 1 = nest_map slice in
    let same : nest value ≡ nest (P.Map slice) = ap nest (map_of value node pairs slice e f g) in
    omega (arith, one, same, h, le)
