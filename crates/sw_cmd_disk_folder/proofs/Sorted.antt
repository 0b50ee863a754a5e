-- A sorted list, seen item by item as something else.
use Rattle.std.proofs.Common.{◌+◌, ◌<◌, List, [], ◌∷◌, map, length, arith}
use Rattle.std.proofs.lemmas.List.{get_or-map, length-map}
use Rattle.std.specs.declared.cmp.Ordering.{Ordering}
use Rattle.std.specs.List.Sorted.{IsSorted}

sorted_by : {X Y : Type 0} (f : X → Y) (cmp : Y → Y → Ordering) (xs : List X) (e : X) → IsSorted (λ a b. cmp (f a) (f b)) xs → IsSorted cmp (map f xs)
sorted_by f cmp xs e s k d low high =
    let h : k + 1 < length xs = omega (arith, length-map xs f) in
    let l : k < length xs = omega arith in
    rw (get_or-map f xs (k + 1) e d h, get_or-map f xs k e d l) (s k e low h)

pub sorted_map : {X Y : Type 0} (f : X → Y) (cmp : Y → Y → Ordering) (xs : List X) → IsSorted (λ a b. cmp (f a) (f b)) xs → IsSorted cmp (map f xs)
sorted_map f cmp [] s = λ k d low high. absurd (omega arith)
sorted_map f cmp (x ∷ xs) s = sorted_by f cmp (x ∷ xs) x s
