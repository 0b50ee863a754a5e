-- How deep pseudos with selectors stand in each other.
use Rattle.std.specs.Prelude.{ℕ, ◌+◌, max, List, [], ◌∷◌}
use Rattle.sw_selector.specs.declared.selector.Part.{Part, fold-Part}
use Rattle.sw_selector.specs.declared.selector.Part.TheOpen.{Part-F}

-- the greatest number of these, and 0 where there is none
abbrev pub greatest_by : {A : Type 0} → (A → ℕ) → List A → ℕ
greatest_by f [] = 0
greatest_by f (x ∷ xs) = max (f x) (greatest_by f xs)

-- a pseudo is one deeper than its selectors, and `&` as deep as what stands for it
abbrev pub depth_step : ℕ → Part-F ℕ → ℕ
depth_step under (Part-F.Parent suffix) = under
depth_step under (Part-F.Pseudo name selectors) = greatest_by (greatest_by (λ n. n)) selectors + 1
depth_step under _ = 0

unfoldable pub part_depth : ℕ → Part → ℕ
part_depth under = fold-Part ℕ (depth_step under)

abbrev pub complex_depth : ℕ → List Part → ℕ
complex_depth under = greatest_by (part_depth under)

-- of complex selectors, where so deep a parent stands for each `&`
abbrev pub list_depth : ℕ → List (List Part) → ℕ
list_depth under = greatest_by (complex_depth under)
