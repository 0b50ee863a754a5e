-- What stands in selectors, also inside pseudos.
use Rattle.std.specs.Prelude.{ℕ, ◌==◌, length, List, Bool, true, false, not}
use Rattle.std.specs.List.{list_any}
use Rattle.sw_selector.specs.declared.holds.Sought.{Sought}
use Rattle.sw_selector.specs.declared.holds.Sought.TheVariants as soughts
use Rattle.sw_selector.specs.declared.selector.Part.{Part, out-Part, fold-Part}
use Rattle.sw_selector.specs.declared.selector.Part.TheOpen.{Part-F}

-- an `&` with this suffix
abbrev pub is_parent : Sought → List ℕ → Bool
is_parent soughts.Parent suffix = true
is_parent soughts.Suffix suffix = not (length suffix == 0)
is_parent soughts.Placeholder suffix = false

abbrev pub is_placeholder : Sought → Bool
is_placeholder soughts.Placeholder = true
is_placeholder _ = false

abbrev pub has_step : Sought → Part-F Bool → Bool
has_step sought (Part-F.Parent suffix) = is_parent sought suffix
has_step sought (Part-F.Placeholder name) = is_placeholder sought
has_step sought (Part-F.Pseudo name selectors) = list_any (list_any (λ has. has)) selectors
has_step sought _ = false

unfoldable pub part_has : Sought → Part → Bool
part_has sought = fold-Part Bool (has_step sought)

-- in a complex selector
abbrev pub complex_holds : Sought → List Part → Bool
complex_holds sought = list_any (part_has sought)

-- in one of these
abbrev pub some_holds : Sought → List (List Part) → Bool
some_holds sought = list_any (complex_holds sought)

abbrev pub is_reference_by : Part-F Part → Bool
is_reference_by (Part-F.Parent suffix) = true
is_reference_by _ = false

-- an `&`
unfoldable pub is_reference : Part → Bool
is_reference part = is_reference_by (out-Part part)

-- `&` stands in a complex selector outside pseudos
abbrev pub refers : List Part → Bool
refers = list_any is_reference
