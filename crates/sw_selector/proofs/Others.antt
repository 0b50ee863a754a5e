-- What is written, by what is left out.
use Rattle.std.proofs.Common.{◌≡◌, Bool, true, false, not, cond, List, [], ◌∷◌, ◌++◌, refl, ap}
use Rattle.std.specs.Prelude.{if◌then◌else◌}
use Rattle.std.specs.List.{filter}
use Rattle.sw_selector.specs.declared.holds.Sought.TheVariants as soughts
use Rattle.sw_selector.specs.declared.selector.Part.{Part}
use Rattle.sw_selector.specs.Holds.{complex_holds}
use Rattle.sw_selector.specs.Writing.{separator, parts_text, list_text, written}
use Rattle.sw_selector.specs.Laws.{is_shown, WritesOthers}

others : (first : Bool) (list : List (List Part)) → written first list ≡ list_text first (filter is_shown list)
others first [] = refl
others first (complex ∷ list) = go (complex_holds soughts.Placeholder complex) (others first list) (others false list)
  where
    go : (hidden : Bool) → written first list ≡ list_text first (filter is_shown list) → written false list ≡ list_text false (filter is_shown list)
        → (if hidden then written first list else (separator first ++ parts_text true complex) ++ written false list)
        ≡ list_text first (cond (not hidden) (complex ∷ filter is_shown list) (filter is_shown list))
    go true here behind = here
    go false here behind = ap (λ text. (separator first ++ parts_text true complex) ++ text) behind

pub writes_others : (list : List (List Part)) → WritesOthers list
writes_others list = others true list
