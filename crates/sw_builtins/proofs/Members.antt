-- The rows at places.
use Rattle.std.proofs.Common.{◌≡◌, ◌≤◌, ◌<◌, ℕ, List, Bor, map, length, get_or, Some, None, sym, ap, ◌∙◌}
use Rattle.std.specs.Option.{option_map}
use Rattle.std.proofs.lemmas.Option.{slice_get-map, slice_get_past, slice_get-get_or}
use Rattle.sw_tree.specs.declared.callable.Kind.{Kind}
use Rattle.sw_builtins.specs.declared.built_in.Found.{Found}
use Rattle.sw_builtins.specs.Tables.{Row, member_in, kind_and_name}

abbrev pub Texts : Type 0
Texts = Bor (List ℕ) × Kind × Found

abbrev pub seen : Texts → Row
seen row = (row.0.now, row.1, row.2)

pub member_past : (rows : List Texts) (at : ℕ) → length rows ≤ at → member_in (map seen rows) at ≡ None
member_past rows at past = ap (option_map kind_and_name) (slice_get-map seen rows at ∙ ap (option_map seen) (slice_get_past rows at past))

pub member_within : (rows : List Texts) (at : ℕ) (row : Texts) → at < length rows → row ≡ get_or rows at row
    → member_in (map seen rows) at ≡ Some (row.1, row.0.now)
member_within rows at row within is =
    ap (option_map kind_and_name)
    (slice_get-map seen rows at ∙ ap (option_map seen) (slice_get-get_or rows at row within ∙ ap Some (sym is)))
