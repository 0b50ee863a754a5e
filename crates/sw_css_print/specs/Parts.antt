-- What is kept of each output, and how the page is joined of it (this project's own).
use Rattle.std.specs.Prelude.{◌≡◌, ℕ, Bool, false, ◌||◌, nat_lt, if◌then◌else◌, List, [], ◌∷◌, ◌++◌, length, map, Option, Some, None}
use Rattle.std.specs.List.{list_any, flat_map}
use Rattle.sw_css_tree.specs.Output.{Output}
use Rattle.sw_css_print.specs.declared.part.Printed.{Printed}
use Rattle.sw_css_print.specs.Page.{Group, groups_of, imports_text, page, past_ascii, gap, charset, print}

-- whether the first group is a comment
abbrev pub opens_of : List Group → Bool
opens_of [] = false
opens_of (group ∷ groups) = group.comment

-- whether the last of the groups after this one is a comment
abbrev pub shuts_after : Bool → List Group → Bool
shuts_after comment [] = comment
shuts_after comment (group ∷ groups) = shuts_after group.comment groups

abbrev pub shuts_of : List Group → Bool
shuts_of groups = shuts_after false groups

abbrev pub print_one : Output → Printed
print_one out = record {
  imports = imports_text out.imports;
  rest = page (groups_of out);
  opens = opens_of (groups_of out);
  shuts = shuts_of (groups_of out);
  wide = past_ascii (imports_text out.imports) || past_ascii (page (groups_of out));
}

-- the parts after what was written, of which is told whether its last group is a comment; an empty part gives nothing
abbrev pub rests_after : Option Bool → List Printed → List ℕ
rests_after last [] = []
rests_after last (part ∷ parts) =
    if nat_lt 0 (length part.rest)
    then gap last part.opens ++ part.rest ++ rests_after (Some part.shuts) parts
    else rests_after last parts

-- what is told of so many bytes of imports: they aren't a comment
abbrev pub after_imports : ℕ → Option Bool
after_imports size = if nat_lt 0 size then Some false else None

-- the imports of all, then the rest of all
abbrev pub body_joined : List Printed → List ℕ
body_joined parts =
    let imports : List ℕ = flat_map (λ part. part.imports) parts in
    imports ++ rests_after (after_imports (length imports)) parts

abbrev pub join : List Printed → List ℕ
join parts = charset (list_any (λ part. part.wide) parts) ++ body_joined parts

-- joining the parts of outputs gives their page
abbrev pub JoinIsPrint : Type 0
JoinIsPrint = (outputs : List Output) → join (map print_one outputs) ≡ print outputs
