-- Selectors nested in each other (Sass): for each parent, each child. A child without `&` stands behind its parent and
-- white space, or by itself at the root; in any other each `&` is the parent, and in a pseudo's argument a selector
-- with `&` stands once for each parent.
use Rattle.std.specs.Prelude.{ℕ, ◌-◌, ◌*◌, List, [], ◌∷◌, ◌++◌, map, length, take, slice_get, Option, Some, None, Result, Ok, Err, Bool, true, false, not, ◌&&◌, ◌||◌, ◌==◌, nat_lt, if◌then◌else◌}
use Rattle.std.specs.List.{flat_map, list_any}
use denote.Bor.{Bor}
use Rattle.sw_selector.specs.declared.reader.TheConstants.{LEVELS, MOST_SELECTORS}
use Rattle.sw_selector.specs.declared.fault.SelectorFault.{SelectorFault}
use Rattle.sw_selector.specs.declared.fault.SelectorFault.TheVariants.{BadSelector, NoParent, TooLarge}
use Rattle.sw_selector.specs.declared.holds.Sought.TheVariants as soughts
use Rattle.sw_selector.specs.declared.selector.Combinator.{Combinator}
use Rattle.sw_selector.specs.declared.selector.Combinator.TheVariants as combinators
use Rattle.sw_selector.specs.declared.selector.Part.{Part, out-Part, roll-Part, fold-Part, para-Part}
use Rattle.sw_selector.specs.declared.selector.Part.TheVariants as parts
use Rattle.sw_selector.specs.declared.selector.Part.TheOpen.{Part-F}
use Rattle.sw_selector.specs.declared.parents.Ends.{Ends}
use Rattle.sw_selector.specs.declared.prepare.Prepared.{Prepared}
use Rattle.sw_selector.specs.Depth.{list_depth}
use Rattle.sw_selector.specs.Holds.{complex_holds, some_holds, is_reference, refers}
use Rattle.sw_selector.specs.Reading.{within_limit}

-- a combinator that is written with a sign
abbrev pub is_sign : Combinator → Bool
is_sign combinators.Descendant = false
is_sign _ = true

abbrev pub is_sign_by : Part-F Part → Bool
is_sign_by (Part-F.Combinator combinator) = is_sign combinator
is_sign_by _ = false

unfoldable pub is_sign_part : Part → Bool
is_sign_part part = is_sign_by (out-Part part)

abbrev pub is_space_by : Part-F Part → Bool
is_space_by (Part-F.Combinator combinator) = not (is_sign combinator)
is_space_by _ = false

-- white space between two compounds
unfoldable pub is_space_part : Part → Bool
is_space_part part = is_space_by (out-Part part)

abbrev pub has_name_by : Part-F Part → Bool
has_name_by (Part-F.Named name) = true
has_name_by (Part-F.Placeholder name) = true
has_name_by _ = false

-- it ends in a name, to which a suffix may be added
unfoldable pub has_name : Part → Bool
has_name part = has_name_by (out-Part part)

abbrev pub tested : (Part → Bool) → Option Part → Bool
tested test None = false
tested test (Some part) = test part

-- a combinator stands in front
unfoldable pub is_led : List Part → Bool
is_led complex = tested is_sign_part (slice_get complex 0)

unfoldable pub ends_in_name : List Part → Bool
ends_in_name complex = tested has_name (slice_get complex (length complex - 1))

unfoldable pub ends_in_space : List Part → Bool
ends_in_space complex = tested is_space_part (slice_get complex (length complex - 1))

abbrev pub ends_with : Ends → List Part → Ends
ends_with ends complex = record { named = ends.named && ends_in_name complex; led = ends.led || is_led complex }

-- whether all parents end in a name, and whether one has a combinator in front; with what is known of those before
abbrev pub ends_from : Ends → List (List Part) → Ends
ends_from ends [] = ends
ends_from ends (complex ∷ list) = ends_from (ends_with ends complex) list

unfoldable pub ends_of : List (List Part) → Ends
ends_of list = ends_from (record { named = true; led = false }) list

-- a combinator's sign stands before an `&`, where one stands before these parts or not; with what is in each part
abbrev pub parts_joined : Bool → List (Part × Bool) → Bool
parts_joined before [] = false
parts_joined before (x ∷ xs) = ((before && is_reference x.0) || x.1) || parts_joined (is_sign_part x.0) xs

abbrev pub joined_step : Part-F (Part × Bool) → Bool
joined_step (Part-F.Pseudo name selectors) = list_any (parts_joined false) selectors
joined_step _ = false

-- a combinator's sign stands before an `&` in a part
unfoldable pub part_joined : Part → Bool
part_joined = para-Part Bool joined_step

-- the part is an `&` behind a combinator's sign, or has one in it
abbrev pub joined_behind : Bool → Part → Bool
joined_behind before part = (before && is_reference part) || part_joined part

-- in a complex selector, before which a combinator's sign stands or not
abbrev pub complex_joined : Bool → List Part → Bool
complex_joined before [] = false
complex_joined before (part ∷ parts) = joined_behind before part || complex_joined (is_sign_part part) parts

abbrev pub some_joined : List (List Part) → Bool
some_joined = list_any (complex_joined false)

-- a child has a suffix that a parent can't take, or a combinator would stand beside another
abbrev pub misfits : List (List Part) → List (List Part) → Bool
misfits parents child =
    (not (ends_of parents).named && some_holds soughts.Suffix child) || ((ends_of parents).led && some_joined child)

-- more pseudos would stand in each other than may
abbrev pub too_deep : List (List Part) → List (List Part) → Bool
too_deep parents child = nat_lt LEVELS (list_depth (list_depth 0 parents) child)

abbrev pub suffixed_by : Part → List ℕ → Part-F Part → Part
suffixed_by part suffix (Part-F.Named name) = parts.Named (name ++ suffix)
suffixed_by part suffix (Part-F.Placeholder name) = parts.Placeholder (name ++ suffix)
suffixed_by part suffix _ = part

unfoldable pub suffixed_part : List ℕ → Part → Part
suffixed_part suffix part = suffixed_by part suffix (out-Part part)

abbrev pub last_suffixed : List ℕ → Option Part → List Part
last_suffixed suffix None = []
last_suffixed suffix (Some part) = suffixed_part suffix part ∷ []

-- the parent, with the suffix added to its last simple selector
unfoldable pub suffixed : List Part → List ℕ → List Part
suffixed parent suffix =
    if length suffix == 0
    then parent else take (length parent - 1) parent ++ last_suffixed suffix (slice_get parent (length parent - 1))

-- white space before a parent with a combinator in front is that combinator
unfoldable pub opened : List Part → List Part → List Part
opened parent before = if is_led parent && ends_in_space before then take (length before - 1) before else before

abbrev pub spliced_by : List Part → List Part → Part → Part-F Part → List Part
spliced_by parent before part (Part-F.Parent suffix) = opened parent before ++ suffixed parent suffix
spliced_by parent before part _ = before ++ part ∷ []

unfoldable pub part_spliced : List Part → List Part → Part → List Part
part_spliced parent before part = spliced_by parent before part (out-Part part)

-- each `&` is the parent; behind what is before
abbrev pub parts_spliced : List Part → List Part → List Part → List Part
parts_spliced parent before [] = before
parts_spliced parent before (part ∷ parts) = parts_spliced parent (part_spliced parent before part) parts

unfoldable pub spliced : List Part → List Part → List Part
spliced parent complex = parts_spliced parent [] complex

-- a selector of an argument: once for each parent where `&` stands in it, outside further pseudos
unfoldable pub inner_by : List (List Part) → Bool → List Part → List (List Part)
inner_by parents refers complex =
    if refers then map (λ (parent : List Part). spliced parent complex) parents else complex ∷ []

abbrev pub inner_of : List (List Part) → List Part → List (List Part)
inner_of parents complex = inner_by parents (refers complex) complex

-- each pseudo's argument is nested, the innermost first
abbrev pub prepare_step : List (List Part) → Part-F Part → Part
prepare_step parents (Part-F.Pseudo name selectors) = parts.Pseudo name (flat_map (inner_of parents) selectors)
prepare_step parents part = roll-Part part

unfoldable pub part_prepared : List (List Part) → Part → Part
part_prepared parents = fold-Part Part (prepare_step parents)

abbrev pub parts_prepared : List (List Part) → List Part → List Part
parts_prepared parents = map (part_prepared parents)

-- the selectors of an argument
abbrev pub inner_nested : List (List Part) → List (List Part) → List (List Part)
inner_nested parents = flat_map (λ (complex : List Part). inner_of parents (parts_prepared parents complex))

unfoldable pub prepared : List (List Part) → List Part → Prepared
prepared parents complex = record {
  refers = complex_holds soughts.Parent complex;
  parts = parts_prepared parents complex;
}

-- the child behind its parent
unfoldable pub descended : List Part → List Part → List Part
descended parent child =
    if is_led child then parent ++ child else (parent ++ parts.Combinator combinators.Descendant ∷ []) ++ child

unfoldable pub nested : Bool → List Part → Prepared → List Part
nested at_root parent child =
    if child.refers then spliced parent child.parts
    else (if at_root then child.parts
    else descended parent child.parts)

-- for each parent, each child
unfoldable pub all_nested : Bool → List (List Part) → List (List Part) → List (List Part)
all_nested at_root parents child =
    flat_map (λ (parent : List Part). map (nested at_root parent) (map (prepared parents) child)) parents

-- more than 10,000 complex selectors would come
abbrev pub too_many : List (List Part) → List (List Part) → Bool
too_many parents child = nat_lt MOST_SELECTORS (length parents * length child)

abbrev pub under_by : Bool → List (List Part) → List (List Part) → Result (List (List Part)) SelectorFault
under_by at_root parents child =
    if misfits parents child || too_deep parents child then Err BadSelector
    else (if too_many parents child then Err TooLarge
    else Ok (all_nested at_root parents child))

abbrev pub alone_by : List (List Part) → Result (List (List Part)) SelectorFault
alone_by child = if some_holds soughts.Parent child then Err NoParent else within_limit child

abbrev pub nest_by : Bool → Option (Bor (List (List Part))) → List (List Part) → Result (List (List Part)) SelectorFault
nest_by at_root None child = alone_by child
nest_by at_root (Some parents) child = under_by at_root parents.now child
