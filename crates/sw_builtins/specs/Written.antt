-- Calls of functions of colours that are written out as CSS, since an argument is for CSS (CSS Color Level 4, "Syntax";
-- Sass reference documentation, "Global Functions").
use Rattle.std.specs.Prelude.{◌≡◌, ◌<◌, ◌≤◌, ℕ, ◌==◌, nat_eq, nat_lt, Bool, true, false, not, ◌&&◌, ◌||◌, List, [], ◌∷◌, ◌++◌, length, codes, Result, Ok, Err, if◌then◌else◌}
use Rattle.std.specs.List.{list_any, starts_with}
use Rattle.sw_units.specs.declared.number.Number.{Number}
use Rattle.sw_units.specs.declared.number.Slash.{Slash, out-Slash}
use Rattle.sw_units.specs.declared.number.Slash.TheOpen.{Slash-F}
use Rattle.sw_values.specs.declared.plain.Plain.{Plain}
use Rattle.sw_values.specs.declared.plain.Plain.TheVariants as P
use Rattle.sw_values.specs.declared.plain.Separator.{Separator}
use Rattle.sw_values.specs.declared.plain.Separator.TheVariants as S
use Rattle.sw_values.specs.declared.value.Node.{Node}
use Rattle.sw_values.specs.declared.value.Node.TheVariants as N
use Rattle.sw_values.specs.Shape.{node_of}
use Rattle.sw_values.specs.Texts.{Shown, shown}
use Rattle.sw_values.specs.Weight.{most}
use Rattle.sw_fn_call.specs.declared.fault.FnFault.{FnFault}
use Rattle.sw_fn_call.specs.declared.fault.FnFault.TheVariants as F
use Rattle.sw_fn_call.specs.Answers.{Answer, with, within, count}

-- ---- special text

-- text of CSS that begins with a function whose value CSS computes
abbrev pub begins_special : List ℕ → Bool
begins_special text =
    starts_with nat_eq text (codes "var(") || starts_with nat_eq text (codes "calc(")
    || starts_with nat_eq text (codes "env(") || starts_with nat_eq text (codes "min(")
    || starts_with nat_eq text (codes "max(") || starts_with nat_eq text (codes "clamp(")

-- such text behind a `/`
abbrev pub special_behind_slash : List ℕ → Bool
special_behind_slash [] = false
special_behind_slash (c ∷ rest) = ((c == 47) && begins_special rest) || special_behind_slash rest

abbrev pub has_slash : List ℕ → Bool
has_slash text = list_any (λ c. c == 47) text

abbrev pub is_special_by : Node → Bool
is_special_by (N.Number _) = false
is_special_by (N.Text text quoted) = not quoted && begins_special text
is_special_by (N.Colour _) = false
is_special_by (N.List _ _ _) = false
is_special_by (N.Map _) = false
is_special_by (N.Bool _) = false
is_special_by N.Null = false
is_special_by (N.Args _ _) = false

-- an unquoted string of special text
unfoldable pub is_special : Plain → Bool
is_special value = is_special_by (node_of value)

abbrev pub is_special_item_by : Node → Bool
is_special_item_by (N.Number _) = false
is_special_item_by (N.Text text quoted) = not quoted && (begins_special text || special_behind_slash text)
is_special_item_by (N.Colour _) = false
is_special_item_by (N.List _ _ _) = false
is_special_item_by (N.Map _) = false
is_special_item_by (N.Bool _) = false
is_special_item_by N.Null = false
is_special_item_by (N.Args _ _) = false

-- an item of a list that is such text, or has it behind a `/`
unfoldable pub is_special_item : Plain → Bool
is_special_item value = is_special_item_by (node_of value)

abbrev pub has_special_by : Node → Bool
has_special_by (N.Number _) = false
has_special_by (N.Text text quoted) = not quoted && begins_special text
has_special_by (N.Colour _) = false
has_special_by (N.List items _ _) = list_any is_special_item items
has_special_by (N.Map _) = false
has_special_by (N.Bool _) = false
has_special_by N.Null = false
has_special_by (N.Args _ _) = false

-- such text, or a list with an item of it
unfoldable pub has_special : Plain → Bool
has_special value = has_special_by (node_of value)

-- ---- what is written for the channels in a list

abbrev pub is_slashed_by : Node → Bool
is_slashed_by (N.Number _) = false
is_slashed_by (N.Text text quoted) = not quoted && has_slash text
is_slashed_by (N.Colour _) = false
is_slashed_by (N.List _ _ _) = false
is_slashed_by (N.Map _) = false
is_slashed_by (N.Bool _) = false
is_slashed_by N.Null = false
is_slashed_by (N.Args _ _) = false

-- an unquoted string with a `/`
unfoldable pub is_slashed : Plain → Bool
is_slashed value = is_slashed_by (node_of value)

abbrev pub sides_by : Number → Slash-F Slash Number → List Plain
sides_by number Slash-F.Plain = P.Number number ∷ []
sides_by number (Slash-F.Sides sides) = P.Number sides.0 ∷ P.Number sides.1 ∷ []

abbrev pub last_parts_by : Plain → Node → List Plain
last_parts_by value (N.Number number) = sides_by number (out-Slash number.slash)
last_parts_by value (N.Text _ _) = value ∷ []
last_parts_by value (N.Colour _) = value ∷ []
last_parts_by value (N.List _ _ _) = value ∷ []
last_parts_by value (N.Map _) = value ∷ []
last_parts_by value (N.Bool _) = value ∷ []
last_parts_by value N.Null = value ∷ []
last_parts_by value (N.Args _ _) = value ∷ []

-- the two sides of a quotient that keeps them, or the value itself
unfoldable pub last_parts : Plain → List Plain
last_parts value = last_parts_by value (node_of value)

abbrev pub item_parts : Plain → List Plain → List Plain
item_parts whole (first ∷ second ∷ third ∷ []) =
    if is_slashed third then whole ∷ [] else first ∷ second ∷ last_parts third
item_parts whole _ = whole ∷ []

abbrev pub is_spaced : Separator → Bool
is_spaced S.Undecided = false
is_spaced S.Space = true
is_spaced S.Comma = false
is_spaced S.Slash = false

abbrev pub channel_parts_by : Plain → Node → List Plain
channel_parts_by whole (N.Number _) = whole ∷ []
channel_parts_by whole (N.Text _ _) = whole ∷ []
channel_parts_by whole (N.Colour _) = whole ∷ []
channel_parts_by whole (N.List items separator bracketed) =
    if is_spaced separator && not bracketed then item_parts whole items else whole ∷ []
channel_parts_by whole (N.Map _) = whole ∷ []
channel_parts_by whole (N.Bool _) = whole ∷ []
channel_parts_by whole N.Null = whole ∷ []
channel_parts_by whole (N.Args _ _) = whole ∷ []

-- the items of a space list of three without brackets, with the sides of the last one; else the value itself
unfoldable pub channel_parts : Plain → List Plain
channel_parts value = channel_parts_by value (node_of value)

abbrev pub colour_parts_by : Plain → Node → List Plain
colour_parts_by value (N.Number _) = value ∷ []
colour_parts_by value (N.Text _ _) = value ∷ []
colour_parts_by value (N.Colour colour) = count colour.red ∷ count colour.green ∷ count colour.blue ∷ []
colour_parts_by value (N.List _ _ _) = value ∷ []
colour_parts_by value (N.Map _) = value ∷ []
colour_parts_by value (N.Bool _) = value ∷ []
colour_parts_by value N.Null = value ∷ []
colour_parts_by value (N.Args _ _) = value ∷ []

-- the channels of a colour, or the value itself
unfoldable pub colour_parts : Plain → List Plain
colour_parts value = colour_parts_by value (node_of value)

-- ---- what is written

-- a value's text in CSS
abbrev pub css_of : Plain → Result (List ℕ) FnFault
css_of value =
    if (shown true value).css
    then (if nat_lt (length (shown true value).text) most then Ok (shown true value).text else Err F.TooLarge)
    else Err F.NotCss

-- a text, or why it isn't there
abbrev pub IsCssText : Result (List ℕ) FnFault → Shown → Type 0
IsCssText (Ok text) value = (text ≡ value.text) × (value.css ≡ true) × (length text < most)
IsCssText (Err F.TooLarge) value = (value.css ≡ true) × (most ≤ length value.text)
IsCssText (Err F.NotCss) value = value.css ≡ false
IsCssText (Err F.Memory) value = Unit {0}
IsCssText (Err _) value = ⊥

-- each text with a comma before it
unfoldable pub further : List Plain → Result (List ℕ) FnFault
further [] = Ok []
further (value ∷ values) =
    with (css_of value) (λ text. with (further values) (λ others. Ok (codes ", " ++ text ++ others)))

-- the texts with commas between them
unfoldable pub joined : List Plain → Result (List ℕ) FnFault
joined [] = Ok []
joined (value ∷ values) = with (css_of value) (λ text. with (further values) (λ others. Ok (text ++ others)))

-- a call of CSS with these arguments, as an unquoted string
abbrev pub written : List ℕ → List Plain → Answer
written name values = with (joined values) (λ text. within (P.Text (name ++ codes "(" ++ text ++ codes ")") false))
