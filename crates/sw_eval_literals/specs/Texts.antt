-- The texts of values (the Sass specification on interpolation; how a value is written in CSS and in messages is told
-- with values).
use Rattle.std.specs.Prelude.{ℕ, Bool, true, false, not, ◌&&◌, nat_lt, if◌then◌else◌, List, [], ◌∷◌, ◌++◌, length, Option, Some, None, Ok}
use Rattle.sw_text.specs.declared.fault.FaultCode.TheVariants as C
use Rattle.sw_text.specs.declared.place.Span.{Span}
use Rattle.sw_values.specs.declared.plain.Plain.{Plain}
use Rattle.sw_values.specs.declared.value.Node.{Node}
use Rattle.sw_values.specs.declared.value.Node.TheVariants as N
use Rattle.sw_values.specs.Shape.{node_of}
use Rattle.sw_values.specs.Texts.{Shown, shown}
use Rattle.sw_values.specs.Inspected.{said}
use Rattle.sw_values.specs.Weight.{most}
use Rattle.sw_eval_literals.specs.Answers.{Answer, refused, with}

-- a text, unless it is too long for a string
abbrev pub short : List ℕ → Span → Answer (List ℕ)
short text span = if nat_lt (length text) most then Ok text else refused C.TooLarge span

abbrev pub css_by : Shown → Span → Answer (List ℕ)
css_by value span = if value.css then short value.text span else refused C.NotCss span

-- a value's text in CSS, with quotes or without them, as values in selectors, names and raw texts have it
unfoldable pub css_text : Bool → Plain → Span → Answer (List ℕ)
css_text quotes value span = css_by (shown quotes value) span

-- a string's own text, or else another one
abbrev pub own_or : Answer (List ℕ) → Node → Answer (List ℕ)
own_or other (N.Text text quoted) = Ok text
own_or other (N.Number _) = other
own_or other (N.Colour _) = other
own_or other (N.List _ _ _) = other
own_or other (N.Map _) = other
own_or other (N.Bool _) = other
own_or other N.Null = other
own_or other (N.Args _ _) = other

-- a value in a quoted string, a word or a url of an expression
unfoldable pub inserted : Plain → Span → Answer (List ℕ)
inserted value span = own_or (css_text false value span) (node_of value)

-- a value in a message
unfoldable pub message : Plain → Span → Answer (List ℕ)
message value span = own_or (short (said value).text span) (node_of value)

-- ---- texts with values in them

abbrev pub all_pieces : List (List ℕ) → List ℕ
all_pieces [] = []
all_pieces (piece ∷ pieces) = piece ++ all_pieces pieces

-- the pieces behind one another
unfoldable pub joined : List (List ℕ) → Span → Answer (List ℕ)
joined pieces span = short (all_pieces pieces) span

-- ---- declarations

abbrev pub is_blank : Plain → Bool
is_blank value = (shown true value).blank

abbrev pub all_blank : List Plain → Bool
all_blank [] = true
all_blank (item ∷ items) = is_blank item && all_blank items

abbrev pub blank_list : Bool → List Plain → Bool
blank_list bracketed [] = false
blank_list bracketed (item ∷ items) = not bracketed && all_blank (item ∷ items)

abbrev pub void_by : Plain → Node → Bool
void_by value (N.List items separator bracketed) = blank_list bracketed items
void_by value (N.Args items named) = blank_list false items
void_by value (N.Number _) = is_blank value
void_by value (N.Text _ _) = is_blank value
void_by value (N.Colour _) = is_blank value
void_by value (N.Map _) = is_blank value
void_by value (N.Bool _) = is_blank value
void_by value N.Null = is_blank value

-- a declaration isn't written where its value is null, an empty unquoted string, or a list without brackets of one or
-- more such
unfoldable pub is_written : Plain → Bool
is_written value = not (void_by value (node_of value))

-- what a declaration writes, if anything
unfoldable pub declaration_text : Plain → Span → Answer (Option (List ℕ))
declaration_text value span = if is_written value then with (css_text true value span) (λ text. Ok (Some text)) else Ok None
