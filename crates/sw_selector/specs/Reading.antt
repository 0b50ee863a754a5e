-- What selectors a text is (Selectors Level 4 and Sass): complex selectors joined by commas. Neighbouring commas count
-- as one and one at the end as none; in a pseudo's argument each comma counts. A combinator may stand in front of a
-- complex selector, and none at its end.
use Rattle.std.specs.Prelude.{◌≡◌, ℕ, zero, suc, ◌+◌, List, [], ◌∷◌, ◌++◌, length, Option, Some, None, Result, Ok, Err, Bool, true, false, ◌&&◌, ◌||◌, ◌==◌, nat_lt, if◌then◌else◌}
use Rattle.sw_text_scan.specs.declared.signs.TheConstants.{END}
use Rattle.sw_text_scan.specs.declared.runs.Class.TheVariants as classes
use Rattle.sw_text_scan.specs.Bytes.{sign, byte}
use Rattle.sw_text_scan.specs.Runs.{run_end, begins_name}
use Rattle.sw_selector.specs.declared.reader.TheConstants.{LEVELS, MOST_SELECTORS}
use Rattle.sw_selector.specs.declared.fault.SelectorFault.{SelectorFault}
use Rattle.sw_selector.specs.declared.fault.SelectorFault.TheVariants.{BadSelector, NoParent, TooLarge, Memory}
use Rattle.sw_selector.specs.declared.selector.Part.{Part}
use Rattle.sw_selector.specs.declared.selector.Part.TheVariants as parts
use Rattle.sw_selector.specs.declared.selector.Combinator.{Combinator}
use Rattle.sw_selector.specs.declared.selector.Combinator.TheVariants as combinators
use Rattle.sw_selector.specs.declared.selector.Selectors.{Selectors}
use Rattle.sw_selector.specs.declared.turn.Before.{Before}
use Rattle.sw_selector.specs.declared.turn.Before.TheVariants as befores
use Rattle.sw_selector.specs.declared.turn.Turn.{Turn}
use Rattle.sw_selector.specs.declared.turn.Turn.TheVariants as turns
use Rattle.sw_text_locality.specs.Names.{white, name_end, name_text}
use Rattle.sw_selector.specs.Simples.{class_at, placeholder_at, attribute_at, type_at, parent_at, takes_selectors, raw_at, colons_end}

-- complex selectors and the place behind them, from a place on
abbrev pub Lists : Type 0
Lists = ℕ → Option (List (List Part) × ℕ)

-- a pseudo with these selectors as its argument
unfoldable pub closed_by : List ℕ → List ℕ → Option (List (List Part) × ℕ) → Option (Part × ℕ)
closed_by bs name None = None
closed_by bs name (Some x) = if byte bs x.1 == sign ")" then Some (parts.Pseudo name x.0, x.1 + 1) else None

-- the argument of the pseudo with this name, from i on
unfoldable pub argument_at : Lists → List ℕ → List ℕ → ℕ → Option (Part × ℕ)
argument_at deeper bs name i = if takes_selectors name then closed_by bs name (deeper i) else raw_at bs name i

-- a pseudo with this name, which ends at i
unfoldable pub pseudo_behind : Lists → List ℕ → List ℕ → ℕ → Option (Part × ℕ)
pseudo_behind deeper bs name i =
    if byte bs i == sign "(" then argument_at deeper bs name (i + 1) else Some (parts.Named name, i)

unfoldable pub pseudo_at : Lists → List ℕ → ℕ → Option (Part × ℕ)
pseudo_at deeper bs i =
    if begins_name bs (colons_end bs i)
    then pseudo_behind deeper bs (name_text bs i (colons_end bs i) (name_end bs (colons_end bs i)))
    (name_end bs (colons_end bs i)) else None

abbrev pub is_simple : Before → Bool
is_simple befores.Simple = true
is_simple _ = false

abbrev pub is_joined : Before → Bool
is_joined befores.Combinator = true
is_joined _ = false

-- what only begins a compound: `&`, or a type
unfoldable pub head_at : List ℕ → Before → ℕ → Option (Part × ℕ)
head_at bs before i =
    if is_simple before then None else (if byte bs i == sign "&" then parent_at bs i else type_at bs i)

-- a simple selector
unfoldable pub simple_at : Lists → List ℕ → Before → ℕ → Option (Part × ℕ)
simple_at deeper bs before i =
    if (byte bs i == sign ".") || (byte bs i == sign "#") then class_at bs i
    else (if byte bs i == sign "%" then placeholder_at bs i
    else (if byte bs i == sign "[" then attribute_at bs i
    else (if byte bs i == sign ":" then pseudo_at deeper bs i
    else head_at bs before i)))

abbrev pub combinator_of : ℕ → Option Combinator
combinator_of b =
    if b == sign ">" then Some combinators.Child
    else (if b == sign "+" then Some combinators.Next
    else (if b == sign "~" then Some combinators.Subsequent
    else None))

-- the end of the text, a comma, or the end of an argument
abbrev pub ends_complex : ℕ → Bool
ends_complex b = (b == END) || ((b == sign ",") || (b == sign ")"))

abbrev pub simple_turn : Option (Part × ℕ) → Option Turn
simple_turn None = None
simple_turn (Some x) = Some (turns.Takes x.0 befores.Simple x.1)

-- at a place behind white space, which is before it or not, where no combinator is written
unfoldable pub plain_turn : Lists → List ℕ → Before → Bool → ℕ → Option Turn
plain_turn deeper bs before spaced i =
    if spaced && is_simple before then Some (turns.Takes (parts.Combinator combinators.Descendant) befores.Combinator i)
    else simple_turn (simple_at deeper bs before i)

abbrev pub combinator_turn : Before → Combinator → ℕ → Option Turn
combinator_turn before combinator i =
    if is_joined before then None else Some (turns.Takes (parts.Combinator combinator) befores.Combinator (i + 1))

abbrev pub joined_turn : Lists → List ℕ → Before → Bool → ℕ → Option Combinator → Option Turn
joined_turn deeper bs before spaced i None = plain_turn deeper bs before spaced i
joined_turn deeper bs before spaced i (Some combinator) = combinator_turn before combinator i

abbrev pub last_turn : Before → ℕ → Option Turn
last_turn before i = if is_simple before then Some (turns.Stops i) else None

unfoldable pub spaced_turn : Lists → List ℕ → Before → Bool → ℕ → Option Turn
spaced_turn deeper bs before spaced i =
    if ends_complex (byte bs i)
    then last_turn before i else joined_turn deeper bs before spaced i (combinator_of (byte bs i))

-- one more part of a complex selector from i on, or its end
abbrev pub turn_at : Lists → List ℕ → Before → ℕ → Option Turn
turn_at deeper bs before i = spaced_turn deeper bs before (nat_lt i (white bs i)) (white bs i)

abbrev pub complex_by : (Before → List Part → ℕ → Option (List Part × ℕ)) → List Part → Option Turn
    → Option (List Part × ℕ)
complex_by on parts None = None
complex_by on parts (Some (turns.Stops j)) = Some (parts, j)
complex_by on parts (Some (turns.Takes part before j)) = on before (parts ++ part ∷ []) j

-- in n turns, with these parts before
abbrev pub complex_from : Lists → List ℕ → ℕ → Before → List Part → ℕ → Option (List Part × ℕ)
complex_from deeper bs zero before parts i = None
complex_from deeper bs (suc n) before parts i = complex_by (complex_from deeper bs n) parts (turn_at deeper bs before i)

-- a complex selector, from i on: each turn but the last takes at least one byte
unfoldable pub complex_at : Lists → List ℕ → ℕ → Option (List Part × ℕ)
complex_at deeper bs i = complex_from deeper bs (length bs + 1) befores.Nothing [] i

abbrev pub list_by : (List (List Part) → Lists) → List ℕ → List (List Part) → Option (List Part × ℕ)
    → Option (List (List Part) × ℕ)
list_by on bs list None = None
list_by on bs list (Some x) =
    if byte bs x.1 == sign "," then on (list ++ x.0 ∷ []) (x.1 + 1) else Some (list ++ x.0 ∷ [], x.1)

-- at most n complex selectors, with these before
abbrev pub list_from : Lists → List ℕ → ℕ → List (List Part) → Lists
list_from deeper bs zero list i = None
list_from deeper bs (suc n) list i = list_by (list_from deeper bs n) bs list (complex_at deeper bs i)

unfoldable pub list_at : Lists → List ℕ → Lists
list_at deeper bs i = list_from deeper bs (length bs + 1) [] i

-- the selectors of an argument from i on, in which at most so many pseudos with selectors stand in each other, this one
-- counted
abbrev pub selectors_in : List ℕ → ℕ → Lists
selectors_in bs zero i = None
selectors_in bs (suc levels) i = list_at (selectors_in bs levels) bs i

abbrev pub commas_end : List ℕ → ℕ → ℕ
commas_end bs i = run_end classes.Commas bs i

abbrev pub whole_by : (List (List Part) → ℕ → Option (List (List Part))) → List ℕ → List (List Part)
    → Option (List Part × ℕ) → Option (List (List Part))
whole_by on bs list None = None
whole_by on bs list (Some x) =
    if byte bs (commas_end bs x.1) == END then Some (list ++ x.0 ∷ [])
    else (if byte bs x.1 == sign "," then on (list ++ x.0 ∷ []) (commas_end bs x.1) else None)

abbrev pub whole_from : Lists → List ℕ → ℕ → List (List Part) → ℕ → Option (List (List Part))
whole_from deeper bs zero list i = None
whole_from deeper bs (suc n) list i = whole_by (whole_from deeper bs n) bs list (complex_at deeper bs i)

-- the complex selectors of a text, in which at most so many pseudos with selectors stand in each other
unfoldable pub complexes_of : List ℕ → ℕ → Option (List (List Part))
complexes_of bs levels = whole_from (selectors_in bs levels) bs (length bs + 1) [] 0

-- at most 10,000 complex selectors
abbrev pub within_limit : List (List Part) → Result (List (List Part)) SelectorFault
within_limit list = if nat_lt MOST_SELECTORS (length list) then Err TooLarge else Ok list

abbrev pub limited : Option (List (List Part)) → Result (List (List Part)) SelectorFault
limited None = Err BadSelector
limited (Some list) = within_limit list

-- the selectors of a text, or why it has none
unfoldable pub selectors_of : List ℕ → Result (List (List Part)) SelectorFault
selectors_of bs = limited (complexes_of bs LEVELS)

-- these are the selectors, or this is why there are none; or no memory was found
abbrev pub IsAnswer : Result Selectors SelectorFault → Result (List (List Part)) SelectorFault → Type 0
IsAnswer (Ok selectors) said = said ≡ Ok selectors
IsAnswer (Err Memory) said = Unit {0}
IsAnswer (Err BadSelector) said = said ≡ Err BadSelector
IsAnswer (Err NoParent) said = said ≡ Err NoParent
IsAnswer (Err TooLarge) said = said ≡ Err TooLarge
