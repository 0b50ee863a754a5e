-- Simple selectors that hold no other selectors.
use Rattle.std.specs.Prelude.{◌≡◌, ℕ, ◌+◌, ◌-◌, List, ◌++◌, Option, Some, None, Result, Ok, Err, Bool, ◌&&◌, ◌||◌, ◌==◌, nat_lt, codes, bytes_eq, if◌then◌else◌}
use Rattle.sw_text_scan.specs.declared.brackets.Stops.TheVariants as stops
use Rattle.sw_text_scan.specs.Bytes.{sign, byte}
use Rattle.sw_text_scan.specs.Runs.{begins_name}
use Rattle.sw_text_scan.specs.Pieces.{piece, trimmed_end}
use Rattle.sw_text_scan.specs.Brackets.{stop_at}
use Rattle.sw_selector.specs.declared.fault.SelectorFault.{SelectorFault}
use Rattle.sw_selector.specs.declared.fault.SelectorFault.TheVariants.{BadSelector, NoParent, TooLarge, Memory}
use Rattle.sw_selector.specs.declared.selector.Part.{Part}
use Rattle.sw_selector.specs.declared.selector.Part.TheVariants as parts
use Rattle.sw_selector.specs.Attributes.{prefix_end, attribute_end}
use Rattle.sw_text_locality.specs.Names.{white, name_end, name_text}

-- what was read is what the definition says, and nothing was read exactly where it says none, or for want of memory
abbrev pub IsRead : {T : Type 0} → Result T SelectorFault → Option T → Type 0
IsRead (Ok value) said = said ≡ Some value
IsRead (Err BadSelector) said = said ≡ None
IsRead (Err Memory) said = Unit {0}
IsRead (Err NoParent) said = ⊥
IsRead (Err TooLarge) said = ⊥

-- what stands from i on up to behind the name that begins at j, and where that ends
unfoldable pub text_at : List ℕ → ℕ → ℕ → Option (List ℕ × ℕ)
text_at bs i j = if begins_name bs j then Some (name_text bs i j (name_end bs j), name_end bs j) else None

abbrev pub as_part : (List ℕ → Part) → Option (List ℕ × ℕ) → Option (Part × ℕ)
as_part kind None = None
as_part kind (Some x) = Some (kind x.0, x.1)

-- a class or an id: the name begins behind one sign
abbrev pub class_at : List ℕ → ℕ → Option (Part × ℕ)
class_at bs i = as_part parts.Named (text_at bs i (i + 1))

abbrev pub placeholder_at : List ℕ → ℕ → Option (Part × ℕ)
placeholder_at bs i = as_part parts.Placeholder (text_at bs i (i + 1))

-- a type, or `*`, behind a namespace prefix that ends at j
unfoldable pub type_behind : List ℕ → ℕ → ℕ → Option (Part × ℕ)
type_behind bs i j =
    if byte bs j == sign "*"
    then Some (parts.Closed (piece bs i (j + 1)), j + 1) else as_part parts.Named (text_at bs i j)

abbrev pub type_at : List ℕ → ℕ → Option (Part × ℕ)
type_at bs i = type_behind bs i (prefix_end bs i)

abbrev pub attribute_by : List ℕ → ℕ → Option ℕ → Option (Part × ℕ)
attribute_by bs i None = None
attribute_by bs i (Some j) = Some (parts.Closed (piece bs i j), j)

abbrev pub attribute_at : List ℕ → ℕ → Option (Part × ℕ)
attribute_at bs i = attribute_by bs i (attribute_end bs i)

-- `&` with the name characters behind it
unfoldable pub parent_at : List ℕ → ℕ → Option (Part × ℕ)
parent_at bs i = Some (parts.Parent (name_text bs (i + 1) (i + 1) (name_end bs (i + 1))), name_end bs (i + 1))

abbrev pub takes_list : List ℕ → Bool
takes_list name =
    bytes_eq name (codes ":not")
    || (bytes_eq name (codes ":is")
    || (bytes_eq name (codes ":where") || (bytes_eq name (codes ":has") || bytes_eq name (codes ":matches"))))

abbrev pub takes_scope : List ℕ → Bool
takes_scope name =
    bytes_eq name (codes ":any")
    || (bytes_eq name (codes ":current")
    || (bytes_eq name (codes ":host") || (bytes_eq name (codes ":host-context") || bytes_eq name (codes "::slotted"))))

-- the pseudos whose arguments are selectors
unfoldable pub takes_selectors : List ℕ → Bool
takes_selectors name = takes_list name || takes_scope name

-- a pseudo with its argument
abbrev pub with_argument : List ℕ → List ℕ → List ℕ
with_argument name argument = name ++ codes "(" ++ argument ++ codes ")"

-- where an argument from i up to j ends without the white space behind it, but for one behind a `\`
unfoldable pub argument_end : List ℕ → ℕ → ℕ → ℕ
argument_end bs i j =
    if (byte bs (trimmed_end bs i j - 1) == sign "\\") && nat_lt (trimmed_end bs i j) j
    then trimmed_end bs i j + 1 else trimmed_end bs i j

-- the argument from i up to j without the white space around it
abbrev pub argument_text : List ℕ → ℕ → ℕ → List ℕ
argument_text bs i j = piece bs (white bs i) (argument_end bs (white bs i) j)

-- another argument is any text that isn't blank and whose strings and brackets are closed
unfoldable pub raw_by : List ℕ → List ℕ → ℕ → Option ℕ → Option (Part × ℕ)
raw_by bs name i None = None
raw_by bs name i (Some j) =
    if (byte bs j == sign ")") && nat_lt (white bs i) j
    then Some (parts.Closed (with_argument name (argument_text bs i j)), j + 1) else None

abbrev pub raw_at : List ℕ → List ℕ → ℕ → Option (Part × ℕ)
raw_at bs name i = raw_by bs name i (stop_at stops.Argument bs i)

-- where the name of the pseudo begins whose first colon stands at i
abbrev pub colons_end : List ℕ → ℕ → ℕ
colons_end bs i = if byte bs (i + 1) == sign ":" then i + 2 else i + 1
