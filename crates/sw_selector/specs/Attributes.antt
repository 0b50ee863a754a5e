-- Where attribute selectors and namespace prefixes end (Selectors Level 4). A modifier is one letter.
use Rattle.std.specs.Prelude.{ℕ, ◌+◌, List, Option, Some, None, Bool, not, ◌&&◌, ◌||◌, ◌==◌, if◌then◌else◌}
use Rattle.sw_text_scan.specs.declared.runs.Class.TheVariants as classes
use Rattle.sw_text_scan.specs.Bytes.{sign, is_quote, byte, is_letter}
use Rattle.sw_text_locality.specs.Names.{white, name_end}
use Rattle.sw_text_scan.specs.Runs.{run_end, begins_name}
use Rattle.sw_text_scan.specs.Brackets.{string_end}

-- behind `*` or a name, if one stands there
abbrev pub word_end : List ℕ → ℕ → ℕ
word_end bs i = if byte bs i == sign "*" then i + 1 else (if begins_name bs i then name_end bs i else i)

-- behind a namespace prefix, if one stands there: `name|`, `*|` or `|`, but not the operator `|=`
unfoldable pub prefix_end : List ℕ → ℕ → ℕ
prefix_end bs i =
    if (byte bs (word_end bs i) == sign "|") && not (byte bs (word_end bs i + 1) == sign "=")
    then word_end bs i + 1 else i

-- ~ | ^ $ *
abbrev pub is_operator_sign : ℕ → Bool
is_operator_sign b = (b == sign "~") || ((b == sign "|") || ((b == sign "^") || ((b == sign "$") || (b == sign "*"))))

unfoldable pub operator_end : List ℕ → ℕ → Option ℕ
operator_end bs i =
    if byte bs i == sign "=" then Some (i + 1)
    else (if is_operator_sign (byte bs i) && (byte bs (i + 1) == sign "=") then Some (i + 2) else None)

-- a string or a name
unfoldable pub value_end : List ℕ → ℕ → Option ℕ
value_end bs i =
    if is_quote (byte bs i) then string_end bs (byte bs i) i
    else (if begins_name bs i then Some (name_end bs i) else None)

abbrev pub bracket_end : List ℕ → ℕ → Option ℕ
bracket_end bs i = if byte bs i == sign "]" then Some (i + 1) else None

-- from behind the value and white space on
unfoldable pub modifier_end : List ℕ → ℕ → Option ℕ
modifier_end bs i = if is_letter (byte bs i) then bracket_end bs (white bs (i + 1)) else bracket_end bs i

abbrev pub valued_end : List ℕ → Option ℕ → Option ℕ
valued_end bs None = None
valued_end bs (Some j) = modifier_end bs (white bs j)

abbrev pub operated_end : List ℕ → Option ℕ → Option ℕ
operated_end bs None = None
operated_end bs (Some j) = valued_end bs (value_end bs (white bs j))

-- from behind the name and white space on
unfoldable pub matched_end : List ℕ → ℕ → Option ℕ
matched_end bs i = if byte bs i == sign "]" then Some (i + 1) else operated_end bs (operator_end bs i)

abbrev pub named_end : List ℕ → ℕ → Option ℕ
named_end bs i = if begins_name bs i then matched_end bs (white bs (name_end bs i)) else None

-- behind the attribute selector that begins with the bracket at i, if it is one
unfoldable pub attribute_end : List ℕ → ℕ → Option ℕ
attribute_end bs i = named_end bs (prefix_end bs (white bs (i + 1)))
