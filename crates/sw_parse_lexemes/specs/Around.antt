-- Where text is read and where values are, told of each lexeme by what is open around it and by how its statement begins.
use Rattle.std.specs.Prelude.{◌≡◌, ℕ, ◌+◌, Bool, true, false, if◌then◌else◌, List, [], ◌∷◌, Option, Some, None}
use Rattle.sw_parse_terminals.specs.declared.terminal.Terminal.{Terminal}
use Rattle.sw_parse_terminals.specs.declared.terminal.Terminal.TheVariants as terminals
use Rattle.sw_parse_terminals.specs.declared.lexeme.Lexeme.{Lexeme}
use Rattle.sw_tokens.specs.declared.token.Token.{Token}
use Rattle.sw_parse_lexemes.specs.declared.sort.Sort.{Sort}
use Rattle.sw_parse_lexemes.specs.declared.sort.Sort.TheVariants as sorts
use Rattle.sw_parse_lexemes.specs.declared.plain.Plain.{Plain}
use Rattle.sw_parse_lexemes.specs.declared.state.Mode.{Mode}
use Rattle.sw_parse_lexemes.specs.declared.state.Mode.TheVariants as modes
use Rattle.sw_parse_lexemes.specs.declared.state.Bracket.{Bracket}
use Rattle.sw_parse_lexemes.specs.Classes.{same}
use Rattle.sw_parse_lexemes.specs.Ahead.{sort_at, code_from}
use Rattle.sw_parse_lexemes.specs.Plains.{plains_of}
use Rattle.sw_parse_lexemes.specs.Modes.{statement_mode}
use Rattle.sw_parse_lexemes.specs.Names.{is}
use Rattle.sw_parse_lexemes.specs.Signs.{is_text}
use Rattle.sw_parse_lexemes.specs.Steps.{opened_by, closes, begins_statement}
use Rattle.sw_parse_lexemes.specs.Lexemes.{lexemes_of}

-- whether text is read in a statement that is read so, or none of both: the name of a custom property
abbrev pub text_in : Mode → Option Bool
text_in modes.CustomName = None
text_in mode = Some (is_text mode)

-- inside what a terminal opens: text in the parentheses of a text, what is around them in its other brackets, and values
-- in all else
abbrev pub text_inside : Option Bool → Terminal → Option Bool
text_inside text terminals.RawParen = Some true
text_inside text terminals.RawBracket = text
text_inside text terminals.RawBrace = text
text_inside text _ = Some false

-- behind one that opens and closes nothing: the text of a custom property stands behind its `:`
abbrev pub text_behind : Option Bool → Terminal → Option Bool
text_behind None terminals.Colon = Some true
text_behind text _ = text

-- something open: the terminal that opened it, and whether text is read around it
pub record Level : Type 0 where
  pub opened : Terminal
  pub outside : Option Bool

-- what is open before a lexeme, the innermost first, and whether text is read there
pub record Around : Type 0 where
  pub levels : List Level
  pub text : Option Bool

abbrev pub opens_anything : Option Bracket → Bool
opens_anything None = false
opens_anything (Some _) = true

abbrev pub opens_insert : Terminal → Bool
opens_insert terminals.Insert = true
opens_insert terminals.WordInsert = true
opens_insert terminals.PartInsert = true
opens_insert _ = false

-- the levels from the innermost `#{` on
abbrev pub to_insert : List Level → List Level
to_insert [] = []
to_insert (level ∷ levels) = if opens_insert level.opened then level ∷ levels else to_insert levels

-- the first of these levels is closed
abbrev pub closed : Option Bool → List Level → Around
closed text [] = record { levels = []; text = text }
closed text (level ∷ levels) = record { levels = levels; text = level.outside }

-- behind a lexeme; the `}` of a `#{` also closes what was opened in it and isn't closed
abbrev pub around_behind : Around → Terminal → Around
around_behind around terminal =
    if opens_anything (opened_by terminal)
    then record {
      levels = record { opened = terminal; outside = around.text } ∷ around.levels;
      text = text_inside around.text terminal;
    }
    else (if is terminal terminals.InsertEnd then closed around.text (to_insert around.levels)
    else (if closes terminal then closed around.text around.levels
    else record { levels = around.levels; text = text_behind around.text terminal }))

-- at the first lexeme of a statement: as the statement is read
abbrev pub around_first : List Plain → Terminal → ℕ → Around → Around
around_first plains before at around =
    if begins_statement before
    then record { levels = around.levels; text = text_in (statement_mode plains at) }
    else around

-- a law of each lexeme and what is around it
abbrev pub EachWithin : (Around → Lexeme → Type 0) → List Plain → Terminal → Around → List Lexeme → Type 0
EachWithin Law plains before around [] = Unit {0}
EachWithin Law plains before around (lexeme ∷ lexemes) =
    Law (around_first plains before lexeme.token around) lexeme
    × EachWithin Law plains lexeme.terminal
    (around_behind (around_first plains before lexeme.token around) lexeme.terminal) lexemes

abbrev pub reads_text : Option Bool → Bool
reads_text None = false
reads_text (Some text) = text

-- what a sign is wherever it isn't text
abbrev pub sign_of : Sort → Option Terminal
sign_of sorts.Colon = Some terminals.Colon
sign_of sorts.Ellipsis = Some terminals.Ellipsis
sign_of sorts.Hash = Some terminals.Hash
sign_of sorts.Ampersand = Some terminals.Ampersand
sign_of sorts.Percent = Some terminals.Modulo
sign_of sorts.Equals = Some terminals.Equals
sign_of sorts.EqualsEquals = Some terminals.Equal
sign_of sorts.NotEquals = Some terminals.NotEqual
sign_of sorts.Less = Some terminals.Less
sign_of sorts.LessEquals = Some terminals.LessEqual
sign_of sorts.Greater = Some terminals.Greater
sign_of sorts.GreaterEquals = Some terminals.GreaterEqual
sign_of _ = None

-- behind the name that stands behind a place, and comments, stands a `:`
abbrev pub names_value : List Plain → ℕ → Bool
names_value plains at = same (sort_at plains (code_from plains (at + 2))) sorts.Colon

-- a sign is text where text is read, and nowhere else; a `$` that isn't text begins a name with a value where a `:`
-- follows the name
pub record TextIs (plains : List Plain) (around : Around) (lexeme : Lexeme) : Type 0 where
  pub sign : (told : Terminal) → sign_of (sort_at plains lexeme.token) ≡ Some told
      → lexeme.terminal ≡ (if reads_text around.text then terminals.Raw else told)
  pub named : sort_at plains lexeme.token ≡ sorts.Dollar → lexeme.terminal ≡ terminals.DollarNamed
      → names_value plains lexeme.token ≡ true
  pub unnamed : sort_at plains lexeme.token ≡ sorts.Dollar → reads_text around.text ≡ false
      → lexeme.terminal ≡ terminals.Dollar → names_value plains lexeme.token ≡ false

-- each lexeme of a text; nothing is open before the first, which begins a statement
abbrev pub TextIsByWhatIsAround : List ℕ → List Token → Type 0
TextIsByWhatIsAround bytes tokens =
    EachWithin (TextIs (plains_of bytes tokens)) (plains_of bytes tokens) terminals.Semicolon
    (record { levels = []; text = Some false }) (lexemes_of bytes tokens)
