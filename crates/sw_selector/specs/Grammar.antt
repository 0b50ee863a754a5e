-- What a list of selectors is (Selectors Level 4, and Sass for `&`, `%name` and combinators in front), row by row. A
-- row says that what stands from one place of a text to another is such a thing, and what it reads as.
use Rattle.std.specs.Prelude.{◌≡◌, ℕ, zero, suc, ◌+◌, ◌<◌, List, [], ◌∷◌, ◌++◌, Some, true, false, ◌==◌}
use Rattle.sw_text_scan.specs.declared.brackets.Stops.TheVariants as stops
use Rattle.sw_text_scan.specs.declared.signs.TheConstants.{END}
use Rattle.sw_text_scan.specs.Bytes.{sign, byte}
use Rattle.sw_text_scan.specs.Runs.{begins_name}
use Rattle.sw_text_scan.specs.Pieces.{piece}
use Rattle.sw_text_scan.specs.Brackets.{stop_at}
use Rattle.sw_selector.specs.declared.selector.Part.{Part}
use Rattle.sw_selector.specs.declared.selector.Part.TheVariants as parts
use Rattle.sw_selector.specs.declared.selector.Combinator.{Combinator}
use Rattle.sw_selector.specs.declared.selector.Combinator.TheVariants as combinators
use Rattle.sw_selector.specs.Attributes.{prefix_end, attribute_end}
use Rattle.sw_text_locality.specs.Names.{white, name_end, name_text}
use Rattle.sw_selector.specs.Simples.{takes_selectors, with_argument, argument_text, colons_end}
use Rattle.sw_selector.specs.Reading.{combinator_of, ends_complex, commas_end}

-- what reads as selectors from a place to another, in the argument of a pseudo
abbrev pub Inner : Type 1
Inner = ℕ → ℕ → List (List Part) → Type 0

-- a name, with all its characters
abbrev pub Name : List ℕ → ℕ → ℕ → Type 0
Name bs i j = (begins_name bs i ≡ true) × (j ≡ name_end bs i)

-- a pseudo's colons and name
abbrev pub pseudo_name : List ℕ → ℕ → ℕ → List ℕ
pseudo_name bs i j = name_text bs i (colons_end bs i) j

-- classes, ids, placeholders, attributes and pseudos
pub data Simple (inner : Inner) (bs : List ℕ) : ℕ → ℕ → Part → Type 0 where
  class : {i j : ℕ} → byte bs i ≡ sign "." → Name bs (i + 1) j
      → Simple inner bs i j (parts.Named (name_text bs i (i + 1) j))
  id : {i j : ℕ} → byte bs i ≡ sign "#" → Name bs (i + 1) j
      → Simple inner bs i j (parts.Named (name_text bs i (i + 1) j))
  placeholder : {i j : ℕ} → byte bs i ≡ sign "%" → Name bs (i + 1) j
      → Simple inner bs i j (parts.Placeholder (name_text bs i (i + 1) j))
  attribute : {i j : ℕ} → byte bs i ≡ sign "[" → attribute_end bs i ≡ Some j
      → Simple inner bs i j (parts.Closed (piece bs i j))
  -- one or two colons and a name
  pseudo : {i j : ℕ} → byte bs i ≡ sign ":" → Name bs (colons_end bs i) j → (byte bs j == sign "(") ≡ false
      → Simple inner bs i j (parts.Named (pseudo_name bs i j))
  -- with selectors in parentheses
  pseudo_of : {i j k : ℕ} {list : List (List Part)} → byte bs i ≡ sign ":" → Name bs (colons_end bs i) j
      → byte bs j ≡ sign "("
      → takes_selectors (pseudo_name bs i j) ≡ true → inner (j + 1) k list → byte bs k ≡ sign ")"
      → Simple inner bs i (k + 1) (parts.Pseudo (pseudo_name bs i j) list)
  -- with another text in parentheses, which isn't blank and whose strings and brackets are closed
  pseudo_with : {i j k : ℕ} → byte bs i ≡ sign ":" → Name bs (colons_end bs i) j → byte bs j ≡ sign "("
      → takes_selectors (pseudo_name bs i j) ≡ false → stop_at stops.Argument bs (j + 1) ≡ Some k → byte bs k ≡ sign ")"
      → white bs (j + 1) < k
      → Simple inner bs i (k + 1) (parts.Closed (with_argument (pseudo_name bs i j) (argument_text bs (j + 1) k)))

-- what only begins a compound
pub data Head (bs : List ℕ) : ℕ → ℕ → Part → Type 0 where
  -- `&` with the name characters behind it
  parent : {i j : ℕ} → byte bs i ≡ sign "&" → j ≡ name_end bs (i + 1)
      → Head bs i j (parts.Parent (name_text bs (i + 1) (i + 1) j))
  -- a type or `*`, behind a namespace prefix if one stands there
  type : {i j k : ℕ} → k ≡ prefix_end bs i → Name bs k j → Head bs i j (parts.Named (name_text bs i k j))
  any : {i k : ℕ} → k ≡ prefix_end bs i → byte bs k ≡ sign "*" → Head bs i (k + 1) (parts.Closed (piece bs i (k + 1)))

-- simple selectors with nothing between
pub data Simples (inner : Inner) (bs : List ℕ) : ℕ → ℕ → List Part → Type 0 where
  none : {i : ℕ} → Simples inner bs i i []
  more : {i k j : ℕ} {part : Part} {list : List Part} → Simple inner bs i k part → Simples inner bs k j list
      → Simples inner bs i j (part ∷ list)

pub data Compound (inner : Inner) (bs : List ℕ) : ℕ → ℕ → List Part → Type 0 where
  headed : {i k j : ℕ} {part : Part} {list : List Part} → Head bs i k part → Simples inner bs k j list
      → Compound inner bs i j (part ∷ list)
  plain : {i k j : ℕ} {part : Part} {list : List Part} → Simple inner bs i k part → Simples inner bs k j list
      → Compound inner bs i j (part ∷ list)

-- `>`, `+` or `~` with white space around, or white space
pub data Joint (bs : List ℕ) : ℕ → ℕ → Combinator → Type 0 where
  signed : {i : ℕ} {combinator : Combinator} → combinator_of (byte bs (white bs i)) ≡ Some combinator
      → Joint bs i (white bs (white bs i + 1)) combinator
  spaced : {i : ℕ} → i < white bs i → Joint bs i (white bs i) combinators.Descendant

-- compounds with combinators between
pub data Compounds (inner : Inner) (bs : List ℕ) : ℕ → ℕ → List Part → Type 0 where
  one : {i j : ℕ} {list : List Part} → Compound inner bs i j list → Compounds inner bs i j list
  joined : {i k l j : ℕ} {first rest : List Part} {combinator : Combinator} → Compound inner bs i k first
      → Joint bs k l combinator → Compounds inner bs l j rest
      → Compounds inner bs i j (first ++ parts.Combinator combinator ∷ rest)

-- white space up to a comma, a `)` or the end of the text
abbrev pub Ends : List ℕ → ℕ → ℕ → Type 0
Ends bs i j = (j ≡ white bs i) × (ends_complex (byte bs j) ≡ true)

-- compounds, with or without a combinator in front
pub data IsComplex (inner : Inner) (bs : List ℕ) : ℕ → ℕ → List Part → Type 0 where
  plain : {i k j : ℕ} {list : List Part} → Compounds inner bs (white bs i) k list → Ends bs k j
      → IsComplex inner bs i j list
  led : {i k j : ℕ} {list : List Part} {combinator : Combinator}
      → combinator_of (byte bs (white bs i)) ≡ Some combinator
      → Compounds inner bs (white bs (white bs i + 1)) k list → Ends bs k j
      → IsComplex inner bs i j (parts.Combinator combinator ∷ list)

-- complex selectors with a comma between, in a pseudo
pub data Argument (inner : Inner) (bs : List ℕ) : ℕ → ℕ → List (List Part) → Type 0 where
  last : {i j : ℕ} {complex : List Part} → IsComplex inner bs i j complex → (byte bs j == sign ",") ≡ false
      → Argument inner bs i j (complex ∷ [])
  more : {i k j : ℕ} {complex : List Part} {list : List (List Part)} → IsComplex inner bs i k complex
      → byte bs k ≡ sign ","
      → Argument inner bs (k + 1) j list → Argument inner bs i j (complex ∷ list)

-- complex selectors up to the end of the text, with one comma or more between, and any number behind the last
pub data Listed (inner : Inner) (bs : List ℕ) : ℕ → List (List Part) → Type 0 where
  last : {i j : ℕ} {complex : List Part} → IsComplex inner bs i j complex → byte bs (commas_end bs j) ≡ END
      → Listed inner bs i (complex ∷ [])
  more : {i j : ℕ} {complex : List Part} {list : List (List Part)} → IsComplex inner bs i j complex
      → byte bs j ≡ sign ","
      → Listed inner bs (commas_end bs j) list → Listed inner bs i (complex ∷ list)

-- in an argument, in which at most so many pseudos with selectors stand in each other, the one around it counted
abbrev pub Arguments : List ℕ → ℕ → Inner
Arguments bs zero i j list = ⊥
Arguments bs (suc levels) i j list = Argument (Arguments bs levels) bs i j list

-- the text is a list of selectors, and these are they
abbrev pub IsSelectorList : ℕ → List ℕ → List (List Part) → Type 0
IsSelectorList levels bs list = Listed (Arguments bs levels) bs 0 list
