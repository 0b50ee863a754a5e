-- What is written of a value that was read, and of which tokens it was read: the tokens of each kind of value, by those
-- that the sheet has from a place on up to another.
use Rattle.std.specs.Prelude.{◌≡◌, ◌⊎◌, ℕ, suc, ◌+◌, ◌-◌, Bool, true, false, if◌then◌else◌, List, [], ◌∷◌, ◌++◌, length, Some, None}
use Rattle.sw_fixed.specs.Arithmetic.{is_below_zero}
use Rattle.sw_text.specs.Names.{dashed}
use Rattle.sw_text.specs.declared.place.Span.{Span}
use Rattle.sw_tree.specs.declared.text.Parts.TheVariants.{Plain as PlainParts, Mixed}
use Rattle.sw_tree.specs.declared.text.Parts.{Parts}
use Rattle.sw_tree.specs.declared.text.Piece.{Piece}
use Rattle.sw_tree.specs.declared.text.Piece.TheVariants as pieces
use Rattle.sw_tree.specs.declared.expr.Argument.{Argument}
use Rattle.sw_tree.specs.declared.expr.Expr.{Expr}
use Rattle.sw_tree.specs.declared.expr.ExprKind.TheVariants as exprs
use Rattle.sw_tree.specs.declared.expr.Link.{Link}
use Rattle.sw_tree.specs.declared.expr.Number.{Number}
use Rattle.sw_tree.specs.declared.expr.Pair.{Pair}
use Rattle.sw_tree.specs.declared.expr.Sign.{Sign}
use Rattle.sw_tree.specs.declared.expr.Separator.TheVariants as separators
use Rattle.sw_tree.specs.declared.expr.Around.TheVariants as arounds
use Rattle.sw_parse_terminals.specs.declared.terminal.Terminal.{Terminal}
use Rattle.sw_parse_terminals.specs.declared.terminal.Terminal.TheVariants as terminals
use Rattle.sw_parse_terminals.specs.Numbers.{just}
use Rattle.sw_parse_table.specs.declared.source.Source.{Source}
use Rattle.sw_parse_table.specs.declared.operator.Precedence.{Precedence}
use Rattle.sw_parse_table.specs.Parts.{Part, Inserts, Stands}
use Rattle.sw_parse_table.specs.Sources.{from_at, to_at, bytes_at, bytes_between, decoded_at, stretch_between, parts_between}
use Rattle.sw_parse_table.specs.Numerals.{numeral}
use Rattle.sw_parse_table.specs.Operators.{operator_at, sign_at, constant_at}
use Rattle.sw_parse_table.specs.Sets.{constants, dollars, bangs, parens_opening, prefixes, operators, special_texts}
use Rattle.sw_parse_table.specs.Values.{expression, comma_list, in_parens, in_brackets, qualified_of, argument_of, callee_of, namespaced}
use Rattle.sw_convert_again.specs.Bare.{is_bare}
use Rattle.sw_convert_again.specs.Tokens.{Said, Nothing, Dashed, Decoded, Bytes, Numeral, Plain, Before, All, Between, Behind, text_up_to, text_to_end, Tok, tok, sign, Old, Parted, Extent, extent, shifted, around}

abbrev pub below_zero : Number → Bool
below_zero number = elim (number.value) as (λ _. Bool) [ None ↦ false | Some value ↦ is_below_zero value ]

-- a number, with its `-` where it lies below zero
abbrev pub number_tokens : Number → List Tok
number_tokens number =
    if below_zero number
    then tok terminals.Sign (Numeral 2 number) ∷ sign terminals.Number ∷ []
    else tok terminals.Number (Numeral 1 number) ∷ []

abbrev pub dollar : Tok
dollar = record { kinds = terminals.Dollar ∷ terminals.DollarNamed ∷ []; said = Nothing }

abbrev pub paren : Tok
paren = record { kinds = terminals.Paren ∷ terminals.ConditionParen ∷ []; said = Nothing }

-- tokens in brackets
abbrev pub within : Tok → List Tok → Terminal → List Tok
within opening tokens closing = opening ∷ (tokens ++ sign closing ∷ [])

-- a `$` whose name a `:` follows
abbrev pub is_named : Terminal → Bool
is_named terminals.DollarNamed = true
is_named _ = false

abbrev pub without_named : List Terminal → List Terminal
without_named [] = []
without_named (terminal ∷ rest) =
    if is_named terminal then without_named rest else terminal ∷ without_named rest

-- tokens of which the first is none, as those of an argument by its place
abbrev pub undollared : List Tok → List Tok
undollared [] = []
undollared (token ∷ tokens) = record { kinds = without_named token.kinds; said = token.said } ∷ tokens

-- the arguments of a call
abbrev pub call_tokens : List Tok → List Tok
call_tokens tokens = within (sign terminals.CallParen) tokens terminals.ParenEnd

-- what a `#{}` says of the text behind it, where these values are inserted in it, and so many tokens stand before the
-- next one or the end
abbrev pub behind_insert : Source → ℕ → List Part → ℕ → Said
behind_insert source at [] count =
    Behind count (text_to_end source (to_at source (suc at - 1)) (suc at - 1) (suc at + count))
behind_insert source at (insert ∷ inserts) count =
    Between count (text_up_to source (to_at source (suc at - 1)) (suc at - 1) (suc at + count))

-- the same of the first token of a text
abbrev pub from_start : Source → ℕ → List Part → ℕ → Said
from_start source at [] count = All count (text_to_end source (from_at source at) at (at + count))
from_start source at (insert ∷ inserts) count = Before count (text_up_to source (from_at source at) at (at + count))

-- where values stood in a text that was read
abbrev pub extents_of : List Part → List Extent
extents_of [] = []
extents_of (Inserts from behind value ∷ parts) = extent from behind ∷ extents_of parts
extents_of (Stands from behind value ∷ parts) = extent from behind ∷ extents_of parts
extents_of (_ ∷ parts) = extents_of parts

-- what the first token of a text of so many tokens says, of which this was read, and in which values stand so
abbrev pub text_said : Source → ℕ → ℕ → List Part → List Extent → ℕ → Said
text_said source at place parts [] count = Plain count (parts_between source at place [])
text_said source at place parts (one ∷ extents) count =
    Parted count (one ∷ extents) (around source (stretch_between source at place) (extents_of parts))

abbrev pub is_empty : List ℕ → Bool
is_empty [] = true
is_empty (b ∷ text) = false

-- a number that was read, with a sign or without one
pub data OldNumber (source : Source) : ℕ → ℕ → Type 0 where
  unsigned : {i : ℕ} → Old source i (just terminals.Number) → OldNumber source i (suc i)
  signed : {i : ℕ} → Old source i (just terminals.Sign) → Old source (suc i) (just terminals.Number)
      → OldNumber source i (suc (suc i))

mutual
  pub data Spells (source : Source) : ℕ → ℕ → Expr → List Tok → Type 0 where
    number : {i j : ℕ} → (number : Number) (span : Span) → numeral (bytes_between source i j) ≡ number
        → OldNumber source i j → Spells source i j (expression (exprs.Number number) span) (number_tokens number)
    quoted : {i : ℕ} → (span : Span) → Old source i (just terminals.Quoted)
        → Spells source i (suc i) (expression (exprs.Quoted (PlainParts (decoded_at source i))) span)
        (tok terminals.Quoted (Decoded (decoded_at source i)) ∷ [])
    template : {i k : ℕ} {texts : List Piece} {tokens : List Tok} → (span : Span)
        → Old source i (just terminals.Template)
        → SpellsPieces source (suc i) k texts tokens → Old source k (just terminals.TemplateEnd)
        → Spells source i (suc k) (expression (exprs.Quoted (Mixed texts)) span)
        (within (sign terminals.Template) tokens terminals.TemplateEnd)
    hash : {i : ℕ} → (span : Span) → Old source i (just terminals.Hash) → Old source (suc i) (just terminals.HashName)
        → Spells source i (suc (suc i)) (expression (exprs.Hash (bytes_between source i (suc (suc i)))) span)
        (tok terminals.Hash (Bytes 2 (bytes_between source i (suc (suc i)))) ∷ sign terminals.HashName ∷ [])
    constant : {i : ℕ} → (span : Span) (old : Old source i constants)
        → Spells source i (suc i) (expression (exprs.Constant (constant_at source i)) span)
        (sign old.lexeme.terminal ∷ [])
    url : {i : ℕ} → (span : Span) → Old source i (just terminals.Url)
        → Spells source i (suc i) (expression (exprs.Url (parts_between source i (suc i) [])) span)
        (tok terminals.Url (Plain 1 (parts_between source i (suc i) [])) ∷ [])
    url_template : {i k count : ℕ} {inserts : List Part} {tokens : List Tok} → (span : Span)
        → Old source i (just terminals.UrlTemplate)
        → SpellsRow source terminals.Piece terminals.Insert 1 (suc i) k inserts count tokens
        → Old source k (just terminals.UrlEnd)
        → Spells source i (suc k) (expression (exprs.Url (parts_between source i (suc k) inserts)) span)
        (within (tok terminals.UrlTemplate (from_start source i inserts (suc count))) tokens terminals.UrlEnd)
    special : {i k : ℕ} {inserts : List Part} {tokens : List Tok} {extents : List Extent} → (span : Span)
        → Old source i (just terminals.Special) → Old source (suc i) (just terminals.RawParen)
        → SpellsText source (suc (suc i)) k inserts tokens extents → Old source k (just terminals.RawParenEnd)
        → Spells source i (suc k) (expression (exprs.Special (parts_between source i (suc k) inserts)) span)
        (tok terminals.Special (text_said source i (suc k) inserts (shifted 2 extents) (3 + length tokens))
        ∷ within (sign terminals.RawParen) tokens terminals.RawParenEnd)
    -- a number in the text of a special function, which stays as it is written
    stays_number : {i : ℕ} → (span : Span) → Old source i (just terminals.Number)
        → Spells source i (suc i) (expression (exprs.Special (PlainParts (bytes_between source i (suc i)))) span)
        (tok terminals.Number (Bytes 1 (bytes_between source i (suc i))) ∷ [])
    stays_signed : {i : ℕ} → (span : Span) → Old source i (just terminals.Sign)
        → Old source (suc i) (just terminals.Number)
        → Spells source i (suc (suc i))
        (expression (exprs.Special (PlainParts (bytes_between source i (suc (suc i))))) span)
        (tok terminals.Sign (Bytes 2 (bytes_between source i (suc (suc i)))) ∷ sign terminals.Number ∷ [])
    variable : {i : ℕ} → (span : Span) → Old source i dollars → Old source (suc i) (just terminals.VariableName)
        → Spells source i (suc (suc i)) (expression (exprs.Variable (dashed (bytes_at source (suc i)))) span)
        (dollar ∷ tok terminals.VariableName (Dashed (dashed (bytes_at source (suc i)))) ∷ [])
    owned_variable : {i : ℕ} → (span : Span) → Old source i (just terminals.Owner)
        → Old source (suc i) (just terminals.OwnerDot) → Old source (suc (suc i)) (just terminals.OwnerDollar)
        → Old source (suc (suc (suc i))) (just terminals.VariableName)
        → Spells source i (suc (suc (suc (suc i))))
        (expression (exprs.Qualified (qualified_of source i (suc (suc (suc i))))) span)
        (tok terminals.Owner (Bytes 1 (bytes_at source i)) ∷ sign terminals.OwnerDot ∷ sign terminals.OwnerDollar
        ∷ tok terminals.VariableName (Dashed (dashed (bytes_at source (suc (suc (suc i)))))) ∷ [])
    range : {i : ℕ} → (span : Span) → Old source i (just terminals.Range)
        → Spells source i (suc i) (expression (exprs.Word (PlainParts (bytes_between source i (suc i)))) span)
        (tok terminals.Range (Bytes 1 (bytes_between source i (suc i))) ∷ [])
    word : {i j : ℕ} {parts : Parts} {tokens : List Tok} → (span : Span) → SpellsWord source i j parts tokens
        → Spells source i j (expression (exprs.Word parts) span) tokens
    call : {i k c : ℕ} {parts : Parts} {args : List Argument} {tokens others : List Tok} → (span name_span : Span)
        → SpellsWord source i k parts tokens → Old source k (just terminals.CallParen)
        → SpellsArguments source (suc k) c args others → Old source c (just terminals.ParenEnd)
        → Spells source i (suc c)
        (expression (exprs.Call (callee_of None (record { parts = parts; span = name_span })) args) span)
        (tokens ++ call_tokens others)
    owned_call : {i k c : ℕ} {parts : Parts} {args : List Argument} {tokens others : List Tok} → (span name_span : Span)
        → Old source i (just terminals.Owner) → Old source (suc i) (just terminals.OwnerDot)
        → SpellsWord source (suc (suc i)) k parts tokens → Old source k (just terminals.CallParen)
        → SpellsArguments source (suc k) c args others → Old source c (just terminals.ParenEnd)
        → Spells source i (suc c)
        (expression
        (exprs.Call (callee_of (Some (namespaced source i)) (record { parts = parts; span = name_span })) args) span)
        (tok terminals.Owner (Bytes 1 (bytes_at source i)) ∷ sign terminals.OwnerDot ∷ (tokens ++ call_tokens others))
    parent : {i : ℕ} → (span : Span) → Old source i (just terminals.Ampersand)
        → Spells source i (suc i) (expression exprs.Parent span) (sign terminals.Ampersand ∷ [])
    important : {i : ℕ} → (span : Span) → Old source i bangs → Old source (suc i) (just terminals.Important)
        → Spells source i (suc (suc i)) (expression exprs.Important span)
        (sign terminals.Bang ∷ sign terminals.Important ∷ [])
    prefixed : {i k j : ℕ} {signs : List Sign} {operand : Expr} {before tokens : List Tok}
        → (first : Sign) (span : Span)
        → SpellsSigns source i k (first ∷ signs) before → SpellsPlain source k j operand tokens
        → Spells source i j (expression (exprs.Prefixed (first ∷ signs) operand) span) (before ++ tokens)
    chain : {i k j : ℕ} {first : Expr} {links : List Link} {tokens others : List Tok} → (link : Link) (span : Span)
        → SpellsPlain source i k first tokens → SpellsLinks source k j (link ∷ links) others
        → Spells source i j (expression (exprs.Chain first (link ∷ links)) span) (tokens ++ others)
    spaced : {i k j : ℕ} {first : Expr} {items : List Expr} {tokens others : List Tok} → (next : Expr) (span : Span)
        → SpellsPlain source i k first tokens → SpellsItems source k j (next ∷ items) others
        → Spells source i j (expression (exprs.List (first ∷ next ∷ items) separators.Space arounds.Nothing) span)
        (tokens ++ others)
    -- one item keeps the comma behind it, more lose it
    comma_one : {i k : ℕ} {item : Expr} {tokens : List Tok} → (span : Span) → SpellsPlain source i k item tokens
        → Old source k (just terminals.Comma)
        → Spells source i (suc k) (comma_list span (item ∷ [])) (tokens ++ sign terminals.Comma ∷ [])
    comma_more : {i k m j : ℕ} {first : Expr} {items : List Expr} {tokens others : List Tok}
        → (next : Expr) (span : Span)
        → SpellsPlain source i k first tokens → SpellsCommas source k m (next ∷ items) others
        → (j ≡ m) ⊎ ((j ≡ suc m) × Old source m (just terminals.Comma))
        → Spells source i j (comma_list span (first ∷ next ∷ items)) (tokens ++ others)
    in_brackets_none : {i : ℕ} → (span : Span) → Old source i (just terminals.Bracket)
        → Old source (suc i) (just terminals.BracketEnd)
        → Spells source i (suc (suc i)) (expression (exprs.List [] separators.Undecided arounds.Brackets) span)
        (within (sign terminals.Bracket) [] terminals.BracketEnd)
    in_brackets_some : {i k : ℕ} {value : Expr} {tokens : List Tok} → (span : Span)
        → Old source i (just terminals.Bracket)
        → Spells source (suc i) k value tokens → Old source k (just terminals.BracketEnd)
        → Spells source i (suc k) (in_brackets span value) (within (sign terminals.Bracket) tokens terminals.BracketEnd)
    in_parens_none : {i : ℕ} → (span : Span) → Old source i parens_opening
        → Old source (suc i) (just terminals.ParenEnd)
        → Spells source i (suc (suc i)) (expression (exprs.List [] separators.Undecided arounds.Parens) span)
        (within paren [] terminals.ParenEnd)
    in_parens_some : {i k : ℕ} {value : Expr} {tokens : List Tok} → (span : Span) → Old source i parens_opening
        → Spells source (suc i) k value tokens → Old source k (just terminals.ParenEnd)
        → Spells source i (suc k) (in_parens span value) (within paren tokens terminals.ParenEnd)
    map : {i k m stop close : ℕ} {key value : Expr} {pairs : List Pair} {tokens others more : List Tok} → (span : Span)
        → Old source i parens_opening → SpellsPlain source (suc i) k key tokens → Old source k (just terminals.Colon)
        → SpellsPlain source (suc k) m value others → SpellsPairs source m stop pairs more
        → (close ≡ stop) ⊎ ((close ≡ suc stop) × Old source stop (just terminals.Comma))
        → Old source close (just terminals.ParenEnd)
        → Spells source i (suc close) (expression (exprs.Map (record { key = key; value = value } ∷ pairs)) span)
        (within paren (tokens ++ sign terminals.Colon ∷ (others ++ more)) terminals.ParenEnd)

  -- a value that is no list with commas and without brackets
  pub data SpellsPlain (source : Source) : ℕ → ℕ → Expr → List Tok → Type 0 where
    unlisted : {i j : ℕ} {value : Expr} {tokens : List Tok} → is_bare value ≡ false → Spells source i j value tokens
        → SpellsPlain source i j value tokens

  -- signs before an operand
  pub data SpellsSigns (source : Source) : ℕ → ℕ → List Sign → List Tok → Type 0 where
    no_signs : {i : ℕ} → SpellsSigns source i i [] []
    more_signs : {i j : ℕ} {signs : List Sign} {tokens : List Tok} → (old : Old source i prefixes)
        → SpellsSigns source (suc i) j signs tokens
        → SpellsSigns source i j (sign_at source i ∷ signs) (sign old.lexeme.terminal ∷ tokens)

  -- operators that bind so, and what stands behind each
  pub data SpellsLinks (source : Source) : ℕ → ℕ → List Link → List Tok → Type 0 where
    no_links : {i : ℕ} → SpellsLinks source i i [] []
    more_links : {i k j : ℕ} {operand : Expr} {links : List Link} {tokens others : List Tok} → (precedence : Precedence)
        (old : Old source i (operators precedence)) → SpellsPlain source (suc i) k operand tokens
        → SpellsLinks source k j links others
        → SpellsLinks source i j (record { operator = operator_at source i; operand = operand } ∷ links)
        (sign old.lexeme.terminal ∷ (tokens ++ others))

  -- the items of a list, one behind the other
  pub data SpellsItems (source : Source) : ℕ → ℕ → List Expr → List Tok → Type 0 where
    no_items : {i : ℕ} → SpellsItems source i i [] []
    more_items : {i k j : ℕ} {item : Expr} {items : List Expr} {tokens others : List Tok}
        → SpellsPlain source i k item tokens
        → SpellsItems source k j items others → SpellsItems source i j (item ∷ items) (tokens ++ others)

  -- the same with a comma before each
  pub data SpellsCommas (source : Source) : ℕ → ℕ → List Expr → List Tok → Type 0 where
    no_commas : {i : ℕ} → SpellsCommas source i i [] []
    more_commas : {i k j : ℕ} {item : Expr} {items : List Expr} {tokens others : List Tok}
        → Old source i (just terminals.Comma) → SpellsPlain source (suc i) k item tokens
        → SpellsCommas source k j items others
        → SpellsCommas source i j (item ∷ items) (sign terminals.Comma ∷ (tokens ++ others))

  -- keys and values with a comma before each
  pub data SpellsPairs (source : Source) : ℕ → ℕ → List Pair → List Tok → Type 0 where
    no_pairs : {i : ℕ} → SpellsPairs source i i [] []
    more_pairs : {i k m j : ℕ} {key value : Expr} {pairs : List Pair} {tokens others more : List Tok}
        → Old source i (just terminals.Comma) → SpellsPlain source (suc i) k key tokens
        → Old source k (just terminals.Colon)
        → SpellsPlain source (suc k) m value others → SpellsPairs source m j pairs more
        → SpellsPairs source i j (record { key = key; value = value } ∷ pairs)
        (sign terminals.Comma ∷ (tokens ++ sign terminals.Colon ∷ (others ++ more)))

  -- the text in a string, and what is inserted in it
  pub data SpellsPieces (source : Source) : ℕ → ℕ → List Piece → List Tok → Type 0 where
    no_pieces : {i : ℕ} → SpellsPieces source i i [] []
    text_piece : {i j : ℕ} {texts : List Piece} {tokens : List Tok} → Old source i (just terminals.TextPiece)
        → is_empty (decoded_at source i) ≡ false → SpellsPieces source (suc i) j texts tokens
        → SpellsPieces source i j (pieces.Text (decoded_at source i) ∷ texts)
        (tok terminals.TextPiece (Decoded (decoded_at source i)) ∷ tokens)
    -- of an escaped line break alone nothing is written
    empty_piece : {i j : ℕ} {texts : List Piece} {tokens : List Tok} → Old source i (just terminals.TextPiece)
        → is_empty (decoded_at source i) ≡ true → SpellsPieces source (suc i) j texts tokens
        → SpellsPieces source i j (pieces.Text (decoded_at source i) ∷ texts) tokens
    inserted_piece : {i k j : ℕ} {value : Expr} {texts : List Piece} {tokens others : List Tok}
        → Old source i (just terminals.Insert) → Spells source (suc i) k value tokens
        → Old source k (just terminals.InsertEnd) → SpellsPieces source (suc k) j texts others
        → SpellsPieces source i j (pieces.Inserted value ∷ texts)
        (sign terminals.Insert ∷ (tokens ++ sign terminals.InsertEnd ∷ others))

  -- a word: a name, or a `#{}` with a `-` before it or not, and what goes on with it
  pub data SpellsWord (source : Source) : ℕ → ℕ → Parts → List Tok → Type 0 where
    named : {i j count : ℕ} {inserts : List Part} {tokens : List Tok} → Old source i (just terminals.Word)
        → SpellsRow source terminals.Part terminals.PartInsert 0 (suc i) j inserts count tokens
        → SpellsWord source i j (parts_between source i j inserts)
        (tok terminals.Word (from_start source i inserts (suc count)) ∷ tokens)
    begun : {i c j count : ℕ} {value : Expr} {inserts : List Part} {tokens others : List Tok}
        → Old source i (just terminals.WordInsert) → Spells source (suc i) c value tokens
        → Old source c (just terminals.InsertEnd) → SpellsRow source terminals.Part terminals.PartInsert 0 (suc c) j inserts count others
        → SpellsWord source i j (parts_between source i j (Inserts i (suc c) value ∷ inserts))
        (tok terminals.WordInsert (Before 0 (text_up_to source (from_at source i) i (i + 0)))
        ∷ (tokens ++ tok terminals.InsertEnd (behind_insert source c inserts count) ∷ others))
    begun_minus : {i c j count : ℕ} {value : Expr} {inserts : List Part} {tokens others : List Tok}
        → Old source i (just terminals.WordMinus) → Old source (suc i) (just terminals.WordInsert)
        → Spells source (suc (suc i)) c value tokens → Old source c (just terminals.InsertEnd)
        → SpellsRow source terminals.Part terminals.PartInsert 0 (suc c) j inserts count others
        → SpellsWord source i j (parts_between source i j (Inserts (suc i) (suc c) value ∷ inserts))
        (tok terminals.WordMinus (Before 1 (text_up_to source (from_at source i) i (i + 1)))
        ∷ sign terminals.WordInsert
        ∷ (tokens ++ tok terminals.InsertEnd (behind_insert source c inserts count) ∷ others))

  -- what a text goes on with, by its tokens and by values that are inserted: so many tokens stand before the first of
  -- these or its end, which is so many tokens behind the last
  pub data SpellsRow (source : Source) : Terminal → Terminal → ℕ → ℕ → ℕ → List Part → ℕ → List Tok → Type 0 where
    row_end : {part opening : Terminal} {extra i : ℕ} → SpellsRow source part opening extra i i [] extra []
    row_part : {part opening : Terminal} {extra i j count : ℕ} {inserts : List Part} {tokens : List Tok}
        → Old source i (just part)
        → SpellsRow source part opening extra (suc i) j inserts count tokens
        → SpellsRow source part opening extra i j inserts (suc count) (sign part ∷ tokens)
    row_insert : {part opening : Terminal} {extra i c j count : ℕ} {value : Expr} {inserts : List Part}
        {tokens others : List Tok}
        → Old source i (just opening) → Spells source (suc i) c value tokens
        → Old source c (just terminals.InsertEnd) → SpellsRow source part opening extra (suc c) j inserts count others
        → SpellsRow source part opening extra i j (Inserts i (suc c) value ∷ inserts) 0
        (sign opening ∷ (tokens ++ tok terminals.InsertEnd (behind_insert source c inserts count) ∷ others))

  -- an item of the text of a special function: a token, a value in `#{}`, a value by itself, or brackets around items;
  -- and where values stand in its tokens
  pub data SpellsItem (source : Source) : ℕ → ℕ → List Part → List Tok → List Extent → Type 0 where
    item_token : {i : ℕ} → (old : Old source i special_texts)
        → SpellsItem source i (suc i) [] (sign old.lexeme.terminal ∷ []) []
    item_insert : {i c : ℕ} {value : Expr} {tokens : List Tok} → Old source i (just terminals.Insert)
        → Spells source (suc i) c value tokens → Old source c (just terminals.InsertEnd)
        → SpellsItem source i (suc c) (Inserts i (suc c) value ∷ [])
        (within (sign terminals.Insert) tokens terminals.InsertEnd) (extent 0 (2 + length tokens) ∷ [])
    item_value : {i k : ℕ} {value : Expr} {tokens : List Tok} → Spells source i k value tokens
        → SpellsItem source i k (Stands i k value ∷ []) tokens (extent 0 (length tokens) ∷ [])
    item_parens : {i c : ℕ} {parts : List Part} {tokens : List Tok} {extents : List Extent}
        → Old source i (just terminals.RawParen) → SpellsText source (suc i) c parts tokens extents
        → Old source c (just terminals.RawParenEnd)
        → SpellsItem source i (suc c) parts (within (sign terminals.RawParen) tokens terminals.RawParenEnd)
        (shifted 1 extents)
    item_brackets : {i c : ℕ} {parts : List Part} {tokens : List Tok} {extents : List Extent}
        → Old source i (just terminals.RawBracket) → SpellsText source (suc i) c parts tokens extents
        → Old source c (just terminals.RawBracketEnd)
        → SpellsItem source i (suc c) parts (within (sign terminals.RawBracket) tokens terminals.RawBracketEnd)
        (shifted 1 extents)

  -- items one behind the other
  pub data SpellsText (source : Source) : ℕ → ℕ → List Part → List Tok → List Extent → Type 0 where
    text_end : {i : ℕ} → SpellsText source i i [] [] []
    text_more : {i k j : ℕ} {parts more : List Part} {tokens others : List Tok} {extents further : List Extent}
        → SpellsItem source i k parts tokens extents → SpellsText source k j more others further
        → SpellsText source i j (parts ++ more) (tokens ++ others) (extents ++ shifted (length tokens) further)

  -- an argument: by its name, by its place, and with `...` behind it
  pub data SpellsArgument (source : Source) : ℕ → ℕ → Argument → List Tok → Type 0 where
    named_argument : {i j : ℕ} {value : Expr} {tokens : List Tok} → Old source i (just terminals.DollarNamed)
        → Old source (suc i) (just terminals.VariableName) → Old source (suc (suc i)) (just terminals.Colon)
        → SpellsPlain source (suc (suc (suc i))) j value tokens
        → SpellsArgument source i j (argument_of (Some (dashed (bytes_at source (suc i)))) value false)
        (sign terminals.DollarNamed ∷ tok terminals.VariableName (Dashed (dashed (bytes_at source (suc i))))
        ∷ sign terminals.Colon ∷ tokens)
    placed_argument : {i j : ℕ} {value : Expr} {tokens : List Tok} → SpellsPlain source i j value tokens
        → SpellsArgument source i j (argument_of None value false) (undollared tokens)
    spread_argument : {i k : ℕ} {value : Expr} {tokens : List Tok} → SpellsPlain source i k value tokens
        → Old source k (just terminals.Ellipsis)
        → SpellsArgument source i (suc k) (argument_of None value true)
        (undollared tokens ++ sign terminals.Ellipsis ∷ [])

  -- arguments with a comma before each
  pub data SpellsMore (source : Source) : ℕ → ℕ → List Argument → List Tok → Type 0 where
    no_more : {i : ℕ} → SpellsMore source i i [] []
    more : {i k j : ℕ} {arg : Argument} {args : List Argument} {tokens others : List Tok}
        → Old source i (just terminals.Comma) → SpellsArgument source (suc i) k arg tokens
        → SpellsMore source k j args others
        → SpellsMore source i j (arg ∷ args) (sign terminals.Comma ∷ (tokens ++ others))

  -- those of a call, which lose a comma behind them
  pub data SpellsArguments (source : Source) : ℕ → ℕ → List Argument → List Tok → Type 0 where
    no_arguments : {i : ℕ} → SpellsArguments source i i [] []
    arguments : {i k m j : ℕ} {arg : Argument} {args : List Argument} {tokens others : List Tok}
        → SpellsArgument source i k arg tokens → SpellsMore source k m args others
        → (j ≡ m) ⊎ ((j ≡ suc m) × Old source m (just terminals.Comma))
        → SpellsArguments source i j (arg ∷ args) (tokens ++ others)
