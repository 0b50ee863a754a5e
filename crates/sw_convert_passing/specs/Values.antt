-- Values as they are written: each sign and each bracket where it is meant to stand, and one space between what has one.
use Rattle.std.specs.Prelude.{◌≡◌, ℕ, zero, suc, Bool, true, false, not, ◌&&◌, ◌||◌, List, [], ◌∷◌, ◌++◌}
use Rattle.sw_parse_terminals.specs.declared.terminal.Terminal.{Terminal}
use Rattle.sw_parse_terminals.specs.declared.terminal.Terminal.TheVariants as terminals
use Rattle.sw_parse_lexemes.specs.declared.sort.Sort.{Sort}
use Rattle.sw_parse_lexemes.specs.declared.sort.Sort.TheVariants as sorts
use Rattle.sw_parse_lexemes.specs.declared.state.Mode.{Mode}
use Rattle.sw_parse_lexemes.specs.declared.state.Mode.TheVariants as modes
use Rattle.sw_parse_lexemes.specs.Classes.{is_name, is_number, same}
use Rattle.sw_parse_lexemes.specs.Names.{behind_bang, stays_text}
use Rattle.sw_convert_passing.specs.Kinds.{is_quoted, is_hash_name, is_constant, keyword, is_word, is_part, lone, is_lone_value, is_operator, operator, is_prefix, prefix, is_separator, separator, is_raw, is_raw_sign, is_dot, is_dollar, is_paren, is_sign, is_plus_or_minus, is_flag_sort}
use Rattle.sw_convert_passing.specs.Written.{Written, written, direct, apart}

abbrev pub begins_insert : List Written → Bool
begins_insert [] = false
begins_insert (token ∷ tokens) = same token.sort sorts.OpenInsert

-- a token of these sorts stands so many tokens further on, with nothing between it and the one before
abbrev pub ahead : (Sort → Bool) → ℕ → List Written → Bool
ahead test at [] = false
ahead test zero (token ∷ tokens) = not token.spaced && test token.sort
ahead test (suc at) (token ∷ tokens) = ahead test at tokens

-- a variable or a call stands behind a namespace
abbrev pub owns : List Written → Bool
owns tokens =
    ahead is_dot 0 tokens
    && ((ahead is_dollar 1 tokens && ahead is_name 2 tokens) || (ahead is_name 1 tokens && ahead is_paren 2 tokens))

-- a name is text there
abbrev pub is_raw_name : Sort → List Written → Bool
is_raw_name sort tokens = not (owns tokens) && not (ahead is_paren 0 tokens && not (stays_text sort))

-- an empty comment, which keeps two tokens apart
abbrev pub seam : Written
seam = record { sort = sorts.Comment; spaced = false; may_be = [] }

-- the `$` of a variable, which may be others too
abbrev pub dollar_among : Bool → List Terminal → Written
dollar_among spaced others = record { sort = sorts.Dollar; spaced = spaced; may_be = terminals.Dollar ∷ others }

abbrev pub dollar : Bool → Written
dollar spaced = dollar_among spaced (terminals.DollarNamed ∷ [])

abbrev pub opened_paren : Bool → Written
opened_paren spaced =
    record { sort = sorts.OpenParen; spaced = spaced; may_be = terminals.Paren ∷ terminals.ConditionParen ∷ [] }

-- tokens between two others, behind which more stand
abbrev pub enclosed : Written → List Written → Written → List Written → List Written
enclosed opening inner closing rest = opening ∷ (inner ++ closing ∷ rest)

-- what stands in a `#{}` that is opened as a terminal
abbrev pub inserted : Bool → Terminal → List Written → List Written → List Written
inserted spaced terminal inner rest =
    enclosed (written sorts.OpenInsert spaced terminal) inner (direct sorts.CloseInsert terminals.InsertEnd) rest

-- no `:` stands there: of what comes behind a comment it is asked again
abbrev pub stays_behind : Sort → Bool → Bool
stays_behind sorts.Comment rest = rest
stays_behind sorts.CommentTemplate rest = false
stays_behind sorts.CommentEnd rest = false
stays_behind sorts.Colon rest = false
stays_behind _ rest = true

abbrev pub no_colon : List Written → Bool
no_colon [] = false
no_colon (next ∷ rest) = stays_behind next.sort (no_colon rest)

-- the same tokens, where the `$` of a variable is told by what stands behind it: a `:`, or something else
pub data Settles : List Written → List Written → Type 0 where
  settled_end : Settles [] []
  settled_same : {rest more : List Written} → (token : Written) → Settles rest more
      → Settles (token ∷ rest) (token ∷ more)
  settled_dollar : {spaced : Bool} {rest more : List Written} → (name : Written) → no_colon rest ≡ true
      → Settles (name ∷ rest) more
      → Settles (dollar spaced ∷ name ∷ rest) (written sorts.Dollar spaced terminals.Dollar ∷ more)
  settled_named : {spaced : Bool} {rest more : List Written} → (name : Sort) → is_name name ≡ true
      → Settles (direct name terminals.VariableName ∷ direct sorts.Colon terminals.Colon ∷ rest) more
      → Settles (dollar spaced ∷ direct name terminals.VariableName ∷ direct sorts.Colon terminals.Colon ∷ rest)
      (written sorts.Dollar spaced terminals.DollarNamed ∷ more)

mutual
  -- a value in a mode: with white space before it or not, and beginning with a sign that is an operator behind another
  -- value or not
  pub data Value : Mode → Bool → Bool → List Written → Type 0 where
    number : {mode : Mode} {spaced : Bool} → (sort : Sort) → is_number sort ≡ true
        → Value mode spaced false (written sort spaced terminals.Number ∷ [])
    negative : {mode : Mode} {spaced : Bool} → (sort : Sort) → is_number sort ≡ true
        → Value mode spaced false (written sorts.Minus spaced terminals.Sign ∷ direct sort terminals.Number ∷ [])
    -- a number that stays with its `+`
    positive : {mode : Mode} {spaced : Bool} → (sort : Sort) → is_number sort ≡ true
        → Value mode spaced true (written sorts.Plus spaced terminals.Sign ∷ direct sort terminals.Number ∷ [])
    quoted : {mode : Mode} {spaced : Bool} → (sort : Sort) → is_quoted sort ≡ true
        → Value mode spaced false (written sort spaced terminals.Quoted ∷ [])
    template : {mode : Mode} {spaced : Bool} {inner : List Written} → Pieces sorts.Text inner
        → Value mode spaced false
        (enclosed (written sorts.Template spaced terminals.Template) inner
        (direct sorts.TemplateEnd terminals.TemplateEnd) [])
    hash : {mode : Mode} {spaced : Bool} → (sort : Sort) → is_hash_name sort ≡ true
        → Value mode spaced false (written sorts.Hash spaced terminals.Hash ∷ direct sort terminals.HashName ∷ [])
    constant : {mode : Mode} {spaced : Bool} → (sort : Sort) → is_constant sort ≡ true
        → Value mode spaced false (written sort spaced (keyword sort) ∷ [])
    lone_value : {mode : Mode} {spaced : Bool} → (sort : Sort) → is_lone_value sort ≡ true
        → Value mode spaced false (written sort spaced (lone sort) ∷ [])
    url_template : {mode : Mode} {spaced : Bool} {inner : List Written} → Pieces sorts.Piece inner
        → Value mode spaced false
        (enclosed (written sorts.UrlTemplate spaced terminals.UrlTemplate) inner
        (direct sorts.UrlEnd terminals.UrlEnd) [])
    variable : {mode : Mode} {spaced : Bool} → (name : Sort) → is_name name ≡ true
        → Value mode spaced false (dollar spaced ∷ direct name terminals.VariableName ∷ [])
    owned_variable : {mode : Mode} {spaced : Bool} → (owner name : Sort) → is_name owner ≡ true → is_name name ≡ true
        → Value mode spaced false
        (written owner spaced terminals.Owner ∷ direct sorts.Dot terminals.OwnerDot
        ∷ direct sorts.Dollar terminals.OwnerDollar ∷ direct name terminals.VariableName ∷ [])
    owned_call : {mode : Mode} {spaced : Bool} {name call : List Written} → (owner : Sort) → is_name owner ≡ true
        → Word mode false true true name → Call call
        → Value mode spaced false
        (written owner spaced terminals.Owner ∷ direct sorts.Dot terminals.OwnerDot ∷ (name ++ call))
    word : {mode : Mode} {spaced : Bool} {name : List Written} → Word mode spaced false false name
        → Value mode spaced false name
    call : {mode : Mode} {spaced : Bool} {name call : List Written} → Word mode spaced false true name → Call call
        → Value mode spaced false (name ++ call)
    important : {mode : Mode} {spaced : Bool}
        → Value mode spaced false
        (written sorts.Exclamation spaced terminals.Bang ∷ direct sorts.Important terminals.Important ∷ [])
    in_parens : {mode : Mode} {spaced : Bool} {inner : List Written} → Items inner
        → Value mode spaced false (enclosed (opened_paren spaced) inner (direct sorts.CloseParen terminals.ParenEnd) [])
    in_brackets : {mode : Mode} {spaced : Bool} {inner : List Written} → Items inner
        → Value mode spaced false
        (enclosed (written sorts.OpenBracket spaced terminals.Bracket) inner
        (direct sorts.CloseBracket terminals.BracketEnd)
        [])
    negated : {mode : Mode} {spaced signed : Bool} {value : List Written} → Value mode true signed value
        → Value mode spaced false (written sorts.Not spaced terminals.Not ∷ value)
    prefixed : {mode : Mode} {spaced signed : Bool} {value : List Written} → (sort : Sort) → is_prefix sort ≡ true
        → Value mode true signed value → Value mode spaced true (written sort spaced (prefix sort) ∷ value)
    linked : {mode : Mode} {spaced signed next : Bool} {left right : List Written} → Value mode spaced signed left
        → (sort : Sort) → is_operator sort ≡ true → Value mode true next right
        → Value mode spaced signed (left ++ apart sort (operator sort) ∷ right)
    -- the `/` of a quotient of literals
    divided : {mode : Mode} {spaced signed next : Bool} {left right : List Written} → Value mode spaced signed left
        → Value mode false next right → Value mode spaced signed (left ++ direct sorts.Slash terminals.Divide ∷ right)
    beside : {mode : Mode} {spaced signed : Bool} {left right : List Written} → Value mode spaced signed left
        → Value mode true false right → Value mode spaced signed (left ++ right)
    -- a special function, whose text stays as it is
    special : {mode : Mode} {spaced : Bool} {text : List Written} → (blank : Bool) → Special false false text
        → Value mode spaced false
        (written sorts.Special spaced terminals.Special ∷ enclosed (direct sorts.OpenParen terminals.RawParen) text
        (written sorts.CloseParen blank terminals.RawParenEnd) [])
    seamed : {mode : Mode} {spaced signed : Bool} {value : List Written} → Value mode spaced signed value
        → Value mode spaced signed (value ++ seam ∷ [])

  -- a word in a mode: with white space before it or not, behind a namespace or not, before the arguments of a call or not
  pub data Word : Mode → Bool → Bool → Bool → List Written → Type 0 where
    named : {mode : Mode} {spaced owned called : Bool} {parts : List Written} → (sort : Sort) → is_name sort ≡ true
        → (begins_insert parts || is_word mode owned called sort) ≡ true → Parts parts
        → Word mode spaced owned called (written sort spaced terminals.Word ∷ parts)
    begun : {mode : Mode} {spaced owned called : Bool} {inner parts : List Written} → Items inner → Parts parts
        → Word mode spaced owned called (inserted spaced terminals.WordInsert inner parts)
    begun_minus : {mode : Mode} {spaced owned called : Bool} {inner parts : List Written} → Items inner → Parts parts
        → Word mode spaced owned called
        (written sorts.Minus spaced terminals.WordMinus ∷ inserted false terminals.WordInsert inner parts)

  -- what goes on with a word
  pub data Parts : List Written → Type 0 where
    no_part : Parts []
    part : {parts : List Written} → (sort : Sort) → is_part sort ≡ true → Parts parts
        → Parts (direct sort terminals.Part ∷ parts)
    part_insert : {inner parts : List Written} → Items inner → Parts parts
        → Parts (inserted false terminals.PartInsert inner parts)

  -- the arguments of a call
  pub data Call : List Written → Type 0 where
    arguments : {inner : List Written} → Items inner
        → Call (enclosed (direct sorts.OpenParen terminals.CallParen) inner
        (direct sorts.CloseParen terminals.ParenEnd) [])
    settled : {loose exact : List Written} → Call loose → Settles loose exact → Call exact

  -- what stands in a string or a url with `#{}`
  pub data Pieces : Sort → List Written → Type 0 where
    no_piece : {what : Sort} → Pieces what []
    text_piece : {what : Sort} {pieces : List Written} → Pieces what pieces
        → Pieces what (direct what (lone what) ∷ pieces)
    piece_insert : {what : Sort} {inner pieces : List Written} → Items inner → Pieces what pieces
        → Pieces what (inserted false terminals.Insert inner pieces)

  -- what stands in brackets
  pub data Items : List Written → Type 0 where
    no_items : Items []
    items : {ended : Bool} {row : List Written} → Row modes.Expression false ended row → Items row
    seamed_items : {ended : Bool} {row : List Written} → Row modes.Expression true ended row → Items (seam ∷ row)

  -- values with signs between them: with white space before the first or not, and ending with a value or a sign
  pub data Row : Mode → Bool → Bool → List Written → Type 0 where
    first : {mode : Mode} {spaced signed : Bool} {value : List Written} → Value mode spaced signed value
        → Row mode spaced true value
    separated : {mode : Mode} {spaced ended : Bool} {row : List Written} → Row mode spaced ended row → (sort : Sort)
        → is_separator sort ≡ true → Row mode spaced false (row ++ direct sort (separator sort) ∷ [])
    further : {mode : Mode} {spaced signed : Bool} {row value : List Written} → Row mode spaced false row
        → Value mode true signed value → Row mode spaced true (row ++ value)

  -- text of a special function: in further brackets or not, and behind a value or not
  pub data Special : Bool → Bool → List Written → Type 0 where
    text_end : {inner ended : Bool} → Special inner ended []
    text_token : {inner ended spaced : Bool} {rest : List Written} → (sort : Sort) → is_raw sort ≡ true
        → Special inner false rest → Special inner ended (written sort spaced terminals.Raw ∷ rest)
    text_brace : {ended spaced : Bool} {rest : List Written} → (sort : Sort) → is_raw_sign sort ≡ true
        → Special true false rest → Special true ended (written sort spaced terminals.Raw ∷ rest)
    text_name : {inner ended spaced : Bool} {rest : List Written} → (sort : Sort) → is_name sort ≡ true
        → is_raw_name sort rest ≡ true → Special inner false rest
        → Special inner ended (written sort spaced terminals.Raw ∷ rest)
    text_dollar : {inner ended spaced : Bool} {rest : List Written} → ahead is_name 0 rest ≡ false
        → Special inner false rest → Special inner ended (written sorts.Dollar spaced terminals.Raw ∷ rest)
    text_sign : {inner ended spaced : Bool} {rest : List Written} → (sort : Sort) → is_plus_or_minus sort ≡ true
        → (ahead is_number 0 rest && is_sign sort spaced ended) ≡ false → Special inner false rest
        → Special inner ended (written sort spaced terminals.Raw ∷ rest)
    text_comma : {inner ended spaced : Bool} {rest : List Written} → Special inner false rest
        → Special inner ended (written sorts.Comma spaced terminals.SpecialComma ∷ rest)
    text_number : {inner ended spaced : Bool} {rest : List Written} → (sort : Sort) → is_number sort ≡ true
        → Special inner true rest → Special inner ended (written sort spaced terminals.Number ∷ rest)
    text_signed : {inner ended spaced : Bool} {rest : List Written} → (sort number : Sort) → is_number number ≡ true
        → is_sign sort spaced ended ≡ true → Special inner true rest
        → Special inner ended (written sort spaced terminals.Sign ∷ direct number terminals.Number ∷ rest)
    text_variable : {inner ended spaced : Bool} {others : List Terminal} {rest : List Written} → (name : Sort)
        → is_name name ≡ true → Special inner true rest
        → Special inner ended (dollar_among spaced others ∷ direct name terminals.VariableName ∷ rest)
    text_owned_variable : {inner ended spaced : Bool} {rest : List Written} → (owner name : Sort) → is_name owner ≡ true
        → is_name name ≡ true → Special inner true rest
        → Special inner ended
        (written owner spaced terminals.Owner ∷ direct sorts.Dot terminals.OwnerDot
        ∷ direct sorts.Dollar terminals.OwnerDollar ∷ direct name terminals.VariableName ∷ rest)
    text_call : {inner ended spaced : Bool} {call rest : List Written} → (name : Sort) → is_name name ≡ true
        → stays_text name ≡ false → Call call → Special inner true rest
        → Special inner ended (written name spaced terminals.Word ∷ (call ++ rest))
    text_owned_call : {inner ended spaced : Bool} {call rest : List Written} → (owner name : Sort)
        → is_name owner ≡ true
        → is_name name ≡ true → Call call → Special inner true rest
        → Special inner ended
        (written owner spaced terminals.Owner ∷ direct sorts.Dot terminals.OwnerDot ∷ direct name terminals.Word
        ∷ (call ++ rest))
    text_insert : {inner ended spaced : Bool} {inside rest : List Written} → Items inside → Special inner true rest
        → Special inner ended (inserted spaced terminals.Insert inside rest)
    text_parens : {inner ended spaced : Bool} {inside rest : List Written} → (blank : Bool) → Special true false inside
        → Special inner true rest
        → Special inner ended
        (enclosed (written sorts.OpenParen spaced terminals.RawParen) inside
        (written sorts.CloseParen blank terminals.RawParenEnd) rest)
    text_brackets : {inner ended spaced : Bool} {inside rest : List Written} → (blank : Bool)
        → Special true false inside
        → Special inner false rest
        → Special inner ended
        (enclosed (written sorts.OpenBracket spaced terminals.RawBracket) inside
        (written sorts.CloseBracket blank terminals.RawBracketEnd) rest)
    text_seam : {inner ended : Bool} {rest : List Written} → Special inner ended rest
        → Special inner ended (seam ∷ rest)

-- the flags behind a value
pub data Flags : List Written → Type 0 where
  no_flag : Flags []
  flag : {rest : List Written} → (sort : Sort) → is_flag_sort sort ≡ true → Flags rest
      → Flags (apart sorts.Exclamation terminals.Ending ∷ direct sort (behind_bang sort) ∷ rest)
