-- Classes of tokens by themselves, and the terminals that they are where a value is read.
use Rattle.std.specs.Prelude.{Bool, true, false, not, ◌&&◌, ◌||◌}
use Rattle.sw_parse_terminals.specs.declared.terminal.Terminal.{Terminal}
use Rattle.sw_parse_terminals.specs.declared.terminal.Terminal.TheVariants as terminals
use Rattle.sw_parse_lexemes.specs.declared.sort.Sort.{Sort}
use Rattle.sw_parse_lexemes.specs.declared.sort.Sort.TheVariants as sorts
use Rattle.sw_parse_lexemes.specs.declared.state.Mode.{Mode}
use Rattle.sw_parse_lexemes.specs.declared.state.Mode.TheVariants as modes
use Rattle.sw_parse_lexemes.specs.Classes.{is_name, is_reserved, same}
use Rattle.sw_parse_lexemes.specs.Names.{is_special_name}

abbrev pub is_quoted : Sort → Bool
is_quoted sorts.Quoted = true
is_quoted sorts.Unnamed = true
is_quoted _ = false

-- what may stand directly behind a `#`
abbrev pub is_hash_name : Sort → Bool
is_hash_name sorts.Hex = true
is_hash_name sort = is_name sort

-- a name that is a constant or an operator, whatever stands around it
abbrev pub is_keyword : Sort → Bool
is_keyword sorts.True = true
is_keyword sorts.False = true
is_keyword sorts.Null = true
is_keyword sorts.And = true
is_keyword sorts.Or = true
is_keyword sorts.Not = true
is_keyword _ = false

abbrev pub is_constant : Sort → Bool
is_constant sorts.True = true
is_constant sorts.False = true
is_constant sorts.Null = true
is_constant _ = false

abbrev pub keyword : Sort → Terminal
keyword sorts.True = terminals.True
keyword sorts.False = terminals.False
keyword sorts.Null = terminals.Null
keyword sorts.And = terminals.And
keyword sorts.Or = terminals.Or
keyword sorts.Not = terminals.Not
keyword _ = terminals.Word

-- `through` and `to` in the bounds of `@for`
abbrev pub is_bound : Sort → Bool
is_bound sorts.Through = true
is_bound sorts.To = true
is_bound _ = false

abbrev pub ends_bound : Mode → Sort → Bool
ends_bound modes.Bounds sort = is_bound sort
ends_bound modes.BoundEnds sort = is_bound sort
ends_bound _ sort = false

-- a name that is a word: in a mode, behind a namespace or not, and before the arguments of a call or not
abbrev pub is_word : Mode → Bool → Bool → Sort → Bool
is_word mode owned called sort =
    not (is_reserved sort) && (not (ends_bound mode sort) && (owned || (not called || not (is_special_name sort))))

-- what goes on with a word, but a `#{`
abbrev pub is_part : Sort → Bool
is_part sorts.Digits = true
is_part sorts.Minus = true
is_part sort = is_name sort

-- tokens that are the same wherever a value stands
abbrev pub is_lone : Sort → Bool
is_lone sorts.Hex = true
is_lone sorts.Template = true
is_lone sorts.Text = true
is_lone sorts.TemplateEnd = true
is_lone sorts.Url = true
is_lone sorts.UrlTemplate = true
is_lone sorts.Piece = true
is_lone sorts.UrlEnd = true
is_lone sorts.Range = true
is_lone sorts.Colon = true
is_lone sorts.Ellipsis = true
is_lone sorts.Hash = true
is_lone sorts.Ampersand = true
is_lone sorts.Percent = true
is_lone sorts.EqualsEquals = true
is_lone sorts.NotEquals = true
is_lone sorts.Less = true
is_lone sorts.LessEquals = true
is_lone sorts.Greater = true
is_lone sorts.GreaterEquals = true
is_lone _ = false

abbrev pub lone : Sort → Terminal
lone sorts.Hex = terminals.HashName
lone sorts.Template = terminals.Template
lone sorts.Text = terminals.TextPiece
lone sorts.TemplateEnd = terminals.TemplateEnd
lone sorts.Url = terminals.Url
lone sorts.UrlTemplate = terminals.UrlTemplate
lone sorts.Piece = terminals.Piece
lone sorts.UrlEnd = terminals.UrlEnd
lone sorts.Range = terminals.Range
lone sorts.Colon = terminals.Colon
lone sorts.Ellipsis = terminals.Ellipsis
lone sorts.Hash = terminals.Hash
lone sorts.Ampersand = terminals.Ampersand
lone sorts.Percent = terminals.Modulo
lone sorts.EqualsEquals = terminals.Equal
lone sorts.NotEquals = terminals.NotEqual
lone sorts.Less = terminals.Less
lone sorts.LessEquals = terminals.LessEqual
lone sorts.Greater = terminals.Greater
lone sorts.GreaterEquals = terminals.GreaterEqual
lone _ = terminals.Other

-- the same that are a value by themselves
abbrev pub is_lone_value : Sort → Bool
is_lone_value sorts.Url = true
is_lone_value sorts.Range = true
is_lone_value sorts.Ampersand = true
is_lone_value _ = false

-- operators between two values, and before one
abbrev pub is_operator : Sort → Bool
is_operator sorts.Or = true
is_operator sorts.And = true
is_operator sorts.EqualsEquals = true
is_operator sorts.NotEquals = true
is_operator sorts.Less = true
is_operator sorts.LessEquals = true
is_operator sorts.Greater = true
is_operator sorts.GreaterEquals = true
is_operator sorts.Plus = true
is_operator sorts.Minus = true
is_operator sorts.Star = true
is_operator sorts.Slash = true
is_operator sorts.Percent = true
is_operator _ = false

abbrev pub operator : Sort → Terminal
operator sorts.Or = terminals.Or
operator sorts.And = terminals.And
operator sorts.EqualsEquals = terminals.Equal
operator sorts.NotEquals = terminals.NotEqual
operator sorts.Less = terminals.Less
operator sorts.LessEquals = terminals.LessEqual
operator sorts.Greater = terminals.Greater
operator sorts.GreaterEquals = terminals.GreaterEqual
operator sorts.Plus = terminals.Plus
operator sorts.Minus = terminals.Minus
operator sorts.Star = terminals.Times
operator sorts.Slash = terminals.Divide
operator _ = terminals.Modulo

abbrev pub is_prefix : Sort → Bool
is_prefix sorts.Plus = true
is_prefix sorts.Minus = true
is_prefix sorts.Slash = true
is_prefix _ = false

abbrev pub prefix : Sort → Terminal
prefix sorts.Plus = terminals.PrefixPlus
prefix sorts.Minus = terminals.PrefixMinus
prefix _ = terminals.PrefixSlash

-- signs between values
abbrev pub is_separator : Sort → Bool
is_separator sorts.Comma = true
is_separator sorts.Colon = true
is_separator sorts.Ellipsis = true
is_separator _ = false

abbrev pub separator : Sort → Terminal
separator sorts.Comma = terminals.Comma
separator sorts.Colon = terminals.Colon
separator _ = terminals.Ellipsis

-- tokens that are text in a special function wherever they stand there
abbrev pub is_raw : Sort → Bool
is_raw sorts.Hex = true
is_raw sorts.Quoted = true
is_raw sorts.Unnamed = true
is_raw sorts.Template = true
is_raw sorts.Text = true
is_raw sorts.TemplateEnd = true
is_raw sorts.Url = true
is_raw sorts.UrlTemplate = true
is_raw sorts.Piece = true
is_raw sorts.UrlEnd = true
is_raw sorts.Range = true
is_raw sorts.Colon = true
is_raw sorts.Dot = true
is_raw sorts.Ellipsis = true
is_raw sorts.Hash = true
is_raw sorts.Exclamation = true
is_raw sorts.Ampersand = true
is_raw sorts.Star = true
is_raw sorts.Slash = true
is_raw sorts.Percent = true
is_raw sorts.Equals = true
is_raw sorts.EqualsEquals = true
is_raw sorts.NotEquals = true
is_raw sorts.Less = true
is_raw sorts.LessEquals = true
is_raw sorts.Greater = true
is_raw sorts.GreaterEquals = true
is_raw sorts.Other = true
is_raw sorts.At = true
is_raw sorts.AtUse = true
is_raw sorts.AtForward = true
is_raw sorts.AtFunction = true
is_raw sorts.AtMixin = true
is_raw sorts.AtInclude = true
is_raw sorts.AtContent = true
is_raw sorts.AtReturn = true
is_raw sorts.AtWarn = true
is_raw sorts.AtDebug = true
is_raw sorts.AtError = true
is_raw sorts.AtIf = true
is_raw sorts.AtElse = true
is_raw sorts.AtElseIf = true
is_raw sorts.AtEach = true
is_raw sorts.AtFor = true
is_raw sorts.AtWhile = true
is_raw sorts.AtMedia = true
is_raw sorts.AtSupports = true
is_raw sorts.AtRoot = true
is_raw sorts.AtCharset = true
is_raw sorts.AtImport = true
is_raw sorts.AtExtend = true
is_raw sorts.AtName = true
is_raw _ = false

-- signs that are text in brackets there
abbrev pub is_raw_sign : Sort → Bool
is_raw_sign sorts.OpenBrace = true
is_raw_sign sorts.CloseBrace = true
is_raw_sign sorts.Semicolon = true
is_raw_sign _ = false

abbrev pub is_dot : Sort → Bool
is_dot sort = same sort sorts.Dot

abbrev pub is_dollar : Sort → Bool
is_dollar sort = same sort sorts.Dollar

abbrev pub is_paren : Sort → Bool
is_paren sort = same sort sorts.OpenParen

-- a `+` or `-` that a number follows is its sign; behind a value or not
abbrev pub is_sign : Sort → Bool → Bool → Bool
is_sign sorts.Plus spaced ended = not ended
is_sign sorts.Minus spaced ended = spaced || not ended
is_sign _ spaced ended = false

abbrev pub is_plus_or_minus : Sort → Bool
is_plus_or_minus sorts.Plus = true
is_plus_or_minus sorts.Minus = true
is_plus_or_minus _ = false

-- `default` and `global` behind `!`
abbrev pub is_flag_sort : Sort → Bool
is_flag_sort sorts.Default = true
is_flag_sort sorts.Global = true
is_flag_sort _ = false
