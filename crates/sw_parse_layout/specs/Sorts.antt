-- What the tokens of a statement so far tell: after a comma that ends a line of a selector the statement goes on.
use Rattle.std.specs.Prelude.{Bool, true, false, not, ◌&&◌, if◌then◌else◌}
use Rattle.sw_tokens.specs.declared.token.TokenKind.{TokenKind}
use Rattle.sw_tokens.specs.declared.token.TokenKind.TheVariants as kinds
use Rattle.sw_parse_layout.specs.declared.sorts.Sort.{Sort}
use Rattle.sw_parse_layout.specs.declared.sorts.Sort.TheVariants as sorts

-- inside a selector, or at a comma in it
abbrev pub selector_by : TokenKind → Sort
selector_by kinds.Comma = sorts.Comma
selector_by _ = sorts.Selector

-- of a statement's first token
abbrev pub first_sort : TokenKind → Sort
first_sort kinds.AtName = sorts.Other
first_sort kinds.At = sorts.Other
first_sort kinds.Dollar = sorts.Other
first_sort kinds.Word = sorts.Named
first_sort kinds.Name = sorts.Named
first_sort kinds.DashedName = sorts.Dashed
first_sort kinds.Minus = sorts.Minus
first_sort kinds.OpenInterpolation = sorts.Word
first_sort kind = selector_by kind

-- what a word goes on with
abbrev pub goes_on : TokenKind → Bool
goes_on kinds.Word = true
goes_on kinds.Name = true
goes_on kinds.DashedName = true
goes_on kinds.Digits = true
goes_on kinds.Minus = true
goes_on kinds.OpenInterpolation = true
goes_on _ = false

abbrev pub is_interpolation : TokenKind → Bool
is_interpolation kinds.OpenInterpolation = true
is_interpolation _ = false

abbrev pub is_dollar : TokenKind → Bool
is_dollar kinds.Dollar = true
is_dollar _ = false

-- what directly behind the `:` after a word makes a selector
abbrev pub is_pseudo : TokenKind → Bool
is_pseudo kinds.Word = true
is_pseudo kinds.Name = true
is_pseudo kinds.DashedName = true
is_pseudo kinds.Url = true
is_pseudo kinds.UrlTemplate = true
is_pseudo kinds.UnicodeRange = true
is_pseudo kinds.OpenInterpolation = true
is_pseudo kinds.Colon = true
is_pseudo _ = false

-- behind a word that goes no further
abbrev pub behind_word : TokenKind → Sort
behind_word kinds.Colon = sorts.Colon
behind_word kind = selector_by kind

abbrev pub behind_dashed : TokenKind → Sort
behind_dashed kinds.Colon = sorts.Other
behind_dashed kind = selector_by kind

abbrev pub is_dot : TokenKind → Bool
is_dot kinds.Dot = true
is_dot _ = false

-- behind a name that may be a namespace
abbrev pub behind_name : TokenKind → Bool → Sort
behind_name kind spaced =
    if is_dot kind && not spaced then sorts.Dotted
    else (if goes_on kind && not spaced then sorts.Word else behind_word kind)

-- a statement with one token more, which stands outside `#{}`
unfoldable pub sorted : Sort → TokenKind → Bool → Sort
sorted sorts.Fresh kind spaced = first_sort kind
sorted sorts.Minus kind spaced = if is_interpolation kind && not spaced then sorts.Word else selector_by kind
sorted sorts.Named kind spaced = behind_name kind spaced
sorted sorts.Dotted kind spaced = if is_dollar kind && not spaced then sorts.Other else selector_by kind
sorted sorts.Word kind spaced = if goes_on kind && not spaced then sorts.Word else behind_word kind
sorted sorts.Dashed kind spaced = if goes_on kind && not spaced then sorts.Dashed else behind_dashed kind
sorted sorts.Colon kind spaced = if is_pseudo kind && not spaced then sorts.Selector else sorts.Other
sorted sorts.Selector kind spaced = selector_by kind
sorted sorts.Comma kind spaced = selector_by kind
sorted sorts.Other kind spaced = sorts.Other
