-- What a token of plain CSS is by its kind and its text (CSS Syntax; the signs of Sass stand in no plain CSS).
use Rattle.std.specs.Prelude.{ℕ, List, bytes_eq, codes, if◌then◌else◌}
use Rattle.sw_tokens.specs.declared.token.TokenKind.{TokenKind}
use Rattle.sw_tokens.specs.declared.token.TokenKind.TheVariants as kinds
use Rattle.sw_parse_css.specs.declared.state.Sort.{Sort}
use Rattle.sw_parse_css.specs.declared.state.Sort.TheVariants as sorts

-- two at-rules have a form of their own
abbrev pub at_sort : List ℕ → Sort
at_sort name =
    if bytes_eq name (codes "@charset") then sorts.AtCharset
    else (if bytes_eq name (codes "@import") then sorts.AtImport
    else sorts.AtName)

-- a token of a kind that is written as a text; of some kinds plain CSS has no token
abbrev pub sort_of : TokenKind → List ℕ → Sort
sort_of kinds.Word text = sorts.Name
sort_of kinds.Name text = sorts.Name
sort_of kinds.DashedName text = sorts.DashedName
sort_of kinds.AtName text = at_sort text
sort_of kinds.Digits text = sorts.Other
sort_of kinds.Number text = sorts.Other
sort_of kinds.Hex text = sorts.Other
sort_of (kinds.Quoted told) text = sorts.Quoted
sort_of kinds.Template text = sorts.Wrong
sort_of (kinds.Text told) text = sorts.Wrong
sort_of kinds.Piece text = sorts.Wrong
sort_of kinds.TemplateEnd text = sorts.Wrong
sort_of kinds.Url text = sorts.NameLike
sort_of kinds.UrlTemplate text = sorts.Wrong
sort_of kinds.UrlEnd text = sorts.Wrong
sort_of kinds.Comment text = sorts.Comment
sort_of kinds.CommentTemplate text = sorts.Wrong
sort_of kinds.CommentEnd text = sorts.Wrong
sort_of kinds.CommentLine text = sorts.Wrong
sort_of kinds.UnicodeRange text = sorts.NameLike
sort_of kinds.OpenInterpolation text = sorts.Wrong
sort_of kinds.CloseInterpolation text = sorts.Wrong
sort_of kinds.EqualsEquals text = sorts.Other
sort_of kinds.NotEquals text = sorts.Other
sort_of kinds.LessEquals text = sorts.Other
sort_of kinds.GreaterEquals text = sorts.Other
sort_of kinds.Ellipsis text = sorts.Other
sort_of kinds.OpenBrace text = sorts.OpenBrace
sort_of kinds.CloseBrace text = sorts.CloseBrace
sort_of kinds.OpenParen text = sorts.OpenParen
sort_of kinds.CloseParen text = sorts.CloseParen
sort_of kinds.OpenBracket text = sorts.OpenBracket
sort_of kinds.CloseBracket text = sorts.CloseBracket
sort_of kinds.Colon text = sorts.Colon
sort_of kinds.Semicolon text = sorts.Semicolon
sort_of kinds.Comma text = sorts.Other
sort_of kinds.Dot text = sorts.Other
sort_of kinds.Dollar text = sorts.Wrong
sort_of kinds.Hash text = sorts.Other
sort_of kinds.At text = sorts.At
sort_of kinds.Exclamation text = sorts.Other
sort_of kinds.Ampersand text = sorts.Wrong
sort_of kinds.Plus text = sorts.Other
sort_of kinds.Minus text = sorts.Other
sort_of kinds.Star text = sorts.Other
sort_of kinds.Slash text = sorts.Other
sort_of kinds.DoubleSlash text = sorts.Wrong
sort_of kinds.Percent text = sorts.Other
sort_of kinds.Equals text = sorts.Other
sort_of kinds.Less text = sorts.Other
sort_of kinds.Greater text = sorts.Other
sort_of kinds.Other text = sorts.Other
