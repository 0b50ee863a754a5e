-- What a token is by its kind and its text.
use Rattle.std.specs.Prelude.{ℕ, List, if◌then◌else◌}
use Rattle.sw_parse_terminals.specs.Urls.{has_namespace}
use Rattle.sw_tokens.specs.declared.token.TokenKind.{TokenKind}
use Rattle.sw_tokens.specs.declared.token.TokenKind.TheVariants as kinds
use Rattle.sw_parse_lexemes.specs.declared.sort.Sort.{Sort}
use Rattle.sw_parse_lexemes.specs.declared.sort.Sort.TheVariants as sorts
use Rattle.sw_parse_lexemes.specs.Words.{word_sort, name_sort, at_sort}

-- a string by the text that it stands for: the address of a load may give a namespace
abbrev pub quoted_sort : List ℕ → Sort
quoted_sort told = if has_namespace told then sorts.Quoted else sorts.Unnamed

-- a token of a kind that is written as a text
abbrev pub sort_of : TokenKind → List ℕ → Sort
sort_of kinds.Word text = word_sort text
sort_of kinds.Name text = name_sort text
sort_of kinds.DashedName text = sorts.DashedName
sort_of kinds.AtName text = at_sort text
sort_of kinds.Digits text = sorts.Digits
sort_of kinds.Number text = sorts.Number
sort_of kinds.Hex text = sorts.Hex
sort_of (kinds.Quoted told) text = quoted_sort told
sort_of kinds.Template text = sorts.Template
sort_of (kinds.Text told) text = sorts.Text
sort_of kinds.Piece text = sorts.Piece
sort_of kinds.TemplateEnd text = sorts.TemplateEnd
sort_of kinds.Url text = sorts.Url
sort_of kinds.UrlTemplate text = sorts.UrlTemplate
sort_of kinds.UrlEnd text = sorts.UrlEnd
sort_of kinds.Comment text = sorts.Comment
sort_of kinds.CommentTemplate text = sorts.CommentTemplate
sort_of kinds.CommentEnd text = sorts.CommentEnd
sort_of kinds.CommentLine text = sorts.Piece
sort_of kinds.UnicodeRange text = sorts.Range
sort_of kinds.OpenInterpolation text = sorts.OpenInsert
sort_of kinds.CloseInterpolation text = sorts.CloseInsert
sort_of kinds.EqualsEquals text = sorts.EqualsEquals
sort_of kinds.NotEquals text = sorts.NotEquals
sort_of kinds.LessEquals text = sorts.LessEquals
sort_of kinds.GreaterEquals text = sorts.GreaterEquals
sort_of kinds.Ellipsis text = sorts.Ellipsis
sort_of kinds.OpenBrace text = sorts.OpenBrace
sort_of kinds.CloseBrace text = sorts.CloseBrace
sort_of kinds.OpenParen text = sorts.OpenParen
sort_of kinds.CloseParen text = sorts.CloseParen
sort_of kinds.OpenBracket text = sorts.OpenBracket
sort_of kinds.CloseBracket text = sorts.CloseBracket
sort_of kinds.Colon text = sorts.Colon
sort_of kinds.Semicolon text = sorts.Semicolon
sort_of kinds.Comma text = sorts.Comma
sort_of kinds.Dot text = sorts.Dot
sort_of kinds.Dollar text = sorts.Dollar
sort_of kinds.Hash text = sorts.Hash
sort_of kinds.At text = sorts.At
sort_of kinds.Exclamation text = sorts.Exclamation
sort_of kinds.Ampersand text = sorts.Ampersand
sort_of kinds.Plus text = sorts.Plus
sort_of kinds.Minus text = sorts.Minus
sort_of kinds.Star text = sorts.Star
sort_of kinds.Slash text = sorts.Slash
sort_of kinds.Percent text = sorts.Percent
sort_of kinds.DoubleSlash text = sorts.Other
sort_of kinds.Equals text = sorts.Equals
sort_of kinds.Less text = sorts.Less
sort_of kinds.Greater text = sorts.Greater
sort_of kinds.Other text = sorts.Other
