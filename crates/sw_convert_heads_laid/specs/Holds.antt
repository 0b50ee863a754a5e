-- What lines can hold of the tokens of a statement, whatever its form: each by itself, and the last one.
use Rattle.std.specs.Prelude.{Bool, true, false, not, ◌&&◌, ◌||◌, List, [], ◌∷◌, Some}
use Rattle.std.specs.List.{list_all}
use Rattle.sw_tokens.specs.declared.skips.Inside.{Inside}
use Rattle.sw_tokens.specs.declared.token.TokenKind.{TokenKind}
use Rattle.sw_tokens.specs.declared.token.TokenKind.TheVariants as kinds
use Rattle.sw_tokens.specs.Tokens.{before_of, is_spaced}
use Rattle.sw_parse_layout.specs.Lines.{is_blank}
use Rattle.sw_convert_spelling.specs.Spelt.{Spelt, opened}
use Rattle.sw_convert_laid.specs.Held.{has_none}

-- the signs for which lines stand: in the text of a custom property braces too
abbrev pub is_line_sign : Bool → TokenKind → Bool
is_line_sign custom kinds.Semicolon = true
is_line_sign custom kinds.OpenBrace = custom
is_line_sign custom kinds.CloseBrace = custom
is_line_sign custom _ = false

abbrev pub is_comma : TokenKind → Bool
is_comma kinds.Comma = true
is_comma _ = false

-- outside strings, urls and `#{}` no such sign, and no end of a line before a token
abbrev pub is_kept : Bool → List Inside → Spelt → Bool
is_kept custom [] spelt = list_all is_blank spelt.gap && not (is_line_sign custom spelt.kind)
is_kept custom (inside ∷ outer) spelt = true

abbrev pub are_kept : Bool → List Inside → List Spelt → Bool
are_kept custom stack [] = true
are_kept custom stack (spelt ∷ list) = is_kept custom stack spelt && are_kept custom (opened stack spelt.change) list

-- the last one is no comma, behind which a statement would go on, and ends no comment
abbrev pub ends_line : Bool → List Spelt → Bool
ends_line ends [] = ends
ends_line ends (spelt ∷ list) = ends_line (not (is_comma spelt.kind || is_spaced (before_of (Some spelt.kind)))) list

-- no white space stands before the first
abbrev pub begins_line : List Spelt → Bool
begins_line [] = false
begins_line (spelt ∷ list) = has_none spelt.gap

-- lines can hold these tokens, in a custom property or elsewhere
abbrev pub holds_line : Bool → List Spelt → Bool
holds_line custom list = begins_line list && (are_kept custom [] list && ends_line false list)
