-- Lines can hold the tokens of a text one by one where the writer of lines tells so of it.
use Rattle.std.specs.Prelude.{◌≡◌, Bool, true, false, not, ◌&&◌, List, [], ◌∷◌, Some}
use Rattle.std.specs.List.{list_all}
use Rattle.sw_tokens.specs.declared.pieces.Before.TheVariants as befores
use Rattle.sw_tokens.specs.declared.skips.Inside.{Inside}
use Rattle.sw_tokens.specs.Tokens.{before_of, is_spaced}
use Rattle.sw_text.specs.Places.{mark_length}
use Rattle.sw_parse_layout.specs.Lines.{is_blank}
use Rattle.sw_convert_spelling.specs.Spelt.{Spelt, text_of, opened, AreTokens}
use Rattle.sw_convert_lines.specs.Held.{is_held}
use Rattle.sw_convert_heads_laid.specs.Holds.{begins_line, holds_line}

-- outside strings, urls and `#{}` no line ends before a token
abbrev pub are_blank : List Inside → List Spelt → Bool
are_blank stack [] = true
are_blank [] (spelt ∷ list) = list_all is_blank spelt.gap && are_blank (opened [] spelt.change) list
are_blank (inside ∷ outer) (spelt ∷ list) = are_blank (opened (inside ∷ outer) spelt.change) list

-- the last one ends no comment
abbrev pub ends_black : Bool → List Spelt → Bool
ends_black ends [] = ends
ends_black ends (spelt ∷ list) = ends_black (not (is_spaced (before_of (Some spelt.kind)))) list

-- the tokens of a text, before which no white space stands
abbrev pub HeldTextsHold : Type 0
HeldTextsHold =
    (custom : Bool) (list : List Spelt) → AreTokens [] befores.Other list → mark_length (text_of list) ≡ 0
    → is_held custom (text_of list) ≡ true → begins_line list ≡ true → are_blank [] list ≡ true → ends_black false list ≡ true
    → holds_line custom list ≡ true
