-- What a sheet in lines can hold: a text up to the end of its statement or to its block that holds none of the signs for
-- which lines stand, no string over a line's end and no `\` before a line's end but at its own, and that doesn't end in a
-- comma, behind which it would go on.
use Rattle.std.specs.Prelude.{ℕ, ◌+◌, ◌-◌, Bool, true, false, not, ◌&&◌, ◌||◌, ◌==◌, List, [], ◌∷◌, take, drop, Result, Ok, Err}
use Rattle.std.specs.List.{list_any}
use Rattle.sw_text_scan.specs.Bytes.{sign, is_break}
use Rattle.sw_tokens.specs.declared.token.Token.{Token}
use Rattle.sw_tokens.specs.declared.token.TokenKind.{TokenKind}
use Rattle.sw_tokens.specs.declared.token.TokenKind.TheVariants as kinds
use Rattle.sw_tokens.specs.Ends.{tokens_of}
use Rattle.sw_convert_written.specs.Pieces.{Written, Said}
use Rattle.sw_convert_lines.specs.declared.held.Look.{Look}

-- the signs for which lines stand: in the text of a custom property braces too, in any other brackets are around those
abbrev pub is_line_sign : Bool → TokenKind → Bool
is_line_sign custom kinds.Semicolon = true
is_line_sign custom kinds.OpenBrace = custom
is_line_sign custom kinds.CloseBrace = custom
is_line_sign custom _ = false

-- a whole string, or text of one with `#{}`
abbrev pub is_string : TokenKind → Bool
is_string (kinds.Quoted text) = true
is_string (kinds.Text text) = true
is_string _ = false

-- a `\` by itself, which stands before the end of a line alone
abbrev pub is_backslash : List ℕ → Bool
is_backslash (b ∷ []) = b == sign "\\"
is_backslash _ = false

abbrev pub is_comma : TokenKind → Bool
is_comma kinds.Comma = true
is_comma _ = false

abbrev pub token_text : List ℕ → Token → List ℕ
token_text bytes t = take (t.to - t.from) (drop t.from bytes)

-- a sign for which lines stand, or a string over the end of a line
abbrev pub is_refused : Bool → List ℕ → Token → Bool
is_refused custom bytes t =
    is_line_sign custom t.kind || (is_string t.kind && list_any is_break (token_text bytes t))

-- how many `#{` are open behind a token
abbrev pub inserts_behind : ℕ → TokenKind → ℕ
inserts_behind inserts kinds.OpenInterpolation = inserts + 1
inserts_behind inserts kinds.CloseInterpolation = inserts - 1
inserts_behind inserts _ = inserts

-- nothing is told before the first token
abbrev pub unlooked : Look
unlooked = record { inserts = 0; refused = false; comma = false; cut = false }

-- what a text tells with one token more
abbrev pub look_with : Bool → List ℕ → Look → Token → Look
look_with custom bytes look t = record {
  inserts = inserts_behind look.inserts t.kind;
  refused = look.refused || (look.cut || ((look.inserts == 0) && is_refused custom bytes t));
  comma = is_comma t.kind;
  cut = (look.inserts == 0) && is_backslash (token_text bytes t);
}

abbrev pub look_over : Bool → List ℕ → Look → List Token → Look
look_over custom bytes look [] = look
look_over custom bytes look (t ∷ ts) = look_over custom bytes (look_with custom bytes look t) ts

abbrev pub is_kept : Look → Bool
is_kept look = not look.refused && not look.comma

abbrev pub held_by : Bool → List ℕ → Result (List Token) ℕ → Bool
held_by custom bytes (Ok tokens) = is_kept (look_over custom bytes unlooked tokens)
held_by custom bytes (Err k) = false

unfoldable pub is_held : Bool → List ℕ → Bool
is_held custom bytes = held_by custom bytes (tokens_of bytes)

-- ---- the text of a custom property goes over no line

abbrev pub breaks_piece : Written → Bool
breaks_piece (Said text) = list_any is_break text
breaks_piece _ = false

abbrev pub breaks_pieces : List Written → Bool
breaks_pieces pieces = list_any breaks_piece pieces

-- ---- the signs with which a line begins that isn't a rule's

abbrev pub begins_member : List ℕ → Bool
begins_member [] = false
begins_member (b ∷ bytes) = (b == sign "+") || (b == sign "=")
