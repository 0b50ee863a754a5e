-- A hexadecimal form stands directly behind a `#`.
use Rattle.std.proofs.Common.{◌≡◌, ℕ, ◌+◌, Bool, true, false, not, ◌&&◌, if◌then◌else◌, nat_lt, List, Option, Some, None, refl, sym, ◌∙◌, ap}
use Rattle.std.specs.Prelude.{◌==◌, slice_range}
use Rattle.sw_text_scan.specs.declared.runs.Class.TheVariants as classes
use Rattle.sw_text_scan.specs.Bytes.{sign, byte, is_white, is_quote, opens_at, begins_silent, begins_loud, ends_loud}
use Rattle.sw_text_scan.specs.Runs.{run_end}
use Rattle.sw_text_scan.specs.Words.{begins_number, begins_range, begins_url, url_close, unit_start, unit_end}
use Rattle.sw_tokens.specs.declared.pieces.Before.{Before}
use Rattle.sw_tokens.specs.declared.pieces.Change.{Change}
use Rattle.sw_tokens.specs.declared.pieces.Change.TheVariants as changes
use Rattle.sw_tokens.specs.declared.pieces.Piece.{Piece}
use Rattle.sw_tokens.specs.declared.skips.Inside.{Inside}
use Rattle.sw_tokens.specs.declared.skips.Inside.TheVariants as insides
use Rattle.sw_tokens.specs.declared.token.TokenKind.{TokenKind}
use Rattle.sw_tokens.specs.declared.token.TokenKind.TheVariants as kinds
use Rattle.sw_tokens.specs.Decoded.{decoded}
use Rattle.sw_tokens.specs.Pieces.{made, made_white, piece, text_piece, is_hex_form, number_piece, name_piece, url_class, opens_url, url_piece, after_dollar, after_hash, quote_piece, word_piece, comment_piece, loud_piece, in_interpolation, code_piece, css_quote, css_loud, css_piece}
use Rattle.sw_convert_spelling.proofs.Choices.{left_no, by_test, to_of}
use Rattle.sw_convert_tokens.proofs.PieceCases.{is_sign, Cases, piece_has}
use Rattle.sw_convert_texts.proofs.Pieces.{is_named, name_has}

abbrev pub is_hex : TokenKind → Bool
is_hex kinds.Hex = true
is_hex _ = false

abbrev has_hex : Option TokenKind → Bool
has_hex None = false
has_hex (Some kind) = is_hex kind

abbrev hexless : Option Piece → Bool
hexless None = true
hexless (Some p) = not (has_hex p.token)

pub record HexHere (bs : List ℕ) (n : ℕ) : Type 0 where
  pub form : is_hex_form bs 0 ≡ true
  pub run : run_end classes.HexDigit bs 0 ≡ n

clash : {P : Type 0} (o : Option Piece) (n : ℕ) (change : Change) → hexless o ≡ true → o ≡ made kinds.Hex n change → P
clash o n change none is = absurd (let wrong : true ≡ false = sym none ∙ ap hexless is in cc)

module _ (bs : List ℕ) (at : ℕ) where
  pick : (t : Bool) (x y : Option Piece) → hexless x ≡ true → hexless y ≡ true → hexless (if t then x else y) ≡ true
  pick true x y e f = e
  pick false x y e f = f

  other : (t : Bool) (x y : Option Piece) → t ≡ false → hexless y ≡ true → hexless (if t then x else y) ≡ true
  other true x y e f = absurd (cc)
  other false x y e f = f

  of_named : (kind : TokenKind) → is_named kind ≡ true → (n : ℕ) (change : Change) → hexless (made kind n change) ≡ true
  of_named kinds.Hex e n change = absurd (cc)
  of_named _ e n change = refl

  of_sign : (kind : TokenKind) → is_sign kind ≡ true → (n : ℕ) (change : Change) → hexless (made kind n change) ≡ true
  of_sign kinds.Hex e n change = absurd (cc)
  of_sign _ e n change = refl

  name_hexless : hexless (name_piece bs at) ≡ true
  name_hexless = name_has bs at (λ o. hexless o ≡ true) of_named

  number_hexless : hexless (number_piece bs at) ≡ true
  unfolding number_piece
  number_hexless = kind ((run_end classes.Digit bs at == unit_start bs at) && not (byte bs (unit_start bs at) == sign "%"))
    where
      kind : (t : Bool)
          → hexless (made (if t then kinds.Digits else kinds.Number) (unit_end bs (unit_start bs at)) changes.Keep) ≡ true
      kind true = refl
      kind false = refl

  quote_hexless : (q : ℕ) → hexless (quote_piece bs q at) ≡ true
  unfolding quote_piece
  quote_hexless q = pick (byte bs (run_end (classes.SheetText q) bs (at + 1)) == q) _ _ refl refl

  module _ (before : Before) (apart : after_hash before ≡ false) where
    word_hexless : (top : Inside) → hexless (word_piece bs top before at) ≡ true
    unfolding word_piece
    word_hexless top =
        other (after_hash before && is_hex_form bs at) _ _ (left_no (after_hash before) _ apart)
        (pick (begins_number bs at) _ _ number_hexless
        (pick (not (after_dollar before) && begins_range bs at) _ _ refl
        (pick (begins_url bs at && (byte bs (url_close bs (url_class top) at) == sign ")")) _ _ refl
        (pick (opens_url bs top at) _ _ refl name_hexless))))

    code_hexless : (top : Inside) → hexless (code_piece bs top before at) ≡ true
    unfolding code_piece loud_piece
    code_hexless top =
        pick (is_white (byte bs at)) _ _ refl
        (pick (is_quote (byte bs at)) _ _ (quote_hexless (byte bs at))
        (pick (opens_at bs at) _ _ refl
        (pick ((byte bs at == sign "}") && in_interpolation top) _ _ refl
        (pick (begins_silent bs at) _ _ refl
        (pick (begins_loud bs at) _ _
        (pick (ends_loud bs (run_end classes.Comment bs (at + 2))) _ _ refl refl) (word_hexless top))))))

    css_hexless : hexless (css_piece bs before at) ≡ true
    unfolding css_piece css_quote css_loud
    css_hexless =
        pick (is_white (byte bs at)) _ _ refl
        (pick (is_quote (byte bs at)) _ _
        (pick (byte bs (run_end (classes.Text (byte bs at)) bs (at + 1)) == byte bs at) _ _ refl refl)
        (pick (opens_at bs at) _ _ refl
        (pick (begins_silent bs at) _ _ refl
        (pick (begins_loud bs at) _ _
        (pick (ends_loud bs (run_end classes.CssComment bs (at + 2))) _ _ refl refl) (word_hexless insides.Css)))))

    piece_hexless : (inside : Inside) → hexless (piece bs inside before at) ≡ true
    unfolding text_piece url_piece comment_piece
    piece_hexless insides.Sheet = code_hexless insides.Sheet
    piece_hexless insides.Interpolation = code_hexless insides.Interpolation
    piece_hexless insides.Css = css_hexless
    piece_hexless (insides.Quotes q) =
        pick (byte bs at == q) _ _ refl
        (pick (opens_at bs at) _ _ refl (pick (nat_lt at (run_end (classes.SheetText q) bs at)) _ _ refl refl))
    piece_hexless insides.Comment =
        pick (ends_loud bs at) _ _ refl
        (pick (opens_at bs at) _ _ refl (pick (nat_lt at (run_end classes.Comment bs at)) _ _ refl refl))
    piece_hexless insides.Url =
        pick (byte bs at == sign ")") _ _ refl
        (pick (opens_at bs at) _ _ refl
        (pick (nat_lt at (run_end classes.Url bs at)) _ _ refl (pick (is_white (byte bs at)) _ _ refl refl)))
    piece_hexless insides.UrlInside =
        pick (byte bs at == sign ")") _ _ refl
        (pick (opens_at bs at) _ _ refl
        (pick (nat_lt at (run_end classes.UrlInside bs at)) _ _ refl (pick (is_white (byte bs at)) _ _ refl refl)))

module _ (bs : List ℕ) (n : ℕ) (change : Change) where
  pub hex_behind : (inside : Inside) (before : Before) → piece bs inside before 0 ≡ made kinds.Hex n change
      → after_hash before ≡ true
  hex_behind inside before is =
      by_test (after_hash before ≡ true) (after_hash before) (λ t. t)
      (λ t. clash _ n change (piece_hexless bs 0 before t inside) is)

  hex_cases : Cases bs 0 (λ o. o ≡ made kinds.Hex n change → HexHere bs n)
  hex_cases = record {
    none = λ e. clash None n change refl e;
    white = λ m e. clash (made_white m) n change refl e;
    plain = λ kind o m c e. clash (made kind m c) n change (of_sign bs 0 kind o m c) e;
    quoted = λ i j m e. clash (made (kinds.Quoted (decoded (slice_range bs i j))) m changes.Keep) n change refl e;
    text = λ i j m e. clash (made (kinds.Text (decoded (slice_range bs i j))) m changes.Keep) n change refl e;
    name = λ e. clash (name_piece bs 0) n change (name_hexless bs 0) e;
    number = λ b e. clash (number_piece bs 0) n change (number_hexless bs 0) e;
    hex = λ b e. record { form = b; run = ap to_of e };
    range = λ b e. clash (made kinds.UnicodeRange (run_end classes.Range bs (0 + 2)) changes.Keep) n change refl e;
  }

  pub hex_in : (inside : Inside) (before : Before) → piece bs inside before 0 ≡ made kinds.Hex n change → HexHere bs n
  hex_in inside before =
      piece_has bs 0 (λ o. o ≡ made kinds.Hex n change → HexHere bs n) hex_cases inside before
