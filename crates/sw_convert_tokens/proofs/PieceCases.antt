-- What begins at a place, case by case: strings, text in them, unicode ranges, white space, and all other tokens.
use Rattle.std.proofs.Common.{◌≡◌, ℕ, ◌+◌, Bool, true, false, not, ◌&&◌, if◌then◌else◌, List, Option, None, refl}
use Rattle.std.specs.Prelude.{◌==◌, nat_lt, slice_range}
use Rattle.sw_text_scan.specs.declared.runs.Class.{Class}
use Rattle.sw_text_scan.specs.declared.runs.Class.TheVariants as classes
use Rattle.sw_text_scan.specs.Bytes.{sign, byte, is_white, is_quote, is_letter, opens_at, begins_silent, begins_loud, ends_loud}
use Rattle.sw_text_scan.specs.Runs.{run_end, begins_name}
use Rattle.sw_text_scan.specs.Words.{begins_number, begins_range, begins_url, url_close, unit_start}
use Rattle.sw_text_scan.proofs.Bounds.{and_left, and_right}
use Rattle.sw_tokens.specs.declared.pieces.Before.{Before}
use Rattle.sw_tokens.specs.declared.pieces.Change.{Change}
use Rattle.sw_tokens.specs.declared.pieces.Change.TheVariants as changes
use Rattle.sw_tokens.specs.declared.pieces.Piece.{Piece}
use Rattle.sw_tokens.specs.declared.skips.Inside.{Inside}
use Rattle.sw_tokens.specs.declared.skips.Inside.TheVariants as insides
use Rattle.sw_tokens.specs.declared.token.TokenKind.{TokenKind}
use Rattle.sw_tokens.specs.declared.token.TokenKind.TheVariants as kinds
use Rattle.sw_tokens.specs.Decoded.{decoded}
use Rattle.sw_tokens.specs.Pieces.{made, made_white, piece, text_piece, quote_piece, sign_of, sign_piece, letter_kind, dash_kind, name_piece, is_hex_form, number_kind, number_piece, url_class, url_inside, opens_url, url_piece, after_dollar, after_hash, word_piece, comment_piece, loud_piece, in_interpolation, code_piece, css_quote, css_loud, css_piece}
use Rattle.sw_convert_spelling.proofs.Choices.{is_name}

-- neither a string, nor text in one, nor a unicode range
abbrev pub is_plain : TokenKind → Bool
is_plain (kinds.Quoted text) = false
is_plain (kinds.Text text) = false
is_plain kinds.UnicodeRange = false
is_plain _ = true

-- nor digits, a number, a hexadecimal form, `+` or `-`
abbrev pub is_counted : TokenKind → Bool
is_counted kinds.Digits = true
is_counted kinds.Number = true
is_counted kinds.Hex = true
is_counted kinds.Plus = true
is_counted kinds.Minus = true
is_counted _ = false

abbrev pub is_bare : TokenKind → Bool
is_bare kind = is_plain kind && not (is_counted kind)

-- nor a name
abbrev pub is_sign : TokenKind → Bool
is_sign kind = not (is_name kind) && is_bare kind

-- neither a string, nor text in one, nor a unicode range, nor a name
abbrev pub is_lone : TokenKind → Bool
is_lone kind = not (is_name kind) && is_plain kind

pub bare_plain : (kind : TokenKind) → is_bare kind ≡ true → is_plain kind ≡ true
bare_plain kind e = and_left (is_plain kind) _ e

pub lone_plain : (kind : TokenKind) → is_lone kind ≡ true → is_plain kind ≡ true
lone_plain kind e = and_right (not (is_name kind)) _ e

pub sign_plain : (kind : TokenKind) → is_sign kind ≡ true → is_plain kind ≡ true
sign_plain kind e = bare_plain kind (and_right (not (is_name kind)) _ e)

-- what holds of each piece that a text may have at a place
pub record Cases (bs : List ℕ) (at : ℕ) (P : Option Piece → Type 0) : Type 0 where
  pub none : P None
  pub white : (n : ℕ) → P (made_white n)
  pub plain : (kind : TokenKind) → is_sign kind ≡ true → (n : ℕ) (change : Change) → P (made kind n change)
  pub quoted : (i j n : ℕ) → P (made (kinds.Quoted (decoded (slice_range bs i j))) n changes.Keep)
  pub text : (i j n : ℕ) → P (made (kinds.Text (decoded (slice_range bs i j))) n changes.Keep)
  pub name : P (name_piece bs at)
  pub number : begins_number bs at ≡ true → P (number_piece bs at)
  pub hex : is_hex_form bs at ≡ true → P (made kinds.Hex (run_end classes.HexDigit bs at) changes.Keep)
  pub range : begins_range bs at ≡ true
      → P (made kinds.UnicodeRange (run_end classes.Range bs (at + 2)) changes.Keep)

pick_sign : (t : Bool) (x y : TokenKind) → is_lone x ≡ true → is_lone y ≡ true → is_lone (if t then x else y) ≡ true
pick_sign true x y e f = e
pick_sign false x y e f = f

pub sign_of_is : (b : ℕ) → is_lone (sign_of b) ≡ true
sign_of_is b =
    pick_sign (b == sign "{") kinds.OpenBrace _ refl (pick_sign (b == sign "}") kinds.CloseBrace _ refl
    (pick_sign (b == sign "(") kinds.OpenParen _ refl (pick_sign (b == sign ")") kinds.CloseParen _ refl
    (pick_sign (b == sign "[") kinds.OpenBracket _ refl (pick_sign (b == sign "]") kinds.CloseBracket _ refl
    (pick_sign (b == sign ":") kinds.Colon _ refl (pick_sign (b == sign ";") kinds.Semicolon _ refl
    (pick_sign (b == sign ",") kinds.Comma _ refl (pick_sign (b == sign ".") kinds.Dot _ refl
    (pick_sign (b == sign "$") kinds.Dollar _ refl (pick_sign (b == sign "#") kinds.Hash _ refl
    (pick_sign (b == sign "!") kinds.Exclamation _ refl (pick_sign (b == sign "&") kinds.Ampersand _ refl
    (pick_sign (b == sign "+") kinds.Plus _ refl (pick_sign (b == sign "-") kinds.Minus _ refl
    (pick_sign (b == sign "*") kinds.Star _ refl (pick_sign (b == sign "/") kinds.Slash _ refl
    (pick_sign (b == sign "%") kinds.Percent _ refl (pick_sign (b == sign "=") kinds.Equals _ refl
    (pick_sign (b == sign "<") kinds.Less _ refl (pick_sign (b == sign ">") kinds.Greater _ refl
    (pick_sign (b == sign "@") kinds.At kinds.Other refl refl))))))))))))))))))))))

pick_plain : (t : Bool) (x y : TokenKind) → is_plain x ≡ true → is_plain y ≡ true → is_plain (if t then x else y) ≡ true
pick_plain true x y e f = e
pick_plain false x y e f = f

-- what holds of each such token holds of a number
pub number_has : (bs : List ℕ) (at : ℕ) (P : Option Piece → Type 0)
    → ((kind : TokenKind) → is_plain kind ≡ true → is_name kind ≡ false → (n : ℕ) (change : Change) → P (made kind n change))
    → P (number_piece bs at)
unfolding number_piece
number_has bs at P plain =
    plain (number_kind bs (run_end classes.Digit bs at) (unit_start bs at))
    (pick_plain _ kinds.Digits kinds.Number refl refl) (named _) _ changes.Keep
  where
    named : (t : Bool) → is_name (if t then kinds.Digits else kinds.Number) ≡ false
    named true = refl
    named false = refl

module _ (bs : List ℕ) (at : ℕ) (P : Option Piece → Type 0) (it : Cases bs at P) where
  choose : (t : Bool) (x y : Option Piece) → P x → P y → P (if t then x else y)
  choose true x y e f = e
  choose false x y e f = f

  -- a token of another kind, else
  or_else : (t : Bool) (kind : TokenKind) (n : ℕ) (change : Change) (y : Option Piece) → is_sign kind ≡ true → P y
      → P (if t then made kind n change else y)
  or_else t kind n change y e f = choose t (made kind n change) y (it.plain kind e n change) f

  word_has : (top : Inside) (before : Before) → P (word_piece bs top before at)
  unfolding word_piece
  word_has top before =
      told (after_hash before) (is_hex_form bs at) _ _ it.hex
      (told true (begins_number bs at) _ _ it.number
      (told (not (after_dollar before)) (begins_range bs at) _ _ it.range
      (or_else (begins_url bs at && (byte bs (url_close bs (url_class top) at) == sign ")")) kinds.Url _ changes.Keep _ refl
      (or_else (opens_url bs top at) kinds.UrlTemplate _ (changes.Push (url_inside top)) _ refl it.name))))
    where
      told : (a t : Bool) (x y : Option Piece) → (t ≡ true → P x) → P y → P (if a && t then x else y)
      told true true x y e f = e refl
      told true false x y e f = f
      told false t x y e f = f

  quote_has : (q : ℕ) → P (quote_piece bs q at)
  unfolding quote_piece
  quote_has q =
      choose (byte bs (run_end (classes.SheetText q) bs (at + 1)) == q) _ _ (it.quoted (at + 1) (run_end (classes.SheetText q) bs (at + 1)) _)
      (it.plain kinds.Template refl _ (changes.Push (insides.Quotes q)))

  loud_has : P (loud_piece bs at)
  unfolding loud_piece
  loud_has =
      or_else (ends_loud bs (run_end classes.Comment bs (at + 2))) kinds.Comment _ changes.Keep _ refl
      (it.plain kinds.CommentTemplate refl _ (changes.Push insides.Comment))

  code_has : (top : Inside) (before : Before) → P (code_piece bs top before at)
  unfolding code_piece
  code_has top before =
      choose (is_white (byte bs at)) _ _ (it.white _)
      (choose (is_quote (byte bs at)) _ _ (quote_has (byte bs at))
      (or_else (opens_at bs at) kinds.OpenInterpolation _ (changes.Push insides.Interpolation) _ refl
      (or_else ((byte bs at == sign "}") && in_interpolation top) kinds.CloseInterpolation _ changes.Pop _ refl
      (choose (begins_silent bs at) _ _ (it.white _)
      (choose (begins_loud bs at) _ _ loud_has (word_has top before))))))

  css_quote_has : (q : ℕ) → P (css_quote bs q at)
  unfolding css_quote
  css_quote_has q =
      choose (byte bs (run_end (classes.Text q) bs (at + 1)) == q) _ _ (it.quoted (at + 1) (run_end (classes.Text q) bs (at + 1)) _) it.none

  css_loud_has : P (css_loud bs at)
  unfolding css_loud
  css_loud_has = or_else (ends_loud bs (run_end classes.CssComment bs (at + 2))) kinds.Comment _ changes.Keep _ refl it.none

  css_has : (before : Before) → P (css_piece bs before at)
  unfolding css_piece
  css_has before =
      choose (is_white (byte bs at)) _ _ (it.white _)
      (choose (is_quote (byte bs at)) _ _ (css_quote_has (byte bs at))
      (or_else (opens_at bs at) kinds.OpenInterpolation _ changes.Keep _ refl
      (or_else (begins_silent bs at) kinds.DoubleSlash _ changes.Keep _ refl
      (choose (begins_loud bs at) _ _ css_loud_has (word_has insides.Css before)))))

  text_has : (q : ℕ) → P (text_piece bs q at)
  unfolding text_piece
  text_has q =
      or_else (byte bs at == q) kinds.TemplateEnd _ changes.Pop _ refl
      (or_else (opens_at bs at) kinds.OpenInterpolation _ (changes.Push insides.Interpolation) _ refl
      (choose (nat_lt at (run_end (classes.SheetText q) bs at)) _ _ (it.text at (run_end (classes.SheetText q) bs at) _) it.none))

  url_has : (class : Class) → P (url_piece bs class at)
  unfolding url_piece
  url_has class =
      or_else (byte bs at == sign ")") kinds.UrlEnd _ changes.Pop _ refl
      (or_else (opens_at bs at) kinds.OpenInterpolation _ (changes.Push insides.Interpolation) _ refl
      (or_else (nat_lt at (run_end class bs at)) kinds.Piece _ changes.Keep _ refl
      (choose (is_white (byte bs at)) _ _ (it.white _) it.none)))

  comment_has : P (comment_piece bs at)
  unfolding comment_piece
  comment_has =
      or_else (ends_loud bs at) kinds.CommentEnd _ changes.Pop _ refl
      (or_else (opens_at bs at) kinds.OpenInterpolation _ (changes.Push insides.Interpolation) _ refl
      (or_else (nat_lt at (run_end classes.Comment bs at)) kinds.Piece _ changes.Keep _ refl it.none))

  pub piece_has : (inside : Inside) (before : Before) → P (piece bs inside before at)
  piece_has insides.Sheet before = code_has insides.Sheet before
  piece_has insides.Interpolation before = code_has insides.Interpolation before
  piece_has insides.Css before = css_has before
  piece_has (insides.Quotes q) before = text_has q
  piece_has insides.Comment before = comment_has
  piece_has insides.Url before = url_has classes.Url
  piece_has insides.UrlInside before = url_has classes.UrlInside

-- what holds of each such token holds of what begins with a name or a sign
module _ (bs : List ℕ) (at : ℕ) (P : Option Piece → Type 0)
    (plain : (kind : TokenKind) → is_bare kind ≡ true → (n : ℕ) (change : Change) → P (made kind n change))
    (lone : P (made (sign_of (byte bs at)) (at + 1) changes.Keep)) where
  then_else : (t : Bool) (kind : TokenKind) (n : ℕ) (y : Option Piece) → is_bare kind ≡ true → P y
      → P (if t then made kind n changes.Keep else y)
  then_else true kind n y e f = plain kind e n changes.Keep
  then_else false kind n y e f = f

  pick_bare : (t : Bool) (x y : TokenKind) → is_bare x ≡ true → is_bare y ≡ true → is_bare (if t then x else y) ≡ true
  pick_bare true x y e f = e
  pick_bare false x y e f = f

  sign_has : P (sign_piece bs at)
  unfolding sign_piece
  sign_has =
      then_else ((byte bs at == sign ".") && ((byte bs (at + 1) == sign ".") && (byte bs (at + 2) == sign "."))) kinds.Ellipsis _ _ refl
      (then_else ((byte bs at == sign "=") && (byte bs (at + 1) == sign "=")) kinds.EqualsEquals _ _ refl
      (then_else ((byte bs at == sign "!") && (byte bs (at + 1) == sign "=")) kinds.NotEquals _ _ refl
      (then_else ((byte bs at == sign "<") && (byte bs (at + 1) == sign "=")) kinds.LessEquals _ _ refl
      (then_else ((byte bs at == sign ">") && (byte bs (at + 1) == sign "=")) kinds.GreaterEquals _ _ refl
      lone))))

  pub name_has : P (name_piece bs at)
  unfolding name_piece
  name_has =
      then_else (is_letter (byte bs at)) (letter_kind _ _) _ _ (pick_bare _ kinds.Word kinds.Name refl refl)
      (then_else (begins_name bs at) (dash_kind bs at) _ _ (pick_bare _ kinds.DashedName kinds.Name refl refl)
      (then_else ((byte bs at == sign "@") && begins_name bs (at + 1)) kinds.AtName _ _ refl sign_has))
