-- What begins at a place, case by case: names and signs, numbers, ranges, urls, strings, text in them, white space, and
-- what opens or closes any of these.
use Rattle.std.proofs.Common.{◌≡◌, ℕ, ◌+◌, Bool, true, false, not, ◌&&◌, if◌then◌else◌, List, Option, None, refl}
use Rattle.std.specs.Prelude.{◌==◌, nat_lt, slice_range}
use Rattle.sw_text_scan.specs.declared.runs.Class.{Class}
use Rattle.sw_text_scan.specs.declared.runs.Class.TheVariants as classes
use Rattle.sw_text_scan.specs.Bytes.{sign, byte, is_white, is_quote, is_letter, opens_at, begins_silent, begins_loud, ends_loud}
use Rattle.sw_text_scan.specs.Runs.{run_end, begins_name}
use Rattle.sw_text_scan.specs.Words.{begins_number, begins_range, begins_url, url_close}
use Rattle.sw_text_scan.proofs.Bounds.{and_left, and_right}
use Rattle.sw_tokens.specs.declared.pieces.Before.{Before}
use Rattle.sw_tokens.specs.declared.pieces.Change.{Change}
use Rattle.sw_tokens.specs.declared.pieces.Change.TheVariants as changes
use Rattle.sw_tokens.specs.declared.pieces.Piece.{Piece}
use Rattle.sw_tokens.specs.declared.skips.Inside.{Inside}
use Rattle.sw_tokens.specs.declared.skips.Inside.TheVariants as insides
use Rattle.sw_tokens.specs.declared.token.TokenKind.{TokenKind}
use Rattle.sw_tokens.specs.declared.token.TokenKind.TheVariants as kinds
use Rattle.sw_tokens.specs.Decoded.{decoded}
use Rattle.sw_tokens.specs.Pieces.{made, made_white, piece, text_piece, quote_piece, sign_of, sign_piece, letter_kind, dash_kind, name_piece, is_hex_form, number_piece, url_class, url_inside, opens_url, url_piece, after_dollar, after_hash, word_piece, comment_piece, loud_piece, in_interpolation, code_piece, css_quote, css_loud, css_piece}

-- what opens or closes a string, a comment, a url or a `#{}`, whole comments, hexadecimal forms, and text in urls and
-- comments
abbrev pub is_frame : TokenKind → Bool
is_frame kinds.Hex = true
is_frame kinds.Template = true
is_frame kinds.TemplateEnd = true
is_frame kinds.UrlTemplate = true
is_frame kinds.UrlEnd = true
is_frame kinds.Piece = true
is_frame kinds.Comment = true
is_frame kinds.CommentTemplate = true
is_frame kinds.CommentEnd = true
is_frame kinds.OpenInterpolation = true
is_frame kinds.CloseInterpolation = true
is_frame kinds.DoubleSlash = true
is_frame _ = false

-- what holds of each piece that a text may have at a place
pub record Cases (bs : List ℕ) (at : ℕ) (P : Option Piece → Type 0) : Type 0 where
  pub none : P None
  pub white : (n : ℕ) → P (made_white n)
  pub frame : (kind : TokenKind) → is_frame kind ≡ true → (n : ℕ) (change : Change) → P (made kind n change)
  pub quoted : (i j n : ℕ) → P (made (kinds.Quoted (decoded (slice_range bs i j))) n changes.Keep)
  pub text : (i j n : ℕ) → P (made (kinds.Text (decoded (slice_range bs i j))) n changes.Keep)
  pub name : P (name_piece bs at)
  pub number : begins_number bs at ≡ true → P (number_piece bs at)
  pub range : begins_range bs at ≡ true
      → P (made kinds.UnicodeRange (run_end classes.Range bs (at + 2)) changes.Keep)
  pub url : (top : Inside) → begins_url bs at ≡ true → (byte bs (url_close bs (url_class top) at) == sign ")") ≡ true
      → P (made kinds.Url (url_close bs (url_class top) at + 1) changes.Keep)

module _ (bs : List ℕ) (at : ℕ) (P : Option Piece → Type 0) (it : Cases bs at P) where
  choose : (t : Bool) (x y : Option Piece) → P x → P y → P (if t then x else y)
  choose true x y e f = e
  choose false x y e f = f

  -- a token of another kind, else
  or_else : (t : Bool) (kind : TokenKind) (n : ℕ) (change : Change) (y : Option Piece) → is_frame kind ≡ true → P y
      → P (if t then made kind n change else y)
  or_else t kind n change y e f = choose t (made kind n change) y (it.frame kind e n change) f

  -- what holds where a test does, else
  where_so : (t : Bool) (x y : Option Piece) → (t ≡ true → P x) → P y → P (if t then x else y)
  where_so true x y e f = e refl
  where_so false x y e f = f

  word_has : (top : Inside) (before : Before) → P (word_piece bs top before at)
  unfolding word_piece
  word_has top before =
      or_else (after_hash before && is_hex_form bs at) kinds.Hex _ changes.Keep _ refl
      (where_so (begins_number bs at) _ _ it.number
      (where_so (not (after_dollar before) && begins_range bs at) _ _ (λ e. it.range (and_right (not (after_dollar before)) _ e))
      (where_so (begins_url bs at && (byte bs (url_close bs (url_class top) at) == sign ")")) _ _
      (λ e. it.url top (and_left (begins_url bs at) _ e) (and_right (begins_url bs at) _ e))
      (or_else (opens_url bs top at) kinds.UrlTemplate _ (changes.Push (url_inside top)) _ refl it.name))))

  quote_has : (q : ℕ) → P (quote_piece bs q at)
  unfolding quote_piece
  quote_has q =
      choose (byte bs (run_end (classes.SheetText q) bs (at + 1)) == q) _ _ (it.quoted (at + 1) (run_end (classes.SheetText q) bs (at + 1)) _)
      (it.frame kinds.Template refl _ (changes.Push (insides.Quotes q)))

  loud_has : P (loud_piece bs at)
  unfolding loud_piece
  loud_has =
      or_else (ends_loud bs (run_end classes.Comment bs (at + 2))) kinds.Comment _ changes.Keep _ refl
      (it.frame kinds.CommentTemplate refl _ (changes.Push insides.Comment))

  code_has : (top : Inside) (before : Before) → P (code_piece bs top before at)
  unfolding code_piece
  code_has top before =
      choose (is_white (byte bs at)) _ _ (it.white _)
      (choose (is_quote (byte bs at)) _ _ (quote_has (byte bs at))
      (or_else (opens_at bs at) kinds.OpenInterpolation _ (changes.Push insides.Interpolation) _ refl
      (or_else ((byte bs at == sign "}") && in_interpolation top) kinds.CloseInterpolation _ changes.Pop _ refl
      (choose (begins_silent bs at) _ _ (it.white _)
      (choose (begins_loud bs at) _ _ loud_has (word_has top before))))))

  css_quote_has : (q : ℕ) → P (css_quote bs q at)
  unfolding css_quote
  css_quote_has q =
      choose (byte bs (run_end (classes.Text q) bs (at + 1)) == q) _ _ (it.quoted (at + 1) (run_end (classes.Text q) bs (at + 1)) _) it.none

  css_loud_has : P (css_loud bs at)
  unfolding css_loud
  css_loud_has = or_else (ends_loud bs (run_end classes.CssComment bs (at + 2))) kinds.Comment _ changes.Keep _ refl it.none

  css_has : (before : Before) → P (css_piece bs before at)
  unfolding css_piece
  css_has before =
      choose (is_white (byte bs at)) _ _ (it.white _)
      (choose (is_quote (byte bs at)) _ _ (css_quote_has (byte bs at))
      (or_else (opens_at bs at) kinds.OpenInterpolation _ changes.Keep _ refl
      (or_else (begins_silent bs at) kinds.DoubleSlash _ changes.Keep _ refl
      (choose (begins_loud bs at) _ _ css_loud_has (word_has insides.Css before)))))

  text_has : (q : ℕ) → P (text_piece bs q at)
  unfolding text_piece
  text_has q =
      or_else (byte bs at == q) kinds.TemplateEnd _ changes.Pop _ refl
      (or_else (opens_at bs at) kinds.OpenInterpolation _ (changes.Push insides.Interpolation) _ refl
      (choose (nat_lt at (run_end (classes.SheetText q) bs at)) _ _ (it.text at (run_end (classes.SheetText q) bs at) _) it.none))

  url_has : (class : Class) → P (url_piece bs class at)
  unfolding url_piece
  url_has class =
      or_else (byte bs at == sign ")") kinds.UrlEnd _ changes.Pop _ refl
      (or_else (opens_at bs at) kinds.OpenInterpolation _ (changes.Push insides.Interpolation) _ refl
      (or_else (nat_lt at (run_end class bs at)) kinds.Piece _ changes.Keep _ refl
      (choose (is_white (byte bs at)) _ _ (it.white _) it.none)))

  comment_has : P (comment_piece bs at)
  unfolding comment_piece
  comment_has =
      or_else (ends_loud bs at) kinds.CommentEnd _ changes.Pop _ refl
      (or_else (opens_at bs at) kinds.OpenInterpolation _ (changes.Push insides.Interpolation) _ refl
      (or_else (nat_lt at (run_end classes.Comment bs at)) kinds.Piece _ changes.Keep _ refl it.none))

  pub piece_has : (inside : Inside) (before : Before) → P (piece bs inside before at)
  piece_has insides.Sheet before = code_has insides.Sheet before
  piece_has insides.Interpolation before = code_has insides.Interpolation before
  piece_has insides.Css before = css_has before
  piece_has (insides.Quotes q) before = text_has q
  piece_has insides.Comment before = comment_has
  piece_has insides.Url before = url_has classes.Url
  piece_has insides.UrlInside before = url_has classes.UrlInside

-- ---- names and signs

-- the tokens that a sign is
abbrev pub is_mark : TokenKind → Bool
is_mark kinds.Ellipsis = true
is_mark kinds.EqualsEquals = true
is_mark kinds.NotEquals = true
is_mark kinds.LessEquals = true
is_mark kinds.GreaterEquals = true
is_mark kinds.OpenBrace = true
is_mark kinds.CloseBrace = true
is_mark kinds.OpenParen = true
is_mark kinds.CloseParen = true
is_mark kinds.OpenBracket = true
is_mark kinds.CloseBracket = true
is_mark kinds.Colon = true
is_mark kinds.Semicolon = true
is_mark kinds.Comma = true
is_mark kinds.Dot = true
is_mark kinds.Dollar = true
is_mark kinds.Hash = true
is_mark kinds.Exclamation = true
is_mark kinds.Ampersand = true
is_mark kinds.Plus = true
is_mark kinds.Minus = true
is_mark kinds.Star = true
is_mark kinds.Slash = true
is_mark kinds.Percent = true
is_mark kinds.Equals = true
is_mark kinds.Less = true
is_mark kinds.Greater = true
is_mark kinds.At = true
is_mark kinds.Other = true
is_mark _ = false

-- or a name
abbrev pub is_named : TokenKind → Bool
is_named kinds.Word = true
is_named kinds.Name = true
is_named kinds.DashedName = true
is_named kinds.AtName = true
is_named kind = is_mark kind

mark_named : (kind : TokenKind) → is_mark kind ≡ true → is_named kind ≡ true
mark_named kinds.Word e = absurd (cc)
mark_named kinds.Name e = absurd (cc)
mark_named kinds.DashedName e = absurd (cc)
mark_named kinds.AtName e = absurd (cc)
mark_named _ e = e

pick_sign : (t : Bool) (x y : TokenKind) → is_mark x ≡ true → is_mark y ≡ true → is_mark (if t then x else y) ≡ true
pick_sign true x y e f = e
pick_sign false x y e f = f

sign_of_is : (b : ℕ) → is_mark (sign_of b) ≡ true
sign_of_is b =
    pick_sign (b == sign "{") kinds.OpenBrace _ refl (pick_sign (b == sign "}") kinds.CloseBrace _ refl
    (pick_sign (b == sign "(") kinds.OpenParen _ refl (pick_sign (b == sign ")") kinds.CloseParen _ refl
    (pick_sign (b == sign "[") kinds.OpenBracket _ refl (pick_sign (b == sign "]") kinds.CloseBracket _ refl
    (pick_sign (b == sign ":") kinds.Colon _ refl (pick_sign (b == sign ";") kinds.Semicolon _ refl
    (pick_sign (b == sign ",") kinds.Comma _ refl (pick_sign (b == sign ".") kinds.Dot _ refl
    (pick_sign (b == sign "$") kinds.Dollar _ refl (pick_sign (b == sign "#") kinds.Hash _ refl
    (pick_sign (b == sign "!") kinds.Exclamation _ refl (pick_sign (b == sign "&") kinds.Ampersand _ refl
    (pick_sign (b == sign "+") kinds.Plus _ refl (pick_sign (b == sign "-") kinds.Minus _ refl
    (pick_sign (b == sign "*") kinds.Star _ refl (pick_sign (b == sign "/") kinds.Slash _ refl
    (pick_sign (b == sign "%") kinds.Percent _ refl (pick_sign (b == sign "=") kinds.Equals _ refl
    (pick_sign (b == sign "<") kinds.Less _ refl (pick_sign (b == sign ">") kinds.Greater _ refl
    (pick_sign (b == sign "@") kinds.At kinds.Other refl refl))))))))))))))))))))))

module _ (bs : List ℕ) (at : ℕ) (P : Option Piece → Type 0)
    (plain : (kind : TokenKind) → is_mark kind ≡ true → (n : ℕ) (change : Change) → P (made kind n change)) where
  mark_else : (t : Bool) (kind : TokenKind) (n : ℕ) (y : Option Piece) → is_mark kind ≡ true → P y
      → P (if t then made kind n changes.Keep else y)
  mark_else true kind n y e f = plain kind e n changes.Keep
  mark_else false kind n y e f = f

  pub sign_has : P (sign_piece bs at)
  unfolding sign_piece
  sign_has =
      mark_else ((byte bs at == sign ".") && ((byte bs (at + 1) == sign ".") && (byte bs (at + 2) == sign "."))) kinds.Ellipsis _ _ refl
      (mark_else ((byte bs at == sign "=") && (byte bs (at + 1) == sign "=")) kinds.EqualsEquals _ _ refl
      (mark_else ((byte bs at == sign "!") && (byte bs (at + 1) == sign "=")) kinds.NotEquals _ _ refl
      (mark_else ((byte bs at == sign "<") && (byte bs (at + 1) == sign "=")) kinds.LessEquals _ _ refl
      (mark_else ((byte bs at == sign ">") && (byte bs (at + 1) == sign "=")) kinds.GreaterEquals _ _ refl
      (plain (sign_of (byte bs at)) (sign_of_is (byte bs at)) _ changes.Keep)))))

module _ (bs : List ℕ) (at : ℕ) (P : Option Piece → Type 0)
    (plain : (kind : TokenKind) → is_named kind ≡ true → (n : ℕ) (change : Change) → P (made kind n change)) where
  then_else : (t : Bool) (kind : TokenKind) (n : ℕ) (y : Option Piece) → is_named kind ≡ true → P y
      → P (if t then made kind n changes.Keep else y)
  then_else true kind n y e f = plain kind e n changes.Keep
  then_else false kind n y e f = f

  pick_named : (t : Bool) (x y : TokenKind) → is_named x ≡ true → is_named y ≡ true → is_named (if t then x else y) ≡ true
  pick_named true x y e f = e
  pick_named false x y e f = f

  pub name_has : P (name_piece bs at)
  unfolding name_piece
  name_has =
      then_else (is_letter (byte bs at)) (letter_kind _ _) _ _ (pick_named _ kinds.Word kinds.Name refl refl)
      (then_else (begins_name bs at) (dash_kind bs at) _ _ (pick_named _ kinds.DashedName kinds.Name refl refl)
      (then_else ((byte bs at == sign "@") && begins_name bs (at + 1)) kinds.AtName _ _ refl
      (sign_has bs at P (λ kind m n change. plain kind (mark_named kind m) n change))))
