-- A token that is `@` with a name is longer than a sign.
use Rattle.std.proofs.Common.{◌≡◌, ◌<◌, ℕ, ◌+◌, Bool, true, false, not, ◌&&◌, if◌then◌else◌, List, Option, Some, None, refl, sym, ◌∙◌, ap, arith}
use Rattle.std.specs.Prelude.{◌==◌, nat_lt}
use Rattle.std.proofs.lemmas.Bool.Decides.{nat_tests}
use Rattle.sw_text_scan.specs.declared.runs.Class.{Class}
use Rattle.sw_text_scan.specs.declared.runs.Class.TheVariants as classes
use Rattle.sw_text_scan.specs.Bytes.{sign, byte, is_white, is_quote, is_letter, opens_at, begins_silent, begins_loud, ends_loud}
use Rattle.sw_text_scan.specs.Runs.{run_end, begins_name}
use Rattle.sw_text_scan.specs.Words.{begins_number, begins_range, begins_url, url_close, unit_start, unit_end}
use Rattle.sw_text_scan.proofs.Bounds.{and_right}
use Rattle.sw_text_locality.proofs.Lexical.{name_further}
use Rattle.sw_tokens.specs.declared.pieces.Before.{Before}
use Rattle.sw_tokens.specs.declared.pieces.Change.{Change}
use Rattle.sw_tokens.specs.declared.pieces.Change.TheVariants as changes
use Rattle.sw_tokens.specs.declared.pieces.Piece.{Piece}
use Rattle.sw_tokens.specs.declared.skips.Inside.{Inside}
use Rattle.sw_tokens.specs.declared.skips.Inside.TheVariants as insides
use Rattle.sw_tokens.specs.declared.token.TokenKind.{TokenKind}
use Rattle.sw_tokens.specs.declared.token.TokenKind.TheVariants as kinds
use Rattle.sw_tokens.specs.Pieces.{made, piece, text_piece, quote_piece, sign_of, sign_piece, letter_kind, dash_kind, name_piece, is_hex_form, number_kind, number_piece, url_class, opens_url, url_piece, after_dollar, after_hash, word_piece, comment_piece, loud_piece, in_interpolation, code_piece, css_quote, css_loud, css_piece}

is_at : TokenKind → Bool
is_at kinds.AtName = true
is_at _ = false

is_token_at : Option TokenKind → Bool
is_token_at None = false
is_token_at (Some kind) = is_at kind

-- `@` with a name that ends before so much of the text
is_short : Option Piece → Bool
is_short None = false
is_short (Some p) = is_token_at p.token && nat_lt p.to 2

pick : (t : Bool) (x y : Option Piece) → is_short x ≡ false → is_short y ≡ false → is_short (if t then x else y) ≡ false
pick true x y e f = e
pick false x y e f = f

other : (t : Bool) (x y : TokenKind) → is_at x ≡ false → is_at y ≡ false → is_at (if t then x else y) ≡ false
other true x y e f = e
other false x y e f = f

lone : (kind : TokenKind) (n : ℕ) (change : Change) → is_at kind ≡ false → is_short (made kind n change) ≡ false
unfolding is_short is_token_at
lone kind n change e = ap (λ (b : Bool). b && nat_lt n 2) e

sign_no : (b : ℕ) → is_at (sign_of b) ≡ false
unfolding is_at
sign_no b =
    other (b == sign "{") kinds.OpenBrace _ refl (other (b == sign "}") kinds.CloseBrace _ refl
    (other (b == sign "(") kinds.OpenParen _ refl (other (b == sign ")") kinds.CloseParen _ refl
    (other (b == sign "[") kinds.OpenBracket _ refl (other (b == sign "]") kinds.CloseBracket _ refl
    (other (b == sign ":") kinds.Colon _ refl (other (b == sign ";") kinds.Semicolon _ refl
    (other (b == sign ",") kinds.Comma _ refl (other (b == sign ".") kinds.Dot _ refl
    (other (b == sign "$") kinds.Dollar _ refl (other (b == sign "#") kinds.Hash _ refl
    (other (b == sign "!") kinds.Exclamation _ refl (other (b == sign "&") kinds.Ampersand _ refl
    (other (b == sign "+") kinds.Plus _ refl (other (b == sign "-") kinds.Minus _ refl
    (other (b == sign "*") kinds.Star _ refl (other (b == sign "/") kinds.Slash _ refl
    (other (b == sign "%") kinds.Percent _ refl (other (b == sign "=") kinds.Equals _ refl
    (other (b == sign "<") kinds.Less _ refl (other (b == sign ">") kinds.Greater _ refl
    (other (b == sign "@") kinds.At kinds.Other refl refl))))))))))))))))))))))

module _ (bs : List ℕ) where
  sign_long : is_short (sign_piece bs 0) ≡ false
  unfolding is_at is_token_at is_short sign_piece
  sign_long =
      pick ((byte bs 0 == sign ".") && ((byte bs (0 + 1) == sign ".") && (byte bs (0 + 2) == sign "."))) _ _ refl
      (pick ((byte bs 0 == sign "=") && (byte bs (0 + 1) == sign "=")) _ _ refl
      (pick ((byte bs 0 == sign "!") && (byte bs (0 + 1) == sign "=")) _ _ refl
      (pick ((byte bs 0 == sign "<") && (byte bs (0 + 1) == sign "=")) _ _ refl
      (pick ((byte bs 0 == sign ">") && (byte bs (0 + 1) == sign "=")) _ _ refl
      (lone (sign_of (byte bs 0)) (0 + 1) changes.Keep (sign_no (byte bs 0)))))))

  at_long : begins_name bs 1 ≡ true → is_short (made kinds.AtName (run_end classes.Name bs 1) changes.Keep) ≡ false
  unfolding is_at is_token_at is_short
  at_long e = let further = name_further bs 1 e in below (run_end classes.Name bs 1) further
    where
      below : (n : ℕ) → 1 < n → nat_lt n 2 ≡ false
      below n l = grind (arith, nat_tests)

  name_long : is_short (name_piece bs 0) ≡ false
  unfolding is_at name_piece
  name_long =
      pick (is_letter (byte bs 0)) _ _ (lone (letter_kind (run_end classes.Word bs 0) (run_end classes.Name bs (run_end classes.Word bs 0))) (run_end classes.Name bs (run_end classes.Word bs 0)) changes.Keep
      (other (run_end classes.Word bs 0 == run_end classes.Name bs (run_end classes.Word bs 0)) kinds.Word kinds.Name refl refl))
      (pick (begins_name bs 0) _ _ (lone (dash_kind bs 0) (run_end classes.Name bs 0) changes.Keep
      (other ((byte bs 0 == sign "-") && (byte bs (0 + 1) == sign "-")) kinds.DashedName kinds.Name refl refl))
      (where_so ((byte bs 0 == sign "@") && begins_name bs (0 + 1)) _ _
      (λ e. at_long (and_right (byte bs 0 == sign "@") _ e)) sign_long))
    where
      where_so : (t : Bool) (x y : Option Piece) → (t ≡ true → is_short x ≡ false) → is_short y ≡ false
          → is_short (if t then x else y) ≡ false
      where_so true x y e f = e refl
      where_so false x y e f = f

  word_long : (top : Inside) (before : Before) → is_short (word_piece bs top before 0) ≡ false
  unfolding is_at is_token_at is_short word_piece number_piece
  word_long top before =
      pick (after_hash before && is_hex_form bs 0) _ _ refl
      (pick (begins_number bs 0) _ _ (lone (number_kind bs (run_end classes.Digit bs 0) (unit_start bs 0)) (unit_end bs (unit_start bs 0)) changes.Keep
      (other ((run_end classes.Digit bs 0 == unit_start bs 0) && not (byte bs (unit_start bs 0) == sign "%")) kinds.Digits kinds.Number refl refl))
      (pick (not (after_dollar before) && begins_range bs 0) _ _ refl
      (pick (begins_url bs 0 && (byte bs (url_close bs (url_class top) 0) == sign ")")) _ _ refl
      (pick (opens_url bs top 0) _ _ refl name_long))))

  quote_long : (q : ℕ) → is_short (quote_piece bs q 0) ≡ false
  unfolding is_at is_token_at is_short quote_piece
  quote_long q = pick (byte bs (run_end (classes.SheetText q) bs (0 + 1)) == q) _ _ refl refl

  loud_long : is_short (loud_piece bs 0) ≡ false
  unfolding is_at is_token_at is_short loud_piece
  loud_long = pick (ends_loud bs (run_end classes.Comment bs (0 + 2))) _ _ refl refl

  code_long : (top : Inside) (before : Before) → is_short (code_piece bs top before 0) ≡ false
  unfolding is_at is_token_at is_short code_piece
  code_long top before =
      pick (is_white (byte bs 0)) _ _ refl
      (pick (is_quote (byte bs 0)) _ _ (quote_long (byte bs 0))
      (pick (opens_at bs 0) _ _ refl
      (pick ((byte bs 0 == sign "}") && in_interpolation top) _ _ refl
      (pick (begins_silent bs 0) _ _ refl
      (pick (begins_loud bs 0) _ _ loud_long (word_long top before))))))

  css_quote_long : (q : ℕ) → is_short (css_quote bs q 0) ≡ false
  unfolding is_at is_token_at is_short css_quote
  css_quote_long q = pick (byte bs (run_end (classes.Text q) bs (0 + 1)) == q) _ _ refl refl

  css_loud_long : is_short (css_loud bs 0) ≡ false
  unfolding is_at is_token_at is_short css_loud
  css_loud_long = pick (ends_loud bs (run_end classes.CssComment bs (0 + 2))) _ _ refl refl

  css_long : (before : Before) → is_short (css_piece bs before 0) ≡ false
  unfolding is_at is_token_at is_short css_piece
  css_long before =
      pick (is_white (byte bs 0)) _ _ refl
      (pick (is_quote (byte bs 0)) _ _ (css_quote_long (byte bs 0))
      (pick (opens_at bs 0) _ _ refl
      (pick (begins_silent bs 0) _ _ refl
      (pick (begins_loud bs 0) _ _ css_loud_long (word_long insides.Css before)))))

  text_long : (q : ℕ) → is_short (text_piece bs q 0) ≡ false
  unfolding is_at is_token_at is_short text_piece
  text_long q =
      pick (byte bs 0 == q) _ _ refl
      (pick (opens_at bs 0) _ _ refl
      (pick (nat_lt 0 (run_end (classes.SheetText q) bs 0)) _ _ refl refl))

  url_long : (class : Class) → is_short (url_piece bs class 0) ≡ false
  unfolding is_at is_token_at is_short url_piece
  url_long class =
      pick (byte bs 0 == sign ")") _ _ refl
      (pick (opens_at bs 0) _ _ refl
      (pick (nat_lt 0 (run_end class bs 0)) _ _ refl
      (pick (is_white (byte bs 0)) _ _ refl refl)))

  comment_long : is_short (comment_piece bs 0) ≡ false
  unfolding is_at is_token_at is_short comment_piece
  comment_long =
      pick (ends_loud bs 0) _ _ refl
      (pick (opens_at bs 0) _ _ refl
      (pick (nat_lt 0 (run_end classes.Comment bs 0)) _ _ refl refl))

  piece_long : (inside : Inside) (before : Before) → is_short (piece bs inside before 0) ≡ false
  piece_long insides.Sheet before = code_long insides.Sheet before
  piece_long insides.Interpolation before = code_long insides.Interpolation before
  piece_long insides.Css before = css_long before
  piece_long (insides.Quotes q) before = text_long q
  piece_long insides.Comment before = comment_long
  piece_long insides.Url before = url_long classes.Url
  piece_long insides.UrlInside before = url_long classes.UrlInside

pub at_name_long : (bs : List ℕ) (inside : Inside) (before : Before) (n : ℕ) (change : Change)
    → piece bs inside before 0 ≡ made kinds.AtName n change → 1 < n
unfolding is_at is_token_at is_short
at_name_long bs inside before n change e = long n (sym (ap is_short e) ∙ piece_long bs inside before)
  where
    long : (k : ℕ) → nat_lt k 2 ≡ false → 1 < k
    long k f = grind (arith, nat_tests)
