-- The tokens behind which neither a name nor a sign is told to stand end with a sign, and no escape is open there.
use Rattle.std.proofs.Common.{◌≡◌, ℕ, ◌+◌, Bool, true, false, not, ◌&&◌, ◌||◌, ◌-◌, if◌then◌else◌, List, Option, Some, None, refl, sym, ◌∙◌, ap, arith}
use Rattle.std.specs.Prelude.{◌==◌, nat_lt}
use Rattle.std.proofs.lemmas.Bool.Decides.{nat_tests}
use Rattle.sw_text_scan.specs.declared.runs.Class.{Class}
use Rattle.sw_text_scan.specs.declared.runs.Class.TheVariants as classes
use Rattle.sw_text_scan.specs.Bytes.{sign, byte, is_white, is_quote, is_letter, opens_at, begins_silent, begins_loud, ends_loud}
use Rattle.sw_text_scan.specs.Runs.{run_end, begins_name}
use Rattle.sw_text_scan.specs.Words.{begins_number, begins_range, begins_url, url_close, unit_start, unit_end}
use Rattle.sw_text_scan.proofs.Bounds.{and_right}
use Rattle.sw_tokens.specs.declared.pieces.Before.{Before}
use Rattle.sw_tokens.specs.declared.pieces.Change.{Change}
use Rattle.sw_tokens.specs.declared.pieces.Change.TheVariants as changes
use Rattle.sw_tokens.specs.declared.pieces.Piece.{Piece}
use Rattle.sw_tokens.specs.declared.skips.Inside.{Inside}
use Rattle.sw_tokens.specs.declared.skips.Inside.TheVariants as insides
use Rattle.sw_tokens.specs.declared.token.TokenKind.{TokenKind}
use Rattle.sw_tokens.specs.declared.token.TokenKind.TheVariants as kinds
use Rattle.sw_tokens.specs.Pieces.{made, piece, text_piece, quote_piece, sign_of, sign_piece, letter_kind, dash_kind, name_piece, is_hex_form, number_kind, number_piece, url_class, opens_url, url_piece, after_dollar, after_hash, word_piece, comment_piece, loud_piece, in_interpolation, code_piece, css_quote, css_loud, css_piece}

-- tokens behind which something else than a name or a sign is told to stand
unfoldable pub is_ending : TokenKind → Bool
is_ending kinds.Hash = true
is_ending kinds.Dollar = true
is_ending kinds.Comment = true
is_ending kinds.CommentEnd = true
is_ending _ = false

unfoldable pub is_end : ℕ → Bool
is_end b = (b == sign "#") || ((b == sign "$") || (b == sign "/"))

is_token_ending : Option TokenKind → Bool
is_token_ending None = false
is_token_ending (Some kind) = is_ending kind

module _ (bs : List ℕ) where
  -- such a token ends with a sign
  ends_so : Option Piece → Bool
  ends_so None = true
  ends_so (Some p) = not (is_token_ending p.token) || is_end (byte bs (p.to - 1))

  pick : (t : Bool) (x y : Option Piece) → ends_so x ≡ true → ends_so y ≡ true → ends_so (if t then x else y) ≡ true
  pick true x y e f = e
  pick false x y e f = f

  where_so : (t : Bool) (x y : Option Piece) → (t ≡ true → ends_so x ≡ true) → ends_so y ≡ true
      → ends_so (if t then x else y) ≡ true
  where_so true x y e f = e refl
  where_so false x y e f = f

  lone : (kind : TokenKind) (n : ℕ) (change : Change) → is_ending kind ≡ false → ends_so (made kind n change) ≡ true
  unfolding ends_so is_token_ending
  lone kind n change e = ap (λ (b : Bool). not b || is_end (byte bs (n - 1))) e

  or_true : (a b : Bool) → b ≡ true → (a || b) ≡ true
  or_true true b e = refl
  or_true false b e = e

  ended : (kind : TokenKind) (n : ℕ) (change : Change) → is_end (byte bs (n - 1)) ≡ true → ends_so (made kind n change) ≡ true
  unfolding ends_so
  ended kind n change e = or_true (not (is_token_ending (Some kind))) _ e

  other : (t : Bool) (x y : TokenKind) → is_ending x ≡ false → is_ending y ≡ false → is_ending (if t then x else y) ≡ false
  other true x y e f = e
  other false x y e f = f

  -- of a sign it is the sign itself
  Fit : TokenKind → Type 0
  Fit kind = (not (is_ending kind) || is_end (byte bs 0)) ≡ true

  fit : (t : Bool) (x y : TokenKind) → (t ≡ true → Fit x) → Fit y → Fit (if t then x else y)
  fit true x y e f = e refl
  fit false x y e f = f

  hash_end : (b : ℕ) → (b == sign "#") ≡ true → is_end b ≡ true
  unfolding is_end
  hash_end b e = grind (arith, nat_tests)

  dollar_end : (b : ℕ) → (b == sign "$") ≡ true → is_end b ≡ true
  unfolding is_end
  dollar_end b e = grind (arith, nat_tests)

  slash_end : (b : ℕ) → (b == sign "/") ≡ true → is_end b ≡ true
  unfolding is_end
  slash_end b e = grind (arith, nat_tests)

  sign_fits : Fit (sign_of (byte bs 0))
  unfolding Fit is_ending
  sign_fits =
      let b = byte bs 0 in
      fit (b == sign "{") kinds.OpenBrace _ (λ t. refl) (fit (b == sign "}") kinds.CloseBrace _ (λ t. refl)
      (fit (b == sign "(") kinds.OpenParen _ (λ t. refl) (fit (b == sign ")") kinds.CloseParen _ (λ t. refl)
      (fit (b == sign "[") kinds.OpenBracket _ (λ t. refl) (fit (b == sign "]") kinds.CloseBracket _ (λ t. refl)
      (fit (b == sign ":") kinds.Colon _ (λ t. refl) (fit (b == sign ";") kinds.Semicolon _ (λ t. refl)
      (fit (b == sign ",") kinds.Comma _ (λ t. refl) (fit (b == sign ".") kinds.Dot _ (λ t. refl)
      (fit (b == sign "$") kinds.Dollar _ (λ t. dollar_end b t) (fit (b == sign "#") kinds.Hash _ (λ t. hash_end b t)
      (fit (b == sign "!") kinds.Exclamation _ (λ t. refl) (fit (b == sign "&") kinds.Ampersand _ (λ t. refl)
      (fit (b == sign "+") kinds.Plus _ (λ t. refl) (fit (b == sign "-") kinds.Minus _ (λ t. refl)
      (fit (b == sign "*") kinds.Star _ (λ t. refl) (fit (b == sign "/") kinds.Slash _ (λ t. refl)
      (fit (b == sign "%") kinds.Percent _ (λ t. refl) (fit (b == sign "=") kinds.Equals _ (λ t. refl)
      (fit (b == sign "<") kinds.Less _ (λ t. refl) (fit (b == sign ">") kinds.Greater _ (λ t. refl)
      (fit (b == sign "@") kinds.At kinds.Other (λ t. refl) refl))))))))))))))))))))))

  sign_ends : ends_so (sign_piece bs 0) ≡ true
  unfolding is_ending is_token_ending ends_so Fit sign_piece
  sign_ends =
      pick ((byte bs 0 == sign ".") && ((byte bs (0 + 1) == sign ".") && (byte bs (0 + 2) == sign "."))) _ _ refl
      (pick ((byte bs 0 == sign "=") && (byte bs (0 + 1) == sign "=")) _ _ refl
      (pick ((byte bs 0 == sign "!") && (byte bs (0 + 1) == sign "=")) _ _ refl
      (pick ((byte bs 0 == sign "<") && (byte bs (0 + 1) == sign "=")) _ _ refl
      (pick ((byte bs 0 == sign ">") && (byte bs (0 + 1) == sign "=")) _ _ refl sign_fits))))

  name_ends : ends_so (name_piece bs 0) ≡ true
  unfolding is_ending is_token_ending ends_so name_piece
  name_ends =
      pick (is_letter (byte bs 0)) _ _
      (lone (letter_kind (run_end classes.Word bs 0) (run_end classes.Name bs (run_end classes.Word bs 0))) (run_end classes.Name bs (run_end classes.Word bs 0)) changes.Keep
      (other (run_end classes.Word bs 0 == run_end classes.Name bs (run_end classes.Word bs 0)) kinds.Word kinds.Name refl refl))
      (pick (begins_name bs 0) _ _
      (lone (dash_kind bs 0) (run_end classes.Name bs 0) changes.Keep
      (other ((byte bs 0 == sign "-") && (byte bs (0 + 1) == sign "-")) kinds.DashedName kinds.Name refl refl))
      (pick ((byte bs 0 == sign "@") && begins_name bs (0 + 1)) _ _ refl sign_ends))

  word_ends : (top : Inside) (before : Before) → ends_so (word_piece bs top before 0) ≡ true
  unfolding is_ending is_token_ending ends_so word_piece number_piece
  word_ends top before =
      pick (after_hash before && is_hex_form bs 0) _ _ refl
      (pick (begins_number bs 0) _ _
      (lone (number_kind bs (run_end classes.Digit bs 0) (unit_start bs 0)) (unit_end bs (unit_start bs 0)) changes.Keep
      (other ((run_end classes.Digit bs 0 == unit_start bs 0) && not (byte bs (unit_start bs 0) == sign "%")) kinds.Digits kinds.Number refl refl))
      (pick (not (after_dollar before) && begins_range bs 0) _ _ refl
      (pick (begins_url bs 0 && (byte bs (url_close bs (url_class top) 0) == sign ")")) _ _ refl
      (pick (opens_url bs top 0) _ _ refl name_ends))))

  quote_ends : (q : ℕ) → ends_so (quote_piece bs q 0) ≡ true
  unfolding is_ending is_token_ending ends_so quote_piece
  quote_ends q = pick (byte bs (run_end (classes.SheetText q) bs (0 + 1)) == q) _ _ refl refl

  closed : (n : ℕ) → ends_loud bs n ≡ true → is_end (byte bs ((n + 2) - 1)) ≡ true
  closed n e =
      ap (λ (k : ℕ). is_end (byte bs k)) (let z : (n + 2) - 1 ≡ n + 1 = omega arith in z)
      ∙ slash_end (byte bs (n + 1)) (and_right (byte bs n == sign "*") _ e)

  loud_ends : ends_so (loud_piece bs 0) ≡ true
  unfolding is_ending is_token_ending ends_so loud_piece
  loud_ends =
      where_so (ends_loud bs (run_end classes.Comment bs (0 + 2))) _ _
      (λ t. ended kinds.Comment (run_end classes.Comment bs (0 + 2) + 2) changes.Keep (closed (run_end classes.Comment bs (0 + 2)) t)) refl

  code_ends : (top : Inside) (before : Before) → ends_so (code_piece bs top before 0) ≡ true
  unfolding is_ending is_token_ending ends_so code_piece
  code_ends top before =
      pick (is_white (byte bs 0)) _ _ refl
      (pick (is_quote (byte bs 0)) _ _ (quote_ends (byte bs 0))
      (pick (opens_at bs 0) _ _ refl
      (pick ((byte bs 0 == sign "}") && in_interpolation top) _ _ refl
      (pick (begins_silent bs 0) _ _ refl
      (pick (begins_loud bs 0) _ _ loud_ends (word_ends top before))))))

  css_quote_ends : (q : ℕ) → ends_so (css_quote bs q 0) ≡ true
  unfolding is_ending is_token_ending ends_so css_quote
  css_quote_ends q = pick (byte bs (run_end (classes.Text q) bs (0 + 1)) == q) _ _ refl refl

  css_loud_ends : ends_so (css_loud bs 0) ≡ true
  unfolding is_ending is_token_ending ends_so css_loud
  css_loud_ends =
      where_so (ends_loud bs (run_end classes.CssComment bs (0 + 2))) _ _
      (λ t. ended kinds.Comment (run_end classes.CssComment bs (0 + 2) + 2) changes.Keep (closed (run_end classes.CssComment bs (0 + 2)) t)) refl

  css_ends : (before : Before) → ends_so (css_piece bs before 0) ≡ true
  unfolding is_ending is_token_ending ends_so css_piece
  css_ends before =
      pick (is_white (byte bs 0)) _ _ refl
      (pick (is_quote (byte bs 0)) _ _ (css_quote_ends (byte bs 0))
      (pick (opens_at bs 0) _ _ refl
      (pick (begins_silent bs 0) _ _ refl
      (pick (begins_loud bs 0) _ _ css_loud_ends (word_ends insides.Css before)))))

  text_ends : (q : ℕ) → ends_so (text_piece bs q 0) ≡ true
  unfolding is_ending is_token_ending ends_so text_piece
  text_ends q =
      pick (byte bs 0 == q) _ _ refl
      (pick (opens_at bs 0) _ _ refl
      (pick (nat_lt 0 (run_end (classes.SheetText q) bs 0)) _ _ refl refl))

  url_ends : (class : Class) → ends_so (url_piece bs class 0) ≡ true
  unfolding is_ending is_token_ending ends_so url_piece
  url_ends class =
      pick (byte bs 0 == sign ")") _ _ refl
      (pick (opens_at bs 0) _ _ refl
      (pick (nat_lt 0 (run_end class bs 0)) _ _ refl
      (pick (is_white (byte bs 0)) _ _ refl refl)))

  comment_ends : ends_so (comment_piece bs 0) ≡ true
  unfolding is_ending is_token_ending ends_so comment_piece
  comment_ends =
      where_so (ends_loud bs 0) _ _ (λ t. ended kinds.CommentEnd (0 + 2) changes.Pop (closed 0 t))
      (pick (opens_at bs 0) _ _ refl
      (pick (nat_lt 0 (run_end classes.Comment bs 0)) _ _ refl refl))

  piece_ends : (inside : Inside) (before : Before) → ends_so (piece bs inside before 0) ≡ true
  piece_ends insides.Sheet before = code_ends insides.Sheet before
  piece_ends insides.Interpolation before = code_ends insides.Interpolation before
  piece_ends insides.Css before = css_ends before
  piece_ends (insides.Quotes q) before = text_ends q
  piece_ends insides.Comment before = comment_ends
  piece_ends insides.Url before = url_ends classes.Url
  piece_ends insides.UrlInside before = url_ends classes.UrlInside

  pub token_ends : (inside : Inside) (before : Before) (kind : TokenKind) (n : ℕ) (change : Change)
      → piece bs inside before 0 ≡ made kind n change → is_ending kind ≡ true → is_end (byte bs (n - 1)) ≡ true
  unfolding ends_so is_token_ending
  token_ends inside before kind n change e k =
      sym (ap (λ (b : Bool). not b || is_end (byte bs (n - 1))) k) ∙ sym (ap ends_so e) ∙ piece_ends inside before
