-- At the text of a line that is no comment a token begins.
use Rattle.std.proofs.Common.{◌≡◌, ℕ, ◌+◌, Bool, true, false, not, ◌&&◌, List, refl, Option, Some, None}
use Rattle.std.specs.Prelude.{◌==◌}
use Rattle.sw_text_scan.specs.Bytes.{sign, is_quote, byte, is_white, is_letter, opens_at, begins_silent, begins_loud}
use Rattle.sw_text_scan.specs.Runs.{run_end, begins_name}
use Rattle.sw_text_scan.specs.Words.{unit_start, begins_number, begins_range, begins_url, url_close}
use Rattle.sw_text_scan.specs.declared.runs.Class.TheVariants as classes
use Rattle.sw_tokens.specs.declared.skips.Inside.{Inside}
use Rattle.sw_tokens.specs.declared.skips.Inside.TheVariants as insides
use Rattle.sw_tokens.specs.declared.token.TokenKind.{TokenKind}
use Rattle.sw_tokens.specs.declared.pieces.Before.{Before}
use Rattle.sw_tokens.specs.declared.pieces.Change.{Change}
use Rattle.sw_tokens.specs.declared.pieces.Piece.{Piece}
use Rattle.sw_tokens.specs.Pieces.{made, quote_piece, comparison_of, operator_of, mark_of, sign_of, sign_piece, letter_kind, dash_kind, name_piece, is_hex_form, number_kind, number_piece, url_class, opens_url, after_dollar, after_hash, word_piece, in_interpolation, code_piece, piece}
use Rattle.sw_text_scan.proofs.Progress.{either}
use Rattle.sw_parse_layout.specs.Laws.{opens_comment}

pub data Tells : Option Piece → Type 0 where
  token : {p : Piece} (kind : TokenKind) → p.token ≡ Some kind → opens_comment kind ≡ false → Tells (Some p)
  fails : Tells None

IsOther : TokenKind → Type 0
IsOther kind = opens_comment kind ≡ false

tells : (kind : TokenKind) (to : ℕ) (change : Change) → opens_comment kind ≡ false → Tells (made kind to change)
tells kind to change e = token kind refl e

module _ (bs : List ℕ) (at : ℕ) where
  pub quotes : (q : ℕ) → Tells (quote_piece bs q at)
  unfolding quote_piece
  quotes q =
      either Tells (byte bs (run_end (classes.SheetText q) bs (at + 1)) == q) _ _ (λ _. token _ refl refl)
      (λ _. token _ refl refl)

  comparisons : (b : ℕ) → opens_comment (comparison_of b) ≡ false
  comparisons b =
      either (λ (k : TokenKind). opens_comment k ≡ false) (b == sign "%") _ _ (λ _. refl)
      (λ _. either (λ (k : TokenKind). opens_comment k ≡ false) (b == sign "=") _ _ (λ _. refl)
      (λ _. either (λ (k : TokenKind). opens_comment k ≡ false) (b == sign "<") _ _ (λ _. refl)
      (λ _. either (λ (k : TokenKind). opens_comment k ≡ false) (b == sign ">") _ _ (λ _. refl)
      (λ _. either (λ (k : TokenKind). opens_comment k ≡ false) (b == sign "@") _ _ (λ _. refl) (λ _. refl)))))

  operators : (b : ℕ) → opens_comment (operator_of b) ≡ false
  operators b =
      either (λ (k : TokenKind). opens_comment k ≡ false) (b == sign "!") _ _ (λ _. refl)
      (λ _. either (λ (k : TokenKind). opens_comment k ≡ false) (b == sign "&") _ _ (λ _. refl)
      (λ _. either (λ (k : TokenKind). opens_comment k ≡ false) (b == sign "+") _ _ (λ _. refl)
      (λ _. either (λ (k : TokenKind). opens_comment k ≡ false) (b == sign "-") _ _ (λ _. refl)
      (λ _. either (λ (k : TokenKind). opens_comment k ≡ false) (b == sign "*") _ _ (λ _. refl)
      (λ _. either (λ (k : TokenKind). opens_comment k ≡ false) (b == sign "/") _ _ (λ _. refl) (λ _. comparisons b))))))

  marks : (b : ℕ) → opens_comment (mark_of b) ≡ false
  marks b =
      either (λ (k : TokenKind). opens_comment k ≡ false) (b == sign ":") _ _ (λ _. refl)
      (λ _. either (λ (k : TokenKind). opens_comment k ≡ false) (b == sign ";") _ _ (λ _. refl)
      (λ _. either (λ (k : TokenKind). opens_comment k ≡ false) (b == sign ",") _ _ (λ _. refl)
      (λ _. either (λ (k : TokenKind). opens_comment k ≡ false) (b == sign ".") _ _ (λ _. refl)
      (λ _. either (λ (k : TokenKind). opens_comment k ≡ false) (b == sign "$") _ _ (λ _. refl)
      (λ _. either (λ (k : TokenKind). opens_comment k ≡ false) (b == sign "#") _ _ (λ _. refl) (λ _. operators b))))))

  signs : (b : ℕ) → opens_comment (sign_of b) ≡ false
  signs b =
      either (λ (k : TokenKind). opens_comment k ≡ false) (b == sign "{") _ _ (λ _. refl)
      (λ _. either (λ (k : TokenKind). opens_comment k ≡ false) (b == sign "}") _ _ (λ _. refl)
      (λ _. either (λ (k : TokenKind). opens_comment k ≡ false) (b == sign "(") _ _ (λ _. refl)
      (λ _. either (λ (k : TokenKind). opens_comment k ≡ false) (b == sign ")") _ _ (λ _. refl)
      (λ _. either (λ (k : TokenKind). opens_comment k ≡ false) (b == sign "[") _ _ (λ _. refl)
      (λ _. either (λ (k : TokenKind). opens_comment k ≡ false) (b == sign "]") _ _ (λ _. refl) (λ _. marks b))))))

  sign_tells : Tells (sign_piece bs at)
  unfolding sign_piece
  sign_tells =
      either Tells ((byte bs at == sign ".") && ((byte bs (at + 1) == sign ".") && (byte bs (at + 2) == sign "."))) _ _
      (λ _. token _ refl refl)
      (λ _. either Tells ((byte bs at == sign "=") && (byte bs (at + 1) == sign "=")) _ _ (λ _. token _ refl refl)
      (λ _. either Tells ((byte bs at == sign "!") && (byte bs (at + 1) == sign "=")) _ _ (λ _. token _ refl refl)
      (λ _. either Tells ((byte bs at == sign "<") && (byte bs (at + 1) == sign "=")) _ _ (λ _. token _ refl refl)
      (λ _. either Tells ((byte bs at == sign ">") && (byte bs (at + 1) == sign "=")) _ _ (λ _. token _ refl refl)
      (λ _. token (sign_of (byte bs at)) refl (signs (byte bs at)))))))

  name_tells : Tells (name_piece bs at)
  unfolding name_piece
  name_tells =
      either Tells (is_letter (byte bs at)) _ _
      (λ _. token (letter_kind (run_end classes.Word bs at) (run_end classes.Name bs (run_end classes.Word bs at))) refl
      (either (λ (k : TokenKind). opens_comment k ≡ false) (run_end classes.Word bs at == run_end classes.Name bs (run_end classes.Word
      bs at)) _ _ (λ _. refl) (λ _. refl)))
      (λ _. either Tells (begins_name bs at) _ _
      (λ _. token (dash_kind bs at) refl
      (either (λ (k : TokenKind). opens_comment k ≡ false) ((byte bs at == sign "-") && (byte bs (at + 1) == sign "-")) _ _ (λ _. refl)
      (λ _. refl)))
      (λ _. either Tells ((byte bs at == sign "@") && begins_name bs (at + 1)) _ _ (λ _. token _ refl refl) (λ _.
      sign_tells)))

  number_tells : Tells (number_piece bs at)
  unfolding number_piece
  number_tells =
      token (number_kind bs (run_end classes.Digit bs at) (unit_start bs at)) refl
      (either (λ (k : TokenKind). opens_comment k ≡ false) ((run_end classes.Digit bs at == unit_start bs at) && not (byte bs
      (unit_start bs at) == sign "%")) _ _ (λ _. refl) (λ _. refl))

  pub word_tells : (inside : Inside) (before : Before) → Tells (word_piece bs inside before at)
  unfolding word_piece
  word_tells inside before =
      either Tells (after_hash before && is_hex_form bs at) _ _ (λ _. token _ refl refl)
      (λ _. either Tells (begins_number bs at) _ _ (λ _. number_tells)
      (λ _. either Tells (not (after_dollar before) && begins_range bs at) _ _ (λ _. token _ refl refl)
      (λ _. either Tells (begins_url bs at && (byte bs (url_close bs (url_class inside) at) == sign ")")) _ _ (λ
      _. token _ refl refl)
      (λ _. either Tells (opens_url bs inside at) _ _ (λ _. token _ refl refl) (λ _. name_tells)))))

  never : (b : Bool) → b ≡ false → b ≡ true → ⊥
  never true e m = absurd (cc)
  never false e m = absurd (cc)

  -- where nothing is open
  pub code_tells : (before : Before) → is_white (byte bs at) ≡ false → begins_silent bs at ≡ false
      → begins_loud bs at ≡ false → Tells (piece bs insides.Sheet before at)
  unfolding code_piece
  code_tells before white silent loud =
      either Tells (is_white (byte bs at)) _ _ (λ m. absurd (never _ white m))
      (λ _. either Tells (is_quote (byte bs at)) _ _ (λ _. quotes (byte bs at))
      (λ _. either Tells (opens_at bs at) _ _ (λ _. token _ refl refl)
      (λ _. either Tells ((byte bs at == sign "}") && in_interpolation insides.Sheet) _ _ (λ _. token _ refl refl)
      (λ _. either Tells (begins_silent bs at) _ _ (λ m. absurd (never _ silent m))
      (λ _. either Tells (begins_loud bs at) _ _ (λ m. absurd (never _ loud m)) (λ _. word_tells insides.Sheet before))))))
