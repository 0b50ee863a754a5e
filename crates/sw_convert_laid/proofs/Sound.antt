-- In a sheet no token opens anything but `#{}`, comments, urls and strings with a quote.
use Rattle.std.proofs.Common.{◌≡◌, ℕ, ◌+◌, Bool, true, not, ◌&&◌, List, [], ◌∷◌, Option, Some, None, refl, sym, ◌∙◌, ap}
use Rattle.std.specs.Prelude.{◌==◌, nat_lt}
use Rattle.std.specs.List.{list_all}
use Rattle.sw_text_scan.specs.declared.runs.Class.{Class}
use Rattle.sw_text_scan.specs.declared.runs.Class.TheVariants as classes
use Rattle.sw_text_scan.specs.Bytes.{sign, is_quote, byte, is_white, is_letter, opens_at, begins_silent, begins_loud, ends_loud}
use Rattle.sw_text_scan.specs.Runs.{run_end, begins_name}
use Rattle.sw_text_scan.specs.Words.{begins_number, begins_range, begins_url, url_close}
use Rattle.sw_text_scan.proofs.Bounds.{and_left, and_right}
use Rattle.sw_text_scan.proofs.Progress.{either}
use Rattle.sw_tokens.specs.declared.pieces.Before.{Before}
use Rattle.sw_tokens.specs.declared.pieces.Change.{Change}
use Rattle.sw_tokens.specs.declared.pieces.Change.TheVariants as changes
use Rattle.sw_tokens.specs.declared.pieces.Piece.{Piece}
use Rattle.sw_tokens.specs.declared.skips.Inside.{Inside}
use Rattle.sw_tokens.specs.declared.skips.Inside.TheVariants as insides
use Rattle.sw_tokens.specs.declared.token.TokenKind.{TokenKind}
use Rattle.sw_tokens.specs.Pieces.{made, text_piece, quote_piece, sign_piece, name_piece, is_hex_form, number_piece, url_class, url_inside, opens_url, url_piece, after_dollar, after_hash, word_piece, comment_piece, loud_piece, in_interpolation, code_piece, piece}
use Rattle.sw_convert_spelling.specs.Spelt.{innermost, opened}
use Rattle.sw_convert_spelling.proofs.Choices.{both}
use Rattle.sw_convert_laid.proofs.SamePieces.{is_sound}

abbrev is_fine : Change → Bool
is_fine changes.Keep = true
is_fine changes.Pop = true
is_fine (changes.Push inside) = is_sound inside

abbrev fine : Option Piece → Bool
fine None = true
fine (Some p) = is_fine p.change

abbrev Fine : Option Piece → Type 0
Fine p = fine p ≡ true

module _ (bs : List ℕ) (i : ℕ) where
  text_fine : (q : ℕ) → Fine (text_piece bs q i)
  unfolding text_piece
  text_fine q =
      either Fine (byte bs i == q) _ _ (λ t. refl)
      (λ t. either Fine (opens_at bs i) _ _ (λ t. refl)
      (λ t. either Fine (nat_lt i (run_end (classes.SheetText q) bs i)) _ _ (λ t. refl) (λ t. refl)))

  quote_fine : (q : ℕ) → is_quote q ≡ true → Fine (quote_piece bs q i)
  unfolding quote_piece
  quote_fine q e = either Fine (byte bs (run_end (classes.SheetText q) bs (i + 1)) == q) _ _ (λ t. refl) (λ t. e)

  url_fine : (class : Class) → Fine (url_piece bs class i)
  unfolding url_piece
  url_fine class =
      either Fine (byte bs i == sign ")") _ _ (λ t. refl)
      (λ t. either Fine (opens_at bs i) _ _ (λ t. refl)
      (λ t. either Fine (nat_lt i (run_end class bs i)) _ _ (λ t. refl)
      (λ t. either Fine (is_white (byte bs i)) _ _ (λ t. refl) (λ t. refl))))

  comment_fine : Fine (comment_piece bs i)
  unfolding comment_piece
  comment_fine =
      either Fine (ends_loud bs i) _ _ (λ t. refl)
      (λ t. either Fine (opens_at bs i) _ _ (λ t. refl)
      (λ t. either Fine (nat_lt i (run_end classes.Comment bs i)) _ _ (λ t. refl) (λ t. refl)))

  loud_fine : Fine (loud_piece bs i)
  unfolding loud_piece
  loud_fine = either Fine (ends_loud bs (run_end classes.Comment bs (i + 2))) _ _ (λ t. refl) (λ t. refl)

  sign_fine : Fine (sign_piece bs i)
  unfolding sign_piece
  sign_fine =
      either Fine ((byte bs i == sign ".") && ((byte bs (i + 1) == sign ".") && (byte bs (i + 2) == sign "."))) _ _ (λ t. refl)
      (λ t. either Fine ((byte bs i == sign "=") && (byte bs (i + 1) == sign "=")) _ _ (λ t. refl)
      (λ t. either Fine ((byte bs i == sign "!") && (byte bs (i + 1) == sign "=")) _ _ (λ t. refl)
      (λ t. either Fine ((byte bs i == sign "<") && (byte bs (i + 1) == sign "=")) _ _ (λ t. refl)
      (λ t. either Fine ((byte bs i == sign ">") && (byte bs (i + 1) == sign "=")) _ _ (λ t. refl) (λ t. refl)))))

  name_fine : Fine (name_piece bs i)
  unfolding name_piece
  name_fine =
      either Fine (is_letter (byte bs i)) _ _ (λ t. refl)
      (λ t. either Fine (begins_name bs i) _ _ (λ t. refl)
      (λ t. either Fine ((byte bs i == sign "@") && begins_name bs (i + 1)) _ _ (λ t. refl) (λ t. sign_fine)))

  inner_url : (top : Inside) → is_sound (url_inside top) ≡ true
  inner_url insides.Sheet = refl
  inner_url _ = refl

  word_fine : (top : Inside) (before : Before) → Fine (word_piece bs top before i)
  unfolding word_piece number_piece
  word_fine top before =
      either Fine (after_hash before && is_hex_form bs i) _ _ (λ t. refl)
      (λ t. either Fine (begins_number bs i) _ _ (λ t. refl)
      (λ t. either Fine (not (after_dollar before) && begins_range bs i) _ _ (λ t. refl)
      (λ t. either Fine (begins_url bs i && (byte bs (url_close bs (url_class top) i) == sign ")")) _ _ (λ t. refl)
      (λ t. either Fine (opens_url bs top i) _ _ (λ t. inner_url top) (λ t. name_fine)))))

  code_fine : (top : Inside) (before : Before) → Fine (code_piece bs top before i)
  unfolding code_piece
  code_fine top before =
      either Fine (is_white (byte bs i)) _ _ (λ t. refl)
      (λ t. either Fine (is_quote (byte bs i)) _ _ (λ t. quote_fine (byte bs i) t)
      (λ t. either Fine (opens_at bs i) _ _ (λ t. refl)
      (λ t. either Fine ((byte bs i == sign "}") && in_interpolation top) _ _ (λ t. refl)
      (λ t. either Fine (begins_silent bs i) _ _ (λ t. refl)
      (λ t. either Fine (begins_loud bs i) _ _ (λ t. loud_fine) (λ t. word_fine top before))))))

  piece_fine : (inside : Inside) (before : Before) → is_sound inside ≡ true → Fine (piece bs inside before i)
  piece_fine insides.Css before s = absurd (cc)
  piece_fine (insides.Quotes q) before s = text_fine q
  piece_fine insides.Url before s = url_fine classes.Url
  piece_fine insides.UrlInside before s = url_fine classes.UrlInside
  piece_fine insides.Comment before s = comment_fine
  piece_fine insides.Sheet before s = code_fine insides.Sheet before
  piece_fine insides.Interpolation before s = code_fine insides.Interpolation before

pub top_sound : (stack : List Inside) → list_all is_sound stack ≡ true → is_sound (innermost stack) ≡ true
top_sound [] s = refl
top_sound (inside ∷ outer) s = and_left (is_sound inside) _ s

-- what is open behind a token
pub opened_sound : (bs : List ℕ) (i : ℕ) (stack : List Inside) (before : Before) (kind : TokenKind) (to : ℕ)
    (change : Change) → list_all is_sound stack ≡ true → piece bs (innermost stack) before i ≡ made kind to change
    → list_all is_sound (opened stack change) ≡ true
opened_sound bs i stack before kind to change s e =
    go stack change s (ap fine (sym e) ∙ piece_fine bs i (innermost stack) before (top_sound stack s))
  where
    go : (stack : List Inside) (change : Change) → list_all is_sound stack ≡ true → is_fine change ≡ true
        → list_all is_sound (opened stack change) ≡ true
    go stack changes.Keep s f = s
    go stack (changes.Push inside) s f = both (is_sound inside) (list_all is_sound stack) f s
    go [] changes.Pop s f = refl
    go (inside ∷ outer) changes.Pop s f = and_right (is_sound inside) _ s
