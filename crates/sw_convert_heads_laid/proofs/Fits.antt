-- What a token opens or closes is told by its kind: `#{}` by its own tokens alone, and in strings, urls and comments no
-- brackets stand.
use Rattle.std.proofs.Common.{◌≡◌, ℕ, ◌+◌, Bool, true, false, not, ◌&&◌, ◌||◌, if◌then◌else◌, List, [], ◌∷◌, Option, Some, None, refl, sym, ◌∙◌, ap}
use Rattle.std.specs.Prelude.{◌==◌, nat_lt}
use Rattle.std.specs.List.{list_all}
use Rattle.sw_text_scan.specs.declared.runs.Class.{Class}
use Rattle.sw_text_scan.specs.declared.runs.Class.TheVariants as classes
use Rattle.sw_text_scan.specs.Bytes.{sign, is_quote, byte, is_white, is_letter, opens_at, begins_silent, begins_loud, ends_loud}
use Rattle.sw_text_scan.specs.Runs.{run_end, begins_name}
use Rattle.sw_text_scan.specs.Words.{begins_number, begins_range, begins_url, url_close, unit_start}
use Rattle.sw_text_scan.proofs.Bounds.{and_left, and_right}
use Rattle.sw_text_scan.proofs.Progress.{either}
use Rattle.sw_tokens.specs.declared.pieces.Before.{Before}
use Rattle.sw_tokens.specs.declared.pieces.Change.{Change}
use Rattle.sw_tokens.specs.declared.pieces.Change.TheVariants as changes
use Rattle.sw_tokens.specs.declared.pieces.Piece.{Piece}
use Rattle.sw_tokens.specs.declared.skips.Inside.{Inside}
use Rattle.sw_tokens.specs.declared.skips.Inside.TheVariants as insides
use Rattle.sw_tokens.specs.declared.token.TokenKind.{TokenKind}
use Rattle.sw_tokens.specs.declared.token.TokenKind.TheVariants as kinds
use Rattle.sw_tokens.specs.Tokens.{is_code}
use Rattle.sw_tokens.specs.Pieces.{made, text_piece, quote_piece, sign_of, sign_piece, letter_kind, dash_kind, name_piece, is_hex_form, number_kind, number_piece, url_class, url_inside, opens_url, url_piece, after_dollar, after_hash, word_piece, comment_piece, loud_piece, in_interpolation, code_piece, piece}
use Rattle.sw_convert_spelling.specs.Spelt.{innermost, opened}
use Rattle.sw_convert_spelling.proofs.Choices.{both, right_no}

-- what is opened in a sheet
abbrev pub is_deep : Inside → Bool
is_deep insides.Sheet = false
is_deep insides.Css = false
is_deep _ = true

-- no `#{}` is opened or closed
abbrev pub leaves : Inside → Change → Bool
leaves inside changes.Keep = true
leaves inside (changes.Push further) = is_deep further && not (in_interpolation further)
leaves inside changes.Pop = not (in_interpolation inside)

abbrev pub opens_insert : Change → Bool
opens_insert (changes.Push insides.Interpolation) = true
opens_insert _ = false

abbrev pub pops : Change → Bool
pops changes.Pop = true
pops _ = false

abbrev pub keeps : Change → Bool
keeps changes.Keep = true
keeps _ = false

-- what stands in strings, urls and comments
abbrev pub is_text : TokenKind → Bool
is_text (kinds.Text text) = true
is_text kinds.Piece = true
is_text kinds.TemplateEnd = true
is_text kinds.UrlEnd = true
is_text kinds.CommentEnd = true
is_text _ = false

abbrev pub fits : Inside → TokenKind → Change → Bool
fits inside kinds.OpenInterpolation change = opens_insert change
fits inside kinds.CloseInterpolation change = pops change && in_interpolation inside
fits inside kinds.Comma change = is_code inside && keeps change
fits inside kind change = (is_code inside || is_text kind) && leaves inside change

abbrev token_fits : Inside → Option TokenKind → Change → Bool
token_fits inside None change = true
token_fits inside (Some kind) change = fits inside kind change

abbrev piece_fits : Inside → Option Piece → Bool
piece_fits inside None = true
piece_fits inside (Some p) = token_fits inside p.token p.change

-- all others of code
abbrev is_still : TokenKind → Bool
is_still kinds.OpenInterpolation = false
is_still kinds.CloseInterpolation = false
is_still _ = true

one_of : (a b : Bool) → a ≡ true → (a || b) ≡ true
one_of true b e = refl
one_of false b e = absurd (cc)

pick : (t : Bool) (x y : TokenKind) → is_still x ≡ true → is_still y ≡ true → is_still (if t then x else y) ≡ true
pick true x y e f = e
pick false x y e f = f

sign_still : (b : ℕ) → is_still (sign_of b) ≡ true
sign_still b =
    pick (b == sign "{") kinds.OpenBrace _ refl (pick (b == sign "}") kinds.CloseBrace _ refl
    (pick (b == sign "(") kinds.OpenParen _ refl (pick (b == sign ")") kinds.CloseParen _ refl
    (pick (b == sign "[") kinds.OpenBracket _ refl (pick (b == sign "]") kinds.CloseBracket _ refl
    (pick (b == sign ":") kinds.Colon _ refl (pick (b == sign ";") kinds.Semicolon _ refl
    (pick (b == sign ",") kinds.Comma _ refl (pick (b == sign ".") kinds.Dot _ refl
    (pick (b == sign "$") kinds.Dollar _ refl (pick (b == sign "#") kinds.Hash _ refl
    (pick (b == sign "!") kinds.Exclamation _ refl (pick (b == sign "&") kinds.Ampersand _ refl
    (pick (b == sign "+") kinds.Plus _ refl (pick (b == sign "-") kinds.Minus _ refl
    (pick (b == sign "*") kinds.Star _ refl (pick (b == sign "/") kinds.Slash _ refl
    (pick (b == sign "%") kinds.Percent _ refl (pick (b == sign "=") kinds.Equals _ refl
    (pick (b == sign "<") kinds.Less _ refl (pick (b == sign ">") kinds.Greater _ refl
    (pick (b == sign "@") kinds.At kinds.Other refl refl))))))))))))))))))))))

module _ (bs : List ℕ) (i : ℕ) where
  module _ (top : Inside) (code : is_code top ≡ true) where
    abbrev Fine : Option Piece → Type 0
    Fine p = piece_fits top p ≡ true

    kept : (kind : TokenKind) → is_still kind ≡ true → fits top kind changes.Keep ≡ true
    kept kinds.OpenInterpolation s = absurd (cc)
    kept kinds.CloseInterpolation s = absurd (cc)
    kept kinds.Comma s = both (is_code top) true code refl
    kept kind s = both (is_code top || is_text kind) true (one_of (is_code top) (is_text kind) code) refl

    pushed : (kind : TokenKind) (x : Inside)
        → fits top kind (changes.Push x) ≡ ((is_code top || is_text kind) && (is_deep x && not (in_interpolation x)))
        → (is_deep x && not (in_interpolation x)) ≡ true → fits top kind (changes.Push x) ≡ true
    pushed kind x e d = e ∙ both (is_code top || is_text kind) _ (one_of (is_code top) (is_text kind) code) d

    quote_fine : (q : ℕ) → Fine (quote_piece bs q i)
    unfolding quote_piece
    quote_fine q =
        either Fine (byte bs (run_end (classes.SheetText q) bs (i + 1)) == q) _ _ (λ t. kept (kinds.Quoted []) refl)
        (λ t. pushed kinds.Template (insides.Quotes q) refl refl)

    loud_fine : Fine (loud_piece bs i)
    unfolding loud_piece
    loud_fine =
        either Fine (ends_loud bs (run_end classes.Comment bs (i + 2))) _ _ (λ t. kept kinds.Comment refl)
        (λ t. pushed kinds.CommentTemplate insides.Comment refl refl)

    sign_fine : Fine (sign_piece bs i)
    unfolding sign_piece
    sign_fine =
        either Fine ((byte bs i == sign ".") && ((byte bs (i + 1) == sign ".") && (byte bs (i + 2) == sign "."))) _ _ (λ t. kept kinds.Ellipsis refl)
        (λ t. either Fine ((byte bs i == sign "=") && (byte bs (i + 1) == sign "=")) _ _ (λ t. kept kinds.EqualsEquals refl)
        (λ t. either Fine ((byte bs i == sign "!") && (byte bs (i + 1) == sign "=")) _ _ (λ t. kept kinds.NotEquals refl)
        (λ t. either Fine ((byte bs i == sign "<") && (byte bs (i + 1) == sign "=")) _ _ (λ t. kept kinds.LessEquals refl)
        (λ t. either Fine ((byte bs i == sign ">") && (byte bs (i + 1) == sign "=")) _ _ (λ t. kept kinds.GreaterEquals refl)
        (λ t. kept (sign_of (byte bs i)) (sign_still (byte bs i)))))))

    name_fine : Fine (name_piece bs i)
    unfolding name_piece
    name_fine =
        either Fine (is_letter (byte bs i)) _ _ (λ t. kept (letter_kind (run_end classes.Word bs i) (run_end classes.Name bs (run_end classes.Word bs i))) (pick _ kinds.Word kinds.Name refl refl))
        (λ t. either Fine (begins_name bs i) _ _ (λ t. kept (dash_kind bs i) (pick _ kinds.DashedName kinds.Name refl refl))
        (λ t. either Fine ((byte bs i == sign "@") && begins_name bs (i + 1)) _ _ (λ t. kept kinds.AtName refl) (λ t. sign_fine)))

    url_deep : (is_deep (url_inside top) && not (in_interpolation (url_inside top))) ≡ true
    url_deep = go top
      where
        go : (x : Inside) → (is_deep (url_inside x) && not (in_interpolation (url_inside x))) ≡ true
        go insides.Sheet = refl
        go _ = refl

    word_fine : (before : Before) → Fine (word_piece bs top before i)
    unfolding word_piece number_piece
    word_fine before =
        either Fine (after_hash before && is_hex_form bs i) _ _ (λ t. kept kinds.Hex refl)
        (λ t. either Fine (begins_number bs i) _ _ (λ t. kept (number_kind bs (run_end classes.Digit bs i) (unit_start bs i)) (pick _ kinds.Digits kinds.Number refl refl))
        (λ t. either Fine (not (after_dollar before) && begins_range bs i) _ _ (λ t. kept kinds.UnicodeRange refl)
        (λ t. either Fine (begins_url bs i && (byte bs (url_close bs (url_class top) i) == sign ")")) _ _ (λ t. kept kinds.Url refl)
        (λ t. either Fine (opens_url bs top i) _ _ (λ t. pushed kinds.UrlTemplate (url_inside top) refl url_deep) (λ t. name_fine)))))

    code_fine : (before : Before) → Fine (code_piece bs top before i)
    unfolding code_piece
    code_fine before =
        either Fine (is_white (byte bs i)) _ _ (λ t. refl)
        (λ t. either Fine (is_quote (byte bs i)) _ _ (λ t. quote_fine (byte bs i))
        (λ t. either Fine (opens_at bs i) _ _ (λ t. refl)
        (λ t. either Fine ((byte bs i == sign "}") && in_interpolation top) _ _
        (λ t. and_right (byte bs i == sign "}") _ t)
        (λ t. either Fine (begins_silent bs i) _ _ (λ t. refl)
        (λ t. either Fine (begins_loud bs i) _ _ (λ t. loud_fine) (λ t. word_fine before))))))

  text_fine : (q : ℕ) → piece_fits (insides.Quotes q) (text_piece bs q i) ≡ true
  unfolding text_piece
  text_fine q =
      either (λ p. piece_fits (insides.Quotes q) p ≡ true) (byte bs i == q) _ _ (λ t. refl)
      (λ t. either (λ p. piece_fits (insides.Quotes q) p ≡ true) (opens_at bs i) _ _ (λ t. refl)
      (λ t. either (λ p. piece_fits (insides.Quotes q) p ≡ true) (nat_lt i (run_end (classes.SheetText q) bs i)) _ _ (λ t. refl) (λ t. refl)))

  url_fine : (top : Inside) → in_interpolation top ≡ false → (class : Class) → piece_fits top (url_piece bs class i) ≡ true
  unfolding url_piece
  url_fine top o class =
      either (λ p. piece_fits top p ≡ true) (byte bs i == sign ")") _ _
      (λ t. both (is_code top || true) _ (last_of (is_code top)) (ap not o))
      (λ t. either (λ p. piece_fits top p ≡ true) (opens_at bs i) _ _ (λ t. refl)
      (λ t. either (λ p. piece_fits top p ≡ true) (nat_lt i (run_end class bs i)) _ _
      (λ t. both (is_code top || true) true (last_of (is_code top)) refl)
      (λ t. either (λ p. piece_fits top p ≡ true) (is_white (byte bs i)) _ _ (λ t. refl) (λ t. refl))))
    where
      last_of : (t : Bool) → (t || true) ≡ true
      last_of true = refl
      last_of false = refl

  comment_fine : piece_fits insides.Comment (comment_piece bs i) ≡ true
  unfolding comment_piece
  comment_fine =
      either (λ p. piece_fits insides.Comment p ≡ true) (ends_loud bs i) _ _ (λ t. refl)
      (λ t. either (λ p. piece_fits insides.Comment p ≡ true) (opens_at bs i) _ _ (λ t. refl)
      (λ t. either (λ p. piece_fits insides.Comment p ≡ true) (nat_lt i (run_end classes.Comment bs i)) _ _ (λ t. refl) (λ t. refl)))

  all_fit : (stack : List Inside) (before : Before) → list_all is_deep stack ≡ true
      → piece_fits (innermost stack) (piece bs (innermost stack) before i) ≡ true
  all_fit [] before d = code_fine insides.Sheet refl before
  all_fit (insides.Sheet ∷ outer) before d = absurd (cc)
  all_fit (insides.Css ∷ outer) before d = absurd (cc)
  all_fit (insides.Interpolation ∷ outer) before d = code_fine insides.Interpolation refl before
  all_fit (insides.Quotes q ∷ outer) before d = text_fine q
  all_fit (insides.Url ∷ outer) before d = url_fine insides.Url refl classes.Url
  all_fit (insides.UrlInside ∷ outer) before d = url_fine insides.UrlInside refl classes.UrlInside
  all_fit (insides.Comment ∷ outer) before d = comment_fine

-- of each token that stands in a sheet
pub token_fits_there : (bs : List ℕ) (i : ℕ) (stack : List Inside) (before : Before) (kind : TokenKind) (to : ℕ)
    (change : Change) → list_all is_deep stack ≡ true → piece bs (innermost stack) before i ≡ made kind to change
    → fits (innermost stack) kind change ≡ true
token_fits_there bs i stack before kind to change d e =
    ap (piece_fits (innermost stack)) (sym e) ∙ all_fit bs i stack before d

-- and what is open behind it is open in a sheet
pub deep_behind : (stack : List Inside) (kind : TokenKind) (change : Change) → list_all is_deep stack ≡ true
    → fits (innermost stack) kind change ≡ true → list_all is_deep (opened stack change) ≡ true
deep_behind stack kind changes.Keep d f = d
deep_behind stack kind (changes.Push x) d f = both (is_deep x) _ (deep kind x f) d
  where
    deep : (kind : TokenKind) (x : Inside) → fits (innermost stack) kind (changes.Push x) ≡ true → is_deep x ≡ true
    deep kinds.OpenInterpolation insides.Interpolation f = refl
    deep kinds.OpenInterpolation _ f = absurd (cc)
    deep kinds.CloseInterpolation x f = absurd (cc)
    deep kinds.Comma x f = absurd (let no : false ≡ true = sym (right_no (is_code (innermost stack)) false refl) ∙ f in cc)
    deep kind x f = and_left (is_deep x) _ (and_right (is_code (innermost stack) || _) _ f)
deep_behind [] kind changes.Pop d f = refl
deep_behind (inside ∷ outer) kind changes.Pop d f = and_right (is_deep inside) _ d
