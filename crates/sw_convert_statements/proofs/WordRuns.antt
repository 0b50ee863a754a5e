-- A token that is a word goes as far as letters, digits and `-` go.
use Rattle.std.proofs.Common.{◌≡◌, ℕ, ◌+◌, Bool, true, false, not, ◌&&◌, if◌then◌else◌, List, Option, Some, None, refl, sym, ◌∙◌, ap, arith}
use Rattle.std.specs.Prelude.{◌==◌}
use Rattle.std.proofs.lemmas.Bool.Decides.{nat_tests}
use Rattle.sw_text_scan.specs.declared.runs.Class.TheVariants as classes
use Rattle.sw_text_scan.specs.Bytes.{sign, byte, is_letter}
use Rattle.sw_text_scan.specs.Runs.{run_end, begins_name}
use Rattle.sw_tokens.specs.declared.pieces.Before.{Before}
use Rattle.sw_tokens.specs.declared.pieces.Change.{Change}
use Rattle.sw_tokens.specs.declared.pieces.Change.TheVariants as changes
use Rattle.sw_tokens.specs.declared.pieces.Piece.{Piece}
use Rattle.sw_tokens.specs.declared.skips.Inside.{Inside}
use Rattle.sw_tokens.specs.declared.token.TokenKind.{TokenKind}
use Rattle.sw_tokens.specs.declared.token.TokenKind.TheVariants as kinds
use Rattle.sw_tokens.specs.Pieces.{made, piece, sign_of, sign_piece, letter_kind, dash_kind, name_piece}
use Rattle.sw_convert_tokens.proofs.NamePieces.{name_in}

is_word : TokenKind → Bool
is_word kinds.Word = true
is_word _ = false

is_token_word : Option TokenKind → Bool
is_token_word None = false
is_token_word (Some kind) = is_word kind

-- a word that ends elsewhere
is_other : ℕ → Option Piece → Bool
is_other run None = false
is_other run (Some p) = is_token_word p.token && not (p.to == run)

pick : (run : ℕ) (t : Bool) (x y : Option Piece) → is_other run x ≡ false → is_other run y ≡ false
    → is_other run (if t then x else y) ≡ false
pick run true x y e f = e
pick run false x y e f = f

other : (t : Bool) (x y : TokenKind) → is_word x ≡ false → is_word y ≡ false → is_word (if t then x else y) ≡ false
other true x y e f = e
other false x y e f = f

lone : (run : ℕ) (kind : TokenKind) (n : ℕ) (change : Change) → is_word kind ≡ false
    → is_other run (made kind n change) ≡ false
unfolding is_other is_token_word
lone run kind n change e = ap (λ (b : Bool). b && not (n == run)) e

is_equal : (a b : ℕ) → (a == b) ≡ true → a ≡ b
is_equal a b e = grind (arith, nat_tests)

equal : (n : ℕ) → not (n == n) ≡ false
equal n = grind (arith, nat_tests)

sign_no : (b : ℕ) → is_word (sign_of b) ≡ false
unfolding is_word
sign_no b =
    other (b == sign "{") kinds.OpenBrace _ refl (other (b == sign "}") kinds.CloseBrace _ refl
    (other (b == sign "(") kinds.OpenParen _ refl (other (b == sign ")") kinds.CloseParen _ refl
    (other (b == sign "[") kinds.OpenBracket _ refl (other (b == sign "]") kinds.CloseBracket _ refl
    (other (b == sign ":") kinds.Colon _ refl (other (b == sign ";") kinds.Semicolon _ refl
    (other (b == sign ",") kinds.Comma _ refl (other (b == sign ".") kinds.Dot _ refl
    (other (b == sign "$") kinds.Dollar _ refl (other (b == sign "#") kinds.Hash _ refl
    (other (b == sign "!") kinds.Exclamation _ refl (other (b == sign "&") kinds.Ampersand _ refl
    (other (b == sign "+") kinds.Plus _ refl (other (b == sign "-") kinds.Minus _ refl
    (other (b == sign "*") kinds.Star _ refl (other (b == sign "/") kinds.Slash _ refl
    (other (b == sign "%") kinds.Percent _ refl (other (b == sign "=") kinds.Equals _ refl
    (other (b == sign "<") kinds.Less _ refl (other (b == sign ">") kinds.Greater _ refl
    (other (b == sign "@") kinds.At kinds.Other refl refl))))))))))))))))))))))

module _ (bs : List ℕ) where
  abbrev run : ℕ
  run = run_end classes.Word bs 0

  sign_runs : is_other run (sign_piece bs 0) ≡ false
  unfolding is_word is_token_word is_other sign_piece
  sign_runs =
      pick run ((byte bs 0 == sign ".") && ((byte bs (0 + 1) == sign ".") && (byte bs (0 + 2) == sign "."))) _ _ refl
      (pick run ((byte bs 0 == sign "=") && (byte bs (0 + 1) == sign "=")) _ _ refl
      (pick run ((byte bs 0 == sign "!") && (byte bs (0 + 1) == sign "=")) _ _ refl
      (pick run ((byte bs 0 == sign "<") && (byte bs (0 + 1) == sign "=")) _ _ refl
      (pick run ((byte bs 0 == sign ">") && (byte bs (0 + 1) == sign "=")) _ _ refl
      (lone run (sign_of (byte bs 0)) (0 + 1) changes.Keep (sign_no (byte bs 0)))))))

  letters_end : (n : ℕ) → is_other run (made (letter_kind run n) n changes.Keep) ≡ false
  unfolding is_word is_token_word is_other
  letters_end n = go (run == n) refl
    where
      same : run ≡ n → not (n == run) ≡ false
      same e = ap (λ (m : ℕ). not (m == run)) (sym e) ∙ equal run

      go : (t : Bool) → (run == n) ≡ t → is_other run (made (if t then kinds.Word else kinds.Name) n changes.Keep) ≡ false
      go true e = same (is_equal run n e)
      go false e = refl

  name_runs : is_other run (name_piece bs 0) ≡ false
  unfolding is_word name_piece
  name_runs =
      pick run (is_letter (byte bs 0)) _ _ (letters_end (run_end classes.Name bs run))
      (pick run (begins_name bs 0) _ _ (lone run (dash_kind bs 0) (run_end classes.Name bs 0) changes.Keep
      (other ((byte bs 0 == sign "-") && (byte bs (0 + 1) == sign "-")) kinds.DashedName kinds.Name refl refl))
      (pick run ((byte bs 0 == sign "@") && begins_name bs (0 + 1)) _ _ (lone run kinds.AtName (run_end classes.Name bs (0 + 1)) changes.Keep refl)
      sign_runs))

-- where a word ends
pub word_run : (bs : List ℕ) (inside : Inside) (before : Before) (n : ℕ) (change : Change)
    → piece bs inside before 0 ≡ made kinds.Word n change → n ≡ run_end classes.Word bs 0
unfolding is_word is_token_word is_other
word_run bs inside before n change e =
    is_equal n (run_end classes.Word bs 0)
    (not_false (n == run_end classes.Word bs 0)
    (sym (ap (is_other (run_end classes.Word bs 0)) (name_in kinds.Word n change refl bs inside before e)) ∙ name_runs bs))
  where
    not_false : (t : Bool) → not t ≡ false → t ≡ true
    not_false true f = refl
    not_false false f = absurd (cc)
