-- A `#` by itself is this byte.
use Rattle.std.proofs.Common.{◌≡◌, ℕ, ◌+◌, Bool, true, false, ◌&&◌, if◌then◌else◌, List, Option, refl, sym, ◌∙◌, ap}
use Rattle.std.specs.Prelude.{◌==◌, slice_range}
use Rattle.sw_text_scan.specs.declared.runs.Class.TheVariants as classes
use Rattle.sw_text_scan.specs.Bytes.{sign, byte, is_letter}
use Rattle.sw_text_scan.specs.Runs.{run_end, begins_name}
use Rattle.sw_text_scan.specs.Words.{unit_start, unit_end, url_close}
use Rattle.sw_tokens.specs.declared.pieces.Before.{Before}
use Rattle.sw_tokens.specs.declared.pieces.Change.{Change}
use Rattle.sw_tokens.specs.declared.pieces.Change.TheVariants as changes
use Rattle.sw_tokens.specs.declared.pieces.Piece.{Piece}
use Rattle.sw_tokens.specs.declared.skips.Inside.{Inside}
use Rattle.sw_tokens.specs.declared.token.TokenKind.{TokenKind}
use Rattle.sw_tokens.specs.declared.token.TokenKind.TheVariants as kinds
use Rattle.sw_tokens.specs.Decoded.{decoded}
use Rattle.sw_tokens.specs.Pieces.{made, piece, sign_of, operator_of, sign_piece, name_piece, number_piece, url_class}
use Rattle.sw_convert_spelling.proofs.Choices.{to_of, unlike, no_white_piece}
use Rattle.sw_convert_texts.proofs.Pieces.{is_frame, Cases, piece_has}

abbrev pub is_hash : TokenKind → Bool
is_hash kinds.Hash = true
is_hash _ = false

no_hash : (t : Bool) (x y : TokenKind) → is_hash x ≡ false → is_hash y ≡ false → is_hash (if t then x else y) ≡ false
no_hash true x y e f = e
no_hash false x y e f = f

hash_byte : (b : ℕ) → is_hash (sign_of b) ≡ true → (b == sign "#") ≡ true
hash_byte b =
    no (b == sign "{") kinds.OpenBrace _ refl (no (b == sign "}") kinds.CloseBrace _ refl
    (no (b == sign "(") kinds.OpenParen _ refl (no (b == sign ")") kinds.CloseParen _ refl
    (no (b == sign "[") kinds.OpenBracket _ refl (no (b == sign "]") kinds.CloseBracket _ refl
    (no (b == sign ":") kinds.Colon _ refl (no (b == sign ";") kinds.Semicolon _ refl
    (no (b == sign ",") kinds.Comma _ refl (no (b == sign ".") kinds.Dot _ refl
    (no (b == sign "$") kinds.Dollar _ refl (yes (b == sign "#"))))))))))))
  where
    no : {P : Type 0} (t : Bool) (x y : TokenKind) → is_hash x ≡ false → (is_hash y ≡ true → P)
        → is_hash (if t then x else y) ≡ true → P
    no true x y f more e = absurd (let wrong : true ≡ false = sym e ∙ f in cc)
    no false x y f more e = more e

    others : is_hash (operator_of b) ≡ false
    others =
        no_hash (b == sign "!") kinds.Exclamation _ refl (no_hash (b == sign "&") kinds.Ampersand _ refl
        (no_hash (b == sign "+") kinds.Plus _ refl (no_hash (b == sign "-") kinds.Minus _ refl
        (no_hash (b == sign "*") kinds.Star _ refl (no_hash (b == sign "/") kinds.Slash _ refl
        (no_hash (b == sign "%") kinds.Percent _ refl (no_hash (b == sign "=") kinds.Equals _ refl
        (no_hash (b == sign "<") kinds.Less _ refl (no_hash (b == sign ">") kinds.Greater _ refl
        (no_hash (b == sign "@") kinds.At kinds.Other refl refl))))))))))

    yes : (t : Bool) → is_hash (if t then kinds.Hash else operator_of b) ≡ true → t ≡ true
    yes true e = refl
    yes false e = absurd (let wrong : true ≡ false = sym e ∙ others in cc)

pub record HashHere (bs : List ℕ) (n : ℕ) : Type 0 where
  pub is : (byte bs 0 == sign "#") ≡ true
  pub one : n ≡ 1

module _ (bs : List ℕ) (n : ℕ) (change : Change) where
  abbrev Hash : Option Piece → Type 0
  Hash o = o ≡ made kinds.Hash n change → HashHere bs n

  not_so : (kind : TokenKind) (m : ℕ) (c : Change) → is_hash kind ≡ false → Hash (made kind m c)
  not_so kind m c f e = absurd (let wrong : true ≡ false = unlike is_hash kind m c e ∙ f in cc)

  frame_no : (kind : TokenKind) → is_frame kind ≡ true → is_hash kind ≡ false
  frame_no kinds.Hash e = absurd (cc)
  frame_no _ e = refl

  choose : (t : Bool) (x y : Option Piece) → Hash x → Hash y → Hash (if t then x else y)
  choose true x y e f = e
  choose false x y e f = f

  kind_no : (t : Bool) (x y : TokenKind) (m : ℕ) → is_hash x ≡ false → is_hash y ≡ false
      → Hash (made (if t then x else y) m changes.Keep)
  kind_no t x y m e f = not_so (if t then x else y) m changes.Keep (no_hash t x y e f)

  sign_is : Hash (sign_piece bs 0)
  unfolding sign_piece
  sign_is =
      choose ((byte bs 0 == sign ".") && ((byte bs (0 + 1) == sign ".") && (byte bs (0 + 2) == sign "."))) _ _
      (not_so kinds.Ellipsis (0 + 3) changes.Keep refl)
      (choose ((byte bs 0 == sign "=") && (byte bs (0 + 1) == sign "=")) _ _ (not_so kinds.EqualsEquals (0 + 2) changes.Keep refl)
      (choose ((byte bs 0 == sign "!") && (byte bs (0 + 1) == sign "=")) _ _ (not_so kinds.NotEquals (0 + 2) changes.Keep refl)
      (choose ((byte bs 0 == sign "<") && (byte bs (0 + 1) == sign "=")) _ _ (not_so kinds.LessEquals (0 + 2) changes.Keep refl)
      (choose ((byte bs 0 == sign ">") && (byte bs (0 + 1) == sign "=")) _ _ (not_so kinds.GreaterEquals (0 + 2) changes.Keep refl)
      (λ e. record {
        is = hash_byte (byte bs 0) (sym (unlike is_hash (sign_of (byte bs 0)) (0 + 1) changes.Keep e));
        one = sym (ap to_of e);
      })))))

  name_is : Hash (name_piece bs 0)
  unfolding name_piece
  name_is =
      choose (is_letter (byte bs 0)) _ _ (kind_no _ kinds.Word kinds.Name (run_end classes.Name bs (run_end classes.Word bs 0)) refl refl)
      (choose (begins_name bs 0) _ _ (kind_no _ kinds.DashedName kinds.Name (run_end classes.Name bs 0) refl refl)
      (choose ((byte bs 0 == sign "@") && begins_name bs (0 + 1)) _ _
      (not_so kinds.AtName (run_end classes.Name bs (0 + 1)) changes.Keep refl) sign_is))

  hash_cases : Cases bs 0 Hash
  unfolding number_piece
  hash_cases = record {
    none = λ e. absurd (cc);
    white = λ m e. no_white_piece m e;
    frame = λ kind o m c. not_so kind m c (frame_no kind o);
    quoted = λ i j m. not_so (kinds.Quoted (decoded (slice_range bs i j))) m changes.Keep refl;
    text = λ i j m. not_so (kinds.Text (decoded (slice_range bs i j))) m changes.Keep refl;
    name = name_is;
    number = λ b. kind_no _ kinds.Digits kinds.Number (unit_end bs (unit_start bs 0)) refl refl;
    range = λ b. not_so kinds.UnicodeRange (run_end classes.Range bs (0 + 2)) changes.Keep refl;
    url = λ top b c. not_so kinds.Url (url_close bs (url_class top) 0 + 1) changes.Keep refl;
  }

  pub hash_in : (inside : Inside) (before : Before) → piece bs inside before 0 ≡ made kinds.Hash n change → HashHere bs n
  hash_in inside before = piece_has bs 0 Hash hash_cases inside before
