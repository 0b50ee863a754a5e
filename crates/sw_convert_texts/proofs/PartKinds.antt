-- A part of a word is a name, a `-` or digits, where it was read.
use Rattle.std.proofs.Common.{◌≡◌, ◌⊎◌, ℕ, ◌+◌, Bool, true, false, ◌&&◌, if◌then◌else◌, List, Option, inl, inr, refl, sym, ◌∙◌, ap}
use Rattle.std.specs.Prelude.{◌==◌}
use Rattle.sw_text_scan.specs.declared.runs.Class.TheVariants as classes
use Rattle.sw_text_scan.specs.Bytes.{sign, byte, is_letter}
use Rattle.sw_text_scan.specs.Runs.{run_end, begins_name}
use Rattle.sw_text_scan.specs.Words.{unit_start, unit_end, begins_number}
use Rattle.sw_text_scan.proofs.Bounds.{and_left, and_right, not_true}
use Rattle.sw_text_locality.proofs.Lexical.{split, equal}
use Rattle.sw_tokens.specs.declared.pieces.Before.{Before}
use Rattle.sw_tokens.specs.declared.pieces.Change.{Change}
use Rattle.sw_tokens.specs.declared.pieces.Change.TheVariants as changes
use Rattle.sw_tokens.specs.declared.pieces.Piece.{Piece}
use Rattle.sw_tokens.specs.declared.skips.Inside.{Inside}
use Rattle.sw_tokens.specs.declared.token.TokenKind.{TokenKind}
use Rattle.sw_tokens.specs.declared.token.TokenKind.TheVariants as kinds
use Rattle.sw_tokens.specs.Pieces.{made, piece, sign_of, sign_piece, letter_kind, dash_kind, name_piece, number_kind, number_piece}
use Rattle.sw_parse_terminals.specs.Urls.{has_namespace}
use Rattle.sw_parse_lexemes.specs.declared.sort.Sort.{Sort}
use Rattle.sw_parse_lexemes.specs.declared.sort.Sort.TheVariants as sorts
use Rattle.sw_parse_lexemes.specs.Classes.{is_comment}
use Rattle.sw_parse_lexemes.specs.Classes as classes_of
use Rattle.sw_parse_lexemes.specs.Sorts.{sort_of}
use Rattle.sw_parse_lexemes.specs.Words.{at_sort}
use Rattle.sw_convert_spelling.proofs.Choices.{is_name, ends_here, unlike, no_white_piece}
use Rattle.sw_convert_passing.specs.Kinds.{is_part}
use Rattle.sw_convert_tokens.proofs.Words.{kind_of_name, name_yes}
use Rattle.sw_convert_texts.specs.RawKinds.{is_at}
use Rattle.sw_convert_texts.proofs.TokenPairs.{at_yes}
use Rattle.sw_convert_texts.proofs.Pieces.{is_frame, Cases, piece_has}

-- ---- kinds

abbrev pub is_sign : TokenKind → Bool
is_sign kinds.Digits = true
is_sign kinds.Minus = true
is_sign _ = false

abbrev pub is_minus : TokenKind → Bool
is_minus kinds.Minus = true
is_minus _ = false

abbrev pub is_digits : TokenKind → Bool
is_digits kinds.Digits = true
is_digits _ = false

only_minus : (kind : TokenKind) → is_sign kind ≡ true → is_digits kind ≡ false → kind ≡ kinds.Minus
only_minus kinds.Digits e f = absurd (cc)
only_minus kinds.Minus e f = refl
only_minus _ e f = absurd (cc)

abbrev is_sign_sort : Sort → Bool
is_sign_sort sorts.Digits = true
is_sign_sort sorts.Minus = true
is_sign_sort _ = false

name_no_sign : (sort : Sort) → classes_of.is_name sort ≡ true → is_sign_sort sort ≡ false
name_no_sign sorts.Digits n = absurd (cc)
name_no_sign sorts.Minus n = absurd (cc)
name_no_sign _ n = refl

at_no_sign : (sort : Sort) → is_at sort ≡ true → is_sign_sort sort ≡ false
at_no_sign sorts.Digits n = absurd (cc)
at_no_sign sorts.Minus n = absurd (cc)
at_no_sign _ n = refl

quoted_no_sign : (t : Bool) → is_sign_sort (if t then sorts.Quoted else sorts.Unnamed) ≡ false
quoted_no_sign true = refl
quoted_no_sign false = refl

kind_of_sign : (kind : TokenKind) (text : List ℕ) → is_sign_sort (sort_of kind text) ≡ true → is_sign kind ≡ true
kind_of_sign kinds.Word text e = sym (name_no_sign (sort_of kinds.Word text) (name_yes kinds.Word text refl)) ∙ e
kind_of_sign kinds.Name text e = sym (name_no_sign (sort_of kinds.Name text) (name_yes kinds.Name text refl)) ∙ e
kind_of_sign kinds.AtName text e = sym (at_no_sign (at_sort text) (at_yes text)) ∙ e
kind_of_sign (kinds.Quoted told) text e = sym (quoted_no_sign (has_namespace told)) ∙ e
kind_of_sign _ text e = e

part_sort : (sort : Sort) → is_part sort ≡ true → (classes_of.is_name sort ≡ true) ⊎ (is_sign_sort sort ≡ true)
part_sort sorts.Digits e = inr refl
part_sort sorts.Minus e = inr refl
part_sort _ e = inl e

-- a part is a name, digits or a `-`
pub part_kind : (kind : TokenKind) (text : List ℕ) → is_part (sort_of kind text) ≡ true
    → (is_name kind ≡ true) ⊎ (is_sign kind ≡ true)
part_kind kind text e = go (part_sort (sort_of kind text) e)
  where
    go : (classes_of.is_name (sort_of kind text) ≡ true) ⊎ (is_sign_sort (sort_of kind text) ≡ true)
        → (is_name kind ≡ true) ⊎ (is_sign kind ≡ true)
    go (inl n) = inl (kind_of_name kind text n)
    go (inr g) = inr (kind_of_sign kind text g)

pub part_comment : (sort : Sort) → is_part sort ≡ true → is_comment sort ≡ false
part_comment sorts.Comment n = absurd (cc)
part_comment sorts.CommentTemplate n = absurd (cc)
part_comment _ n = refl

-- ---- digits and `-`

digits_by : {t : Bool} → is_sign (if t then kinds.Digits else kinds.Number) ≡ true → t ≡ true
digits_by {t} = go t
  where
    go : (u : Bool) → is_sign (if u then kinds.Digits else kinds.Number) ≡ true → u ≡ true
    go true e = refl
    go false e = absurd (cc)

number_no : (t : Bool) → is_minus (if t then kinds.Digits else kinds.Number) ≡ false
number_no true = refl
number_no false = refl

letter_no : (t : Bool) → is_sign (if t then kinds.Word else kinds.Name) ≡ false
letter_no true = refl
letter_no false = refl

dash_no : (t : Bool) → is_sign (if t then kinds.DashedName else kinds.Name) ≡ false
dash_no true = refl
dash_no false = refl

frame_no : (kind : TokenKind) → is_frame kind ≡ true → is_sign kind ≡ false
frame_no kinds.Digits e = absurd (cc)
frame_no kinds.Minus e = absurd (cc)
frame_no _ e = refl

pick_no : (t : Bool) (x y : TokenKind) → is_sign x ≡ false → is_sign y ≡ false → is_sign (if t then x else y) ≡ false
pick_no true x y e f = e
pick_no false x y e f = f

not_this : (t : Bool) (x y : TokenKind) → t ≡ false → is_sign y ≡ false → is_sign (if t then x else y) ≡ false
not_this true x y e f = absurd (cc)
not_this false x y e f = f

-- of the signs a `-` alone
sign_no : (b : ℕ) → (b == sign "-") ≡ false → is_sign (sign_of b) ≡ false
sign_no b e =
    pick_no (b == sign "{") kinds.OpenBrace _ refl (pick_no (b == sign "}") kinds.CloseBrace _ refl
    (pick_no (b == sign "(") kinds.OpenParen _ refl (pick_no (b == sign ")") kinds.CloseParen _ refl
    (pick_no (b == sign "[") kinds.OpenBracket _ refl (pick_no (b == sign "]") kinds.CloseBracket _ refl
    (pick_no (b == sign ":") kinds.Colon _ refl (pick_no (b == sign ";") kinds.Semicolon _ refl
    (pick_no (b == sign ",") kinds.Comma _ refl (pick_no (b == sign ".") kinds.Dot _ refl
    (pick_no (b == sign "$") kinds.Dollar _ refl (pick_no (b == sign "#") kinds.Hash _ refl
    (pick_no (b == sign "!") kinds.Exclamation _ refl (pick_no (b == sign "&") kinds.Ampersand _ refl
    (pick_no (b == sign "+") kinds.Plus _ refl (not_this (b == sign "-") kinds.Minus _ e
    (pick_no (b == sign "*") kinds.Star _ refl (pick_no (b == sign "/") kinds.Slash _ refl
    (pick_no (b == sign "%") kinds.Percent _ refl (pick_no (b == sign "=") kinds.Equals _ refl
    (pick_no (b == sign "<") kinds.Less _ refl (pick_no (b == sign ">") kinds.Greater _ refl
    (pick_no (b == sign "@") kinds.At kinds.Other refl refl))))))))))))))))))))))

module _ (kind : TokenKind) (n : ℕ) (change : Change) (k : is_sign kind ≡ true) where
  abbrev result : Option Piece
  result = made kind n change

  not_so : {P : Type 0} (other : TokenKind) (a : ℕ) (c : Change) → made other a c ≡ result → is_sign other ≡ false → P
  not_so other a c e f = absurd (let wrong : true ≡ false = sym k ∙ unlike is_sign other a c e ∙ f in cc)

  -- it is one by itself
  pub record IsDash (xs : List ℕ) : Type 0 where
    pub dash : byte xs 0 ≡ sign "-"
    pub ends : n ≡ 1
    pub starts : begins_name xs 0 ≡ false
    pub kind_is : kind ≡ kinds.Minus

  dash_in : (xs : List ℕ) → name_piece xs 0 ≡ result → IsDash xs
  unfolding name_piece sign_piece
  dash_in xs =
      split (is_letter (byte xs 0)) _ _ result (λ t e. not_so (letter_kind _ _) _ changes.Keep e (letter_no _))
      (λ t. split (begins_name xs 0) _ _ result (λ u f. not_so (dash_kind xs 0) _ changes.Keep f (dash_no _))
      (λ u. split ((byte xs 0 == sign "@") && begins_name xs (0 + 1)) _ _ result
      (λ v g. not_so kinds.AtName _ changes.Keep g refl)
      (λ v. split ((byte xs 0 == sign ".") && ((byte xs (0 + 1) == sign ".") && (byte xs (0 + 2) == sign "."))) _ _ result
      (λ x h. not_so kinds.Ellipsis _ changes.Keep h refl)
      (λ x. split ((byte xs 0 == sign "=") && (byte xs (0 + 1) == sign "=")) _ _ result
      (λ y h. not_so kinds.EqualsEquals _ changes.Keep h refl)
      (λ y. split ((byte xs 0 == sign "!") && (byte xs (0 + 1) == sign "=")) _ _ result
      (λ z h. not_so kinds.NotEquals _ changes.Keep h refl)
      (λ z. split ((byte xs 0 == sign "<") && (byte xs (0 + 1) == sign "=")) _ _ result
      (λ q h. not_so kinds.LessEquals _ changes.Keep h refl)
      (λ q. split ((byte xs 0 == sign ">") && (byte xs (0 + 1) == sign "=")) _ _ result
      (λ r h. not_so kinds.GreaterEquals _ changes.Keep h refl)
      (λ r h. record {
        dash = dash_by (byte xs 0 == sign "-") refl h;
        ends = sym (ends_here (sign_of (byte xs 0)) (0 + 1) changes.Keep h);
        starts = u;
        kind_is = only_minus kind k
            (unlike is_digits (sign_of (byte xs 0)) (0 + 1) changes.Keep h
            ∙ ap (λ (c : ℕ). is_digits (sign_of c)) (dash_by (byte xs 0 == sign "-") refl h));
      }))))))))
    where
      dash_by : (t : Bool) → (byte xs 0 == sign "-") ≡ t → made (sign_of (byte xs 0)) (0 + 1) changes.Keep ≡ result
          → byte xs 0 ≡ sign "-"
      dash_by true t h = equal (byte xs 0) (sign "-") t
      dash_by false t h = not_so (sign_of (byte xs 0)) (0 + 1) changes.Keep h (sign_no (byte xs 0) t)

  -- it is a number
  pub record IsDigits (xs : List ℕ) : Type 0 where
    pub begins : begins_number xs 0 ≡ true
    pub other : is_minus kind ≡ false
    -- its unit begins where its digits end
    pub whole : run_end classes.Digit xs 0 ≡ unit_start xs 0
    pub percent : (byte xs (unit_start xs 0) == sign "%") ≡ false
    pub ends : unit_end xs (unit_start xs 0) ≡ n

  -- a `-`, or it begins with a digit or a `.`
  abbrev pub Told : List ℕ → Type 0
  Told xs = IsDigits xs ⊎ IsDash xs

  cases : (xs : List ℕ) → Cases xs 0 (λ o. o ≡ result → Told xs)
  unfolding number_piece
  cases xs = record {
    none = λ e. absurd (cc);
    white = λ m e. no_white_piece _ e;
    frame = λ other f m c e. not_so other m c e (frame_no other f);
    quoted = λ i j m e. not_so (kinds.Quoted _) m changes.Keep e refl;
    text = λ i j m e. not_so (kinds.Text _) m changes.Keep e refl;
    name = λ e. inr (dash_in xs e);
    number = λ b e. inl (record {
      begins = b;
      other = unlike is_minus (number_kind xs (run_end classes.Digit xs 0) (unit_start xs 0)) (unit_end xs (unit_start xs 0)) changes.Keep e
          ∙ number_no _;
      whole = equal (run_end classes.Digit xs 0) (unit_start xs 0)
          (and_left (run_end classes.Digit xs 0 == unit_start xs 0) _ (digits_by (told e)));
      percent = not_true (byte xs (unit_start xs 0) == sign "%")
          (and_right (run_end classes.Digit xs 0 == unit_start xs 0) _ (digits_by (told e)));
      ends = ends_here (number_kind xs (run_end classes.Digit xs 0) (unit_start xs 0)) (unit_end xs (unit_start xs 0)) changes.Keep e;
    });
    range = λ b e. not_so kinds.UnicodeRange _ changes.Keep e refl;
    url = λ top b c e. not_so kinds.Url _ changes.Keep e refl;
  }
    where
      told : made (number_kind xs (run_end classes.Digit xs 0) (unit_start xs 0)) (unit_end xs (unit_start xs 0)) changes.Keep ≡ result
          → is_sign (number_kind xs (run_end classes.Digit xs 0) (unit_start xs 0)) ≡ true
      told e =
          sym (unlike is_sign (number_kind xs (run_end classes.Digit xs 0) (unit_start xs 0)) (unit_end xs (unit_start xs 0)) changes.Keep e) ∙ k

  pub sign_told : (xs : List ℕ) (inside : Inside) (before : Before) → piece xs inside before 0 ≡ result → Told xs
  sign_told xs inside before = piece_has xs 0 (λ o. o ≡ result → Told xs) (cases xs) inside before
