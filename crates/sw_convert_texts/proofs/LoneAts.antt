-- An `@` by itself: the token of its sort is that sign.
use Rattle.std.proofs.Common.{◌≡◌, ℕ, ◌+◌, Bool, true, false, ◌&&◌, if◌then◌else◌, List, [], ◌∷◌, ◌++◌, length, Option, refl, sym, ◌∙◌, ap}
use Rattle.std.specs.Prelude.{◌==◌, codes}
use Rattle.sw_text_scan.specs.declared.runs.Class.TheVariants as classes
use Rattle.sw_text_scan.specs.Bytes.{sign, byte, is_letter}
use Rattle.sw_text_scan.specs.Runs.{run_end, begins_name}
use Rattle.sw_text_scan.specs.Words.{unit_start, unit_end}
use Rattle.sw_text_locality.proofs.Lexical.{split, equal}
use Rattle.sw_tokens.specs.declared.pieces.Before.{Before}
use Rattle.sw_tokens.specs.declared.pieces.Change.{Change}
use Rattle.sw_tokens.specs.declared.pieces.Change.TheVariants as changes
use Rattle.sw_tokens.specs.declared.pieces.Piece.{Piece}
use Rattle.sw_tokens.specs.declared.skips.Inside.{Inside}
use Rattle.sw_tokens.specs.declared.token.TokenKind.{TokenKind}
use Rattle.sw_tokens.specs.declared.token.TokenKind.TheVariants as kinds
use Rattle.sw_tokens.specs.Pieces.{made, piece, sign_of, sign_piece, letter_kind, dash_kind, name_piece, number_kind, number_piece}
use Rattle.sw_parse_terminals.specs.Urls.{has_namespace}
use Rattle.sw_parse_terminals.specs.declared.lexeme.Lexeme.{Lexeme}
use Rattle.sw_parse_lexemes.specs.declared.sort.Sort.{Sort}
use Rattle.sw_parse_lexemes.specs.declared.sort.Sort.TheVariants as sorts
use Rattle.sw_parse_lexemes.specs.Classes.{is_name}
use Rattle.sw_parse_lexemes.specs.Sorts.{sort_of}
use Rattle.sw_parse_lexemes.specs.Words.{at_sort}
use Rattle.sw_parse_table.specs.declared.source.Source.{Source}
use Rattle.sw_convert_spelling.proofs.Choices.{ends_here, unlike, no_white_piece}
use Rattle.sw_convert_spelling.proofs.MovedRuns as moved
use Rattle.sw_convert_tokens.proofs.Words.{name_yes}
use Rattle.sw_convert_texts.proofs.OldPieces.{Whole}
use Rattle.sw_convert_texts.proofs.Parts.{one_byte}
use Rattle.sw_convert_texts.proofs.Pieces.{is_frame, Cases, piece_has}
use Rattle.sw_convert_texts.specs.RawKinds.{is_at}
use Rattle.sw_convert_texts.proofs.TerminalChoices.{is_lone_at}
use Rattle.sw_convert_texts.proofs.TokenPairs.{at_yes}

-- ---- its kind

name_no : (sort : Sort) → is_name sort ≡ true → is_lone_at sort ≡ false
name_no sorts.At n = absurd (cc)
name_no _ n = refl

at_no : (sort : Sort) → is_at sort ≡ true → is_lone_at sort ≡ false
at_no sorts.At n = absurd (cc)
at_no _ n = refl

quoted_no : (t : Bool) → is_lone_at (if t then sorts.Quoted else sorts.Unnamed) ≡ false
quoted_no true = refl
quoted_no false = refl

pub kind_of_lone : (kind : TokenKind) (text : List ℕ) → is_lone_at (sort_of kind text) ≡ true → kind ≡ kinds.At
kind_of_lone kinds.At text e = refl
kind_of_lone kinds.Word text e =
    absurd (let no : true ≡ false = sym e ∙ name_no (sort_of kinds.Word text) (name_yes kinds.Word text refl) in cc)
kind_of_lone kinds.Name text e =
    absurd (let no : true ≡ false = sym e ∙ name_no (sort_of kinds.Name text) (name_yes kinds.Name text refl) in cc)
kind_of_lone kinds.AtName text e = absurd (let no : true ≡ false = sym e ∙ at_no (at_sort text) (at_yes text) in cc)
kind_of_lone (kinds.Quoted told) text e = absurd (let no : true ≡ false = sym e ∙ quoted_no (has_namespace told) in cc)
kind_of_lone _ text e = absurd (cc)

-- ---- its text

abbrev is_lone : TokenKind → Bool
is_lone kinds.At = true
is_lone _ = false

letter_no : (t : Bool) → is_lone (if t then kinds.Word else kinds.Name) ≡ false
letter_no true = refl
letter_no false = refl

dash_no : (t : Bool) → is_lone (if t then kinds.DashedName else kinds.Name) ≡ false
dash_no true = refl
dash_no false = refl

number_no : (t : Bool) → is_lone (if t then kinds.Digits else kinds.Number) ≡ false
number_no true = refl
number_no false = refl

frame_no : (kind : TokenKind) → is_frame kind ≡ true → is_lone kind ≡ false
frame_no kinds.At e = absurd (cc)
frame_no _ e = refl

pick_no : (t : Bool) (x y : TokenKind) → is_lone x ≡ false → is_lone y ≡ false → is_lone (if t then x else y) ≡ false
pick_no true x y e f = e
pick_no false x y e f = f

not_this : (t : Bool) (x y : TokenKind) → t ≡ false → is_lone y ≡ false → is_lone (if t then x else y) ≡ false
not_this true x y e f = absurd (cc)
not_this false x y e f = f

sign_no : (b : ℕ) → (b == sign "@") ≡ false → is_lone (sign_of b) ≡ false
sign_no b e =
    pick_no (b == sign "{") kinds.OpenBrace _ refl (pick_no (b == sign "}") kinds.CloseBrace _ refl
    (pick_no (b == sign "(") kinds.OpenParen _ refl (pick_no (b == sign ")") kinds.CloseParen _ refl
    (pick_no (b == sign "[") kinds.OpenBracket _ refl (pick_no (b == sign "]") kinds.CloseBracket _ refl
    (pick_no (b == sign ":") kinds.Colon _ refl (pick_no (b == sign ";") kinds.Semicolon _ refl
    (pick_no (b == sign ",") kinds.Comma _ refl (pick_no (b == sign ".") kinds.Dot _ refl
    (pick_no (b == sign "$") kinds.Dollar _ refl (pick_no (b == sign "#") kinds.Hash _ refl
    (pick_no (b == sign "!") kinds.Exclamation _ refl (pick_no (b == sign "&") kinds.Ampersand _ refl
    (pick_no (b == sign "+") kinds.Plus _ refl (pick_no (b == sign "-") kinds.Minus _ refl
    (pick_no (b == sign "*") kinds.Star _ refl (pick_no (b == sign "/") kinds.Slash _ refl
    (pick_no (b == sign "%") kinds.Percent _ refl (pick_no (b == sign "=") kinds.Equals _ refl
    (pick_no (b == sign "<") kinds.Less _ refl (pick_no (b == sign ">") kinds.Greater _ refl
    (not_this (b == sign "@") kinds.At kinds.Other e refl))))))))))))))))))))))

module _ (n : ℕ) (change : Change) where
  abbrev result : Option Piece
  result = made kinds.At n change

  not_so : {P : Type 0} (other : TokenKind) (a : ℕ) (c : Change) → made other a c ≡ result → is_lone other ≡ false → P
  not_so other a c e f = absurd (let wrong : true ≡ false = unlike is_lone other a c e ∙ f in cc)

  record IsAt (xs : List ℕ) : Type 0 where
    at : byte xs 0 ≡ sign "@"
    ends : n ≡ 1

  at_in : (xs : List ℕ) → name_piece xs 0 ≡ result → IsAt xs
  unfolding name_piece sign_piece
  at_in xs =
      split (is_letter (byte xs 0)) _ _ result (λ t e. not_so (letter_kind _ _) _ changes.Keep e (letter_no _))
      (λ t. split (begins_name xs 0) _ _ result (λ u f. not_so (dash_kind xs 0) _ changes.Keep f (dash_no _))
      (λ u. split ((byte xs 0 == sign "@") && begins_name xs (0 + 1)) _ _ result
      (λ v g. not_so kinds.AtName _ changes.Keep g refl)
      (λ v. split ((byte xs 0 == sign ".") && ((byte xs (0 + 1) == sign ".") && (byte xs (0 + 2) == sign "."))) _ _ result
      (λ x h. not_so kinds.Ellipsis _ changes.Keep h refl)
      (λ x. split ((byte xs 0 == sign "=") && (byte xs (0 + 1) == sign "=")) _ _ result
      (λ y h. not_so kinds.EqualsEquals _ changes.Keep h refl)
      (λ y. split ((byte xs 0 == sign "!") && (byte xs (0 + 1) == sign "=")) _ _ result
      (λ z h. not_so kinds.NotEquals _ changes.Keep h refl)
      (λ z. split ((byte xs 0 == sign "<") && (byte xs (0 + 1) == sign "=")) _ _ result
      (λ q h. not_so kinds.LessEquals _ changes.Keep h refl)
      (λ q. split ((byte xs 0 == sign ">") && (byte xs (0 + 1) == sign "=")) _ _ result
      (λ r h. not_so kinds.GreaterEquals _ changes.Keep h refl)
      (λ r h. record {
        at = at_by (byte xs 0 == sign "@") refl h;
        ends = sym (ends_here (sign_of (byte xs 0)) (0 + 1) changes.Keep h);
      }))))))))
    where
      at_by : (t : Bool) → (byte xs 0 == sign "@") ≡ t → made (sign_of (byte xs 0)) (0 + 1) changes.Keep ≡ result
          → byte xs 0 ≡ sign "@"
      at_by true t h = equal (byte xs 0) (sign "@") t
      at_by false t h = not_so (sign_of (byte xs 0)) (0 + 1) changes.Keep h (sign_no (byte xs 0) t)

  cases : (xs : List ℕ) → Cases xs 0 (λ o. o ≡ result → IsAt xs)
  unfolding number_piece
  cases xs = record {
    none = λ e. absurd (cc);
    white = λ m e. no_white_piece _ e;
    frame = λ other f m c e. not_so other m c e (frame_no other f);
    quoted = λ i j m e. not_so (kinds.Quoted _) m changes.Keep e refl;
    text = λ i j m e. not_so (kinds.Text _) m changes.Keep e refl;
    name = λ e. at_in xs e;
    number = λ b e.
        not_so (number_kind xs (run_end classes.Digit xs 0) (unit_start xs 0)) (unit_end xs (unit_start xs 0)) changes.Keep e
        (number_no _);
    range = λ b e. not_so kinds.UnicodeRange _ changes.Keep e refl;
    url = λ top b c e. not_so kinds.Url _ changes.Keep e refl;
  }

  at_told : (xs : List ℕ) (inside : Inside) (before : Before) → piece xs inside before 0 ≡ result → IsAt xs
  at_told xs inside before = piece_has xs 0 (λ o. o ≡ result → IsAt xs) (cases xs) inside before

pub at_text : (source : Source) (lexeme : Lexeme) (text : List ℕ) → Whole source lexeme kinds.At text → text ≡ codes "@"
at_text source lexeme text it =
    let told = at_told (length text) it.change (text ++ it.after) it.inside it.before it.is in
    let (b, is) = one_byte text told.ends in
    is ∙ ap (λ (c : ℕ). c ∷ [])
    (sym (moved.first_byte b it.after) ∙ ap (λ (xs : List ℕ). byte (xs ++ it.after) 0) (sym is) ∙ told.at)
