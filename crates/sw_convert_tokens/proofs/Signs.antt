-- Signs that are written are tokens where they stand.
use Rattle.std.proofs.Common.{◌≡◌, ◌<◌, ℕ, ◌+◌, Bool, true, false, not, ◌&&◌, List, [], ◌∷◌, ◌++◌, length, Option, Some, append-nil, if◌then◌else◌, refl, sym, ◌∙◌, ap, arith, lit<}
use Rattle.std.specs.Prelude.{◌==◌, codes}
use Rattle.sw_text_scan.specs.Bytes.{sign, byte, is_white, is_quote, opens_at, begins_silent, begins_loud}
use Rattle.sw_tokens.specs.declared.pieces.Before.{Before}
use Rattle.sw_tokens.specs.declared.pieces.Before.TheVariants as befores
use Rattle.sw_tokens.specs.declared.pieces.Change.TheVariants as changes
use Rattle.sw_tokens.specs.declared.skips.Inside.{Inside}
use Rattle.sw_tokens.specs.declared.skips.Inside.TheVariants as insides
use Rattle.sw_tokens.specs.declared.token.TokenKind.{TokenKind}
use Rattle.sw_tokens.specs.declared.token.TokenKind.TheVariants as kinds
use Rattle.sw_text_scan.specs.declared.runs.Class.TheVariants as classes
use Rattle.sw_text_scan.specs.Runs.{run_end, escape_end, begins_name}
use Rattle.sw_text_scan.specs.Words.{is_u, begins_number, begins_range, begins_url, url_close}
use Rattle.sw_text_scan.proofs.Bounds.{if_false}
use Rattle.sw_tokens.specs.declared.pieces.Piece.{Piece}
use Rattle.sw_tokens.specs.Skips.{closes_url}
use Rattle.sw_tokens.specs.Pieces.{made, made_white, piece, sign_of, url_class, url_inside, is_open_ended, in_interpolation, quote_piece, loud_piece, code_piece, word_piece, name_piece, sign_piece, number_piece, opens_url}
use Rattle.sw_tokens.specs.Ends.{opens}
use Rattle.sw_tokens.specs.Tokens.{is_code, is_lone_in, before_of, is_spaced}
use Rattle.sw_tokens.proofs.Plainly.{lone_piece}
use Rattle.sw_parse_terminals.specs.declared.terminal.Terminal.{Terminal}
use Rattle.sw_convert_spelling.specs.Spelt.{behind_gap, innermost, is_sheet_code, takes_gap, is_gap}
use Rattle.sw_convert_spelling.specs.Neighbours.{may_stand_behind}
use Rattle.sw_convert_spelling.proofs.MovedRuns.{first_byte}
use Rattle.sw_convert_spelling.proofs.Choices.{left_no, right_no, both}
use Rattle.sw_convert_spelling.proofs.Stays.{stays}
use Rattle.sw_parse_table.specs.declared.source.Source.{Source}
use Rattle.sw_parse_lexemes.specs.Classes.{is_comment}
use Rattle.sw_parse_lexemes.specs.Sorts.{sort_of}
use Rattle.sw_convert_again.specs.Tokens.{Said, Nothing, Says}
use Rattle.sw_convert_tokens.specs.Joints.{Token, Segment, Sits}
use Rattle.sw_convert_tokens.proofs.Loud.{seen_by}
use Rattle.sw_convert_tokens.specs.Written.{is_calm, gap_of}

-- a space may stand before what begins with none
pub gap_is : (inside : Inside) (spaced : Bool) (bytes : List ℕ) → is_sheet_code inside ≡ true
    → is_white (byte bytes 0) ≡ false → is_gap inside (gap_of spaced) bytes ≡ true
gap_is inside false bytes code black = refl
gap_is inside true bytes code black =
    both (takes_gap inside) (not (is_white (byte bytes 0))) (takes inside code) (ap not black)
  where
    takes : (i : Inside) → is_sheet_code i ≡ true → takes_gap i ≡ true
    takes insides.Sheet c = refl
    takes insides.Interpolation c = refl
    takes _ c = absurd (cc)

-- ---- brackets, `,`, `:` and `;`

in_code : (inside : Inside) → is_sheet_code inside ≡ true → is_code inside ≡ true
in_code insides.Sheet c = refl
in_code insides.Interpolation c = refl
in_code _ c = absurd (cc)

pub lone_token : (b : ℕ) (inside : Inside) (before : Before) (after : List ℕ) → is_sheet_code inside ≡ true
    → is_lone_in inside b ≡ true → piece (b ∷ after) inside before 0 ≡ made (sign_of b) 1 changes.Keep
lone_token b inside before after code lone =
    lone_piece (b ∷ after) inside before 0
    (both (is_code inside) (is_lone_in inside (byte (b ∷ after) 0)) (in_code inside code)
    (ap (is_lone_in inside) (first_byte b after) ∙ lone))
    ∙ ap (λ (x : ℕ). made (sign_of x) 1 changes.Keep) (first_byte b after)

-- ---- a token by itself

-- a token behind what stands before it, with a space there or none
pub token_segment : (kind : TokenKind) (bytes : List ℕ) (terminals : List Terminal) (said : Said) (before : Before)
    (spaced : Bool) (P : List ℕ → Type 0) → opens kind ≡ false → is_comment (sort_of kind bytes) ≡ false
    → is_white (byte bytes 0) ≡ false → 0 < length bytes
    → ((source : Source) (commented : Bool) (at : ℕ) (front after : List ℕ)
    → Sits source commented at front
    (record { gap = gap_of spaced; kind = kind; bytes = bytes; change = changes.Keep; spaced = is_spaced (behind_gap before (gap_of spaced)); may_be = terminals; said = said })
    after
    → Says source at said)
    → ((inside : Inside) (after : List ℕ) → is_sheet_code inside ≡ true → P after
    → piece (bytes ++ after) inside (behind_gap before (gap_of spaced)) 0 ≡ made kind (length bytes) changes.Keep)
    → Segment before (gap_of spaced ++ bytes) (record { kinds = terminals; said = said } ∷ [])
    (record { sort = sort_of kind bytes; spaced = is_spaced (behind_gap before (gap_of spaced)); may_be = terminals } ∷ [])
    (before_of (Some kind)) P
token_segment kind bytes terminals said before spaced P closed seen black some tells token = record {
  joints = Token (record { gap = gap_of spaced; kind = kind; bytes = bytes; change = changes.Keep; spaced = is_spaced (behind_gap before (gap_of spaced)); may_be = terminals; said = said })
      ∷ [];
  spelling = ap (λ (t : List ℕ). gap_of spaced ++ t) (append-nil bytes);
  seen = refl;
  written = refl;
  last = refl;
  tells = (λ source commented at front after sit. tells source commented at (front ++ gap_of spaced) after sit.0, tt);
  stand = λ stack after code ok. (
    gap_is (innermost stack) spaced bytes code black,
    some,
    (refl, seen_by (sort_of kind bytes) terminals seen),
    λ e. absurd (wrong e),
    token (innermost stack) after code ok,
    refl,
  );
}
  where
    wrong : opens kind ≡ true → ⊥
    wrong e = cc

-- one that keeps no text
pub sign_segment : (kind : TokenKind) (bytes : List ℕ) (terminals : List Terminal) (before : Before) (spaced : Bool)
    (P : List ℕ → Type 0) → opens kind ≡ false → is_comment (sort_of kind bytes) ≡ false
    → is_white (byte bytes 0) ≡ false → 0 < length bytes
    → ((inside : Inside) (after : List ℕ) → is_sheet_code inside ≡ true → P after
    → piece (bytes ++ after) inside (behind_gap before (gap_of spaced)) 0 ≡ made kind (length bytes) changes.Keep)
    → Segment before (gap_of spaced ++ bytes) (record { kinds = terminals; said = Nothing } ∷ [])
    (record { sort = sort_of kind bytes; spaced = is_spaced (behind_gap before (gap_of spaced)); may_be = terminals } ∷ [])
    (before_of (Some kind)) P
sign_segment kind bytes terminals before spaced P closed seen black some token =
    token_segment kind bytes terminals Nothing before spaced P closed seen black some (λ source commented at front after sits. tt) token

-- whatever stands behind
abbrev pub Anything : List ℕ → Type 0
Anything after = Unit {0}

-- a bracket, `,`, `:` or `;`
pub lone_segment : (b : ℕ) (terminals : List Terminal) (before : Before) (spaced : Bool) → opens (sign_of b) ≡ false
    → is_comment (sort_of (sign_of b) (b ∷ [])) ≡ false → is_white b ≡ false
    → ((inside : Inside) → is_sheet_code inside ≡ true → is_lone_in inside b ≡ true)
    → Segment before (gap_of spaced ++ b ∷ []) (record { kinds = terminals; said = Nothing } ∷ [])
    (record { sort = sort_of (sign_of b) (b ∷ []); spaced = is_spaced (behind_gap before (gap_of spaced)); may_be = terminals } ∷ [])
    (before_of (Some (sign_of b))) Anything
lone_segment b terminals before spaced closed seen black lone =
    sign_segment (sign_of b) (b ∷ []) terminals before spaced Anything closed seen (ap is_white (first_byte b []) ∙ black) (lit< tt)
    (λ inside after code ok. lone_token b inside (behind_gap before (gap_of spaced)) after code (lone inside code))

-- ---- in any code, and behind anything but `#` and `$`

module _ (bs : List ℕ) (no_url : begins_url bs 0 ≡ false) where
  abbrev unnamed : Inside → Option Piece
  unnamed top =
      if begins_url bs 0 && (byte bs (url_close bs (url_class top) 0) == sign ")")
      then made kinds.Url (url_close bs (url_class top) 0 + 1) changes.Keep
      else (if opens_url bs top 0
      then made kinds.UrlTemplate (run_end classes.White bs (0 + 4)) (changes.Push (url_inside top))
      else name_piece bs 0)

  unnamed_is : (top : Inside) → unnamed top ≡ name_piece bs 0
  unfolding opens_url
  unnamed_is top =
      if_false (begins_url bs 0 && _) _ _ (left_no (begins_url bs 0) _ no_url)
      ∙ if_false (is_open_ended top && (begins_url bs 0 && closes_url bs (url_inside top) (run_end classes.White bs (0 + 4)))) _
      _ (right_no (is_open_ended top) _ (left_no (begins_url bs 0) _ no_url))

  word_calm : (top : Inside) (before : Before) → is_calm before ≡ true
      → word_piece bs top before 0 ≡ word_piece bs insides.Sheet befores.White 0
  unfolding word_piece
  word_calm top befores.White calm =
      ap (λ (x : Option Piece). if begins_number bs 0 then number_piece bs 0 else (if begins_range bs 0 then made kinds.UnicodeRange (run_end classes.Range bs (0 + 2)) changes.Keep else x))
      (unnamed_is top ∙ sym (unnamed_is insides.Sheet))
  word_calm top befores.Other calm =
      ap (λ (x : Option Piece). if begins_number bs 0 then number_piece bs 0 else (if begins_range bs 0 then made kinds.UnicodeRange (run_end classes.Range bs (0 + 2)) changes.Keep else x))
      (unnamed_is top ∙ sym (unnamed_is insides.Sheet))
  word_calm top befores.Hash calm = absurd (cc)
  word_calm top befores.Dollar calm = absurd (cc)

  code_calm : (no_brace : (byte bs 0 == sign "}") ≡ false) (top : Inside) (before : Before) → is_calm before ≡ true
      → code_piece bs top before 0 ≡ code_piece bs insides.Sheet befores.White 0
  unfolding code_piece
  code_calm no_brace top before calm =
      ap (λ (x : Option Piece). if is_white (byte bs 0) then made_white (run_end classes.White bs 0)
      else (if is_quote (byte bs 0) then quote_piece bs (byte bs 0) 0
      else (if opens_at bs 0 then made kinds.OpenInterpolation (0 + 2) (changes.Push insides.Interpolation)
      else x)))
      (if_false ((byte bs 0 == sign "}") && in_interpolation top) _ _ (left_no (byte bs 0 == sign "}") _ no_brace)
      ∙ ap (λ (x : Option Piece). if begins_silent bs 0 then made_white (run_end classes.Line bs (0 + 2)) else (if begins_loud bs 0 then loud_piece bs 0 else x))
      (word_calm top before calm)
      ∙ sym (if_false ((byte bs 0 == sign "}") && in_interpolation insides.Sheet) _ _ (left_no (byte bs 0 == sign "}") _ no_brace)))

  pub calm_piece : (no_brace : (byte bs 0 == sign "}") ≡ false) (inside : Inside) (before : Before)
      → is_sheet_code inside ≡ true → is_calm before ≡ true
      → piece bs inside before 0 ≡ piece bs insides.Sheet befores.White 0
  calm_piece no_brace insides.Sheet before code calm = code_calm no_brace insides.Sheet before calm
  calm_piece no_brace insides.Interpolation before code calm = code_calm no_brace insides.Interpolation before calm
  calm_piece no_brace insides.Css before code calm = absurd (cc)
  calm_piece no_brace (insides.Quotes q) before code calm = absurd (cc)
  calm_piece no_brace insides.Comment before code calm = absurd (cc)
  calm_piece no_brace insides.Url before code calm = absurd (cc)
  calm_piece no_brace insides.UrlInside before code calm = absurd (cc)

-- ---- other signs, and words of the language

abbrev pub sign_bytes : TokenKind → List ℕ
sign_bytes kinds.Plus = codes "+"
sign_bytes kinds.Minus = codes "-"
sign_bytes kinds.Star = codes "*"
sign_bytes kinds.Slash = codes "/"
sign_bytes kinds.Percent = codes "%"
sign_bytes kinds.EqualsEquals = codes "=="
sign_bytes kinds.NotEquals = codes "!="
sign_bytes kinds.Less = codes "<"
sign_bytes kinds.LessEquals = codes "<="
sign_bytes kinds.Greater = codes ">"
sign_bytes kinds.GreaterEquals = codes ">="
sign_bytes kinds.Dollar = codes "$"
sign_bytes kinds.Dot = codes "."
sign_bytes kinds.Ampersand = codes "&"
sign_bytes kinds.Exclamation = codes "!"
sign_bytes kinds.Hash = codes "#"
sign_bytes kinds.Ellipsis = codes "..."
sign_bytes _ = []

abbrev is_some : List ℕ → Bool
is_some [] = false
is_some (b ∷ bytes) = true

-- by itself, behind white space, each is its token
alone : (kind : TokenKind) → is_some (sign_bytes kind) ≡ true
    → piece (sign_bytes kind ++ []) insides.Sheet befores.White 0 ≡ made kind (length (sign_bytes kind)) changes.Keep
unfolding code_piece word_piece name_piece sign_piece opens_url byte begins_name escape_end
alone kinds.Plus some = refl
alone kinds.Minus some = refl
alone kinds.Star some = refl
alone kinds.Slash some = refl
alone kinds.Percent some = refl
alone kinds.EqualsEquals some = refl
alone kinds.NotEquals some = refl
alone kinds.Less some = refl
alone kinds.LessEquals some = refl
alone kinds.Greater some = refl
alone kinds.GreaterEquals some = refl
alone kinds.Dollar some = refl
alone kinds.Dot some = refl
alone kinds.Ampersand some = refl
alone kinds.Exclamation some = refl
alone kinds.Hash some = refl
alone kinds.Ellipsis some = refl
alone _ some = absurd (cc)

-- a token that is one by itself behind white space is one in any code, before what may stand behind it
pub token_by : (kind : TokenKind) (b : ℕ) (bytes after : List ℕ) (inside : Inside) (before : Before)
    → is_sheet_code inside ≡ true → is_calm before ≡ true → is_u b ≡ false → (b == sign "}") ≡ false
    → piece ((b ∷ bytes) ++ []) insides.Sheet befores.White 0 ≡ made kind (length (b ∷ bytes)) changes.Keep
    → may_stand_behind befores.White kind (b ∷ bytes) after ≡ true
    → piece ((b ∷ bytes) ++ after) inside before 0 ≡ made kind (length (b ∷ bytes)) changes.Keep
token_by kind b bytes after inside before code calm no_u no_brace is ok =
    calm_piece (b ∷ (bytes ++ after)) (left_no (is_u (byte (b ∷ (bytes ++ after)) 0)) _ (ap is_u (first_byte b (bytes ++ after)) ∙ no_u))
    (ap (λ (x : ℕ). x == sign "}") (first_byte b (bytes ++ after)) ∙ no_brace) inside before code calm
    ∙ stays insides.Sheet befores.White
    (record { gap = []; kind = kind; bytes = b ∷ bytes; change = changes.Keep }) after refl (some bytes) is ok
  where
    some : (xs : List ℕ) → 0 < length (b ∷ xs)
    some xs = omega arith

-- what a sign needs behind it
abbrev pub Fits : TokenKind → List ℕ → Type 0
Fits kind after = may_stand_behind befores.White kind (sign_bytes kind) after ≡ true

pub sign_token : (kind : TokenKind) (after : List ℕ) (inside : Inside) (before : Before) → is_some (sign_bytes kind) ≡ true
    → is_sheet_code inside ≡ true → is_calm before ≡ true → Fits kind after
    → piece (sign_bytes kind ++ after) inside before 0 ≡ made kind (length (sign_bytes kind)) changes.Keep
sign_token kinds.Plus after inside before some code calm ok = token_by kinds.Plus (sign "+") [] after inside before code calm refl refl (alone kinds.Plus refl) ok
sign_token kinds.Minus after inside before some code calm ok = token_by kinds.Minus (sign "-") [] after inside before code calm refl refl (alone kinds.Minus refl) ok
sign_token kinds.Star after inside before some code calm ok = token_by kinds.Star (sign "*") [] after inside before code calm refl refl (alone kinds.Star refl) ok
sign_token kinds.Slash after inside before some code calm ok = token_by kinds.Slash (sign "/") [] after inside before code calm refl refl (alone kinds.Slash refl) ok
sign_token kinds.Percent after inside before some code calm ok = token_by kinds.Percent (sign "%") [] after inside before code calm refl refl (alone kinds.Percent refl) ok
sign_token kinds.EqualsEquals after inside before some code calm ok = token_by kinds.EqualsEquals (sign "=") (codes "=") after inside before code calm refl refl (alone kinds.EqualsEquals refl) ok
sign_token kinds.NotEquals after inside before some code calm ok = token_by kinds.NotEquals (sign "!") (codes "=") after inside before code calm refl refl (alone kinds.NotEquals refl) ok
sign_token kinds.Less after inside before some code calm ok = token_by kinds.Less (sign "<") [] after inside before code calm refl refl (alone kinds.Less refl) ok
sign_token kinds.LessEquals after inside before some code calm ok = token_by kinds.LessEquals (sign "<") (codes "=") after inside before code calm refl refl (alone kinds.LessEquals refl) ok
sign_token kinds.Greater after inside before some code calm ok = token_by kinds.Greater (sign ">") [] after inside before code calm refl refl (alone kinds.Greater refl) ok
sign_token kinds.GreaterEquals after inside before some code calm ok = token_by kinds.GreaterEquals (sign ">") (codes "=") after inside before code calm refl refl (alone kinds.GreaterEquals refl) ok
sign_token kinds.Dollar after inside before some code calm ok = token_by kinds.Dollar (sign "$") [] after inside before code calm refl refl (alone kinds.Dollar refl) ok
sign_token kinds.Dot after inside before some code calm ok = token_by kinds.Dot (sign ".") [] after inside before code calm refl refl (alone kinds.Dot refl) ok
sign_token kinds.Ampersand after inside before some code calm ok = token_by kinds.Ampersand (sign "&") [] after inside before code calm refl refl (alone kinds.Ampersand refl) ok
sign_token kinds.Exclamation after inside before some code calm ok = token_by kinds.Exclamation (sign "!") [] after inside before code calm refl refl (alone kinds.Exclamation refl) ok
sign_token kinds.Hash after inside before some code calm ok = token_by kinds.Hash (sign "#") [] after inside before code calm refl refl (alone kinds.Hash refl) ok
sign_token kinds.Ellipsis after inside before some code calm ok = token_by kinds.Ellipsis (sign ".") (codes "..") after inside before code calm refl refl (alone kinds.Ellipsis refl) ok
sign_token _ after inside before some code calm ok = absurd (cc)
