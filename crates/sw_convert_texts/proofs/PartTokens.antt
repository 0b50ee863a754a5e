-- A part of a word before what stood directly behind it.
use Rattle.std.proofs.Common.{◌≡◌, ◌⊎◌, ◌≤◌, ◌<◌, ℕ, ◌+◌, Bool, true, false, not, ◌&&◌, ◌||◌, List, [], ◌∷◌, ◌++◌, length, Some, inl, inr, refl, sym, ◌∙◌, ap, subst, arith}
use Rattle.std.specs.Prelude.{◌==◌, nat_lt, codes}
use Rattle.std.specs.List.{list_all}
use Rattle.std.proofs.lemmas.Bool.Decides.{nat_tests}
use Rattle.sw_text_scan.specs.declared.runs.Class.TheVariants as classes
use Rattle.sw_text_scan.specs.Bytes.{sign, byte, is_white, is_digit, is_letter, is_name_byte, starts_plainly}
use Rattle.sw_text_scan.specs.Runs.{next, run_end, escape_end, starts_at, begins_name}
use Rattle.sw_text_scan.specs.Words.{is_plus_or_minus}
use Rattle.sw_text_scan.proofs.Bounds.{if_false, and_left, and_right, or_left, or_right}
use Rattle.sw_text_scan.proofs.Progress.{run_stops}
use Rattle.sw_text_locality.proofs.Written.{no_name, byte_before}
use Rattle.sw_tokens.specs.declared.pieces.Before.{Before}
use Rattle.sw_tokens.specs.declared.pieces.Before.TheVariants as befores
use Rattle.sw_tokens.specs.declared.pieces.Change.TheVariants as changes
use Rattle.sw_tokens.specs.declared.skips.Inside.{Inside}
use Rattle.sw_tokens.specs.declared.token.TokenKind.{TokenKind}
use Rattle.sw_tokens.specs.declared.token.TokenKind.TheVariants as kinds
use Rattle.sw_tokens.specs.Ends.{opens}
use Rattle.sw_tokens.specs.Pieces.{made, piece}
use Rattle.sw_tokens.specs.Tokens.{before_of}
use Rattle.sw_parse_lexemes.specs.Classes.{is_comment}
use Rattle.sw_parse_lexemes.specs.Sorts.{sort_of}
use Rattle.sw_parse_table.specs.declared.source.Source.{Source}
use Rattle.sw_parse_table.specs.Sources.{bytes, to_at}
use Rattle.sw_convert_spelling.specs.Spelt.{is_sheet_code}
use Rattle.sw_convert_spelling.specs.Neighbours.{joins_sign}
use Rattle.sw_convert_spelling.proofs.MovedRuns as moved
use Rattle.sw_convert_spelling.proofs.Choices.{both, neither, left_no}
use Rattle.sw_convert_tokens.specs.Written.{is_calm}
use Rattle.sw_convert_tokens.proofs.Leaves.{no_other}
use Rattle.sw_convert_tokens.proofs.Stops.{no_escape}
use Rattle.sw_convert_tokens.proofs.Names.{start_by}
use Rattle.sw_convert_tokens.proofs.Signs.{Fits, sign_token}
use Rattle.sw_convert_texts.proofs.NameTokens.{Quiet, Settled, joins_no}
use Rattle.sw_convert_texts.proofs.DigitTokens.{Ended, digit_token}

-- no escape begins there
abbrev pub no_slash : ℕ → Bool
no_slash b = not (b == sign "\\")

-- ---- what stood behind it

-- no name goes on or begins there
pub record Bars (after : List ℕ) : Type 0 where
  pub starts : starts_at after 0 ≡ false
  pub dash : (byte after 0 == sign "-") ≡ false

pub name_bars : (w after : List ℕ) (start : ℕ) → run_end classes.Name (w ++ after) start ≡ length w → Bars after
name_bars w after start run =
    let stop : next classes.Name (w ++ after) (length w) ≤ length w =
    subst (λ (m : ℕ). next classes.Name (w ++ after) m ≤ m) run (run_stops (w ++ after) classes.Name start) in
    let there : next classes.Name (w ++ after) (length w) ≡ length w + next classes.Name after 0 =
    ap (next classes.Name (w ++ after)) (let z : length w ≡ length w + 0 = omega arith in z) ∙ moved.next_moved w after classes.Name 0 in
    let none : next classes.Name after 0 ≤ 0 = omega (arith, stop, there) in
    let name = no_name after 0 none in
    let escape : escape_end after 0 ≤ 0 =
    subst (λ (m : ℕ). m ≤ 0) (if_false (is_name_byte (byte after 0)) (0 + 1) (escape_end after 0) name) none in record {
      starts = neither (starts_plainly (byte after 0)) _ (plain_no (byte after 0) name) (zero_by (escape_end after 0) escape);
      dash = dash_no (byte after 0) name;
    }
  where
    plain_no : (c : ℕ) → is_name_byte c ≡ false → starts_plainly c ≡ false
    plain_no c e = grind (arith, nat_tests)

    dash_no : (c : ℕ) → is_name_byte c ≡ false → (c == sign "-") ≡ false
    dash_no c e = grind (arith, nat_tests)

    zero_by : (m : ℕ) → m ≤ 0 → nat_lt 0 m ≡ false
    zero_by m l = grind (arith, nat_tests)

pub dash_bars : (b : ℕ) (after : List ℕ) → b ≡ sign "-" → begins_name (b ∷ after) 0 ≡ false → Bars after
unfolding begins_name
dash_bars b after e none =
    let rest : (true && (starts_at (b ∷ after) 1 || (byte (b ∷ after) 1 == sign "-"))) ≡ false =
    ap (λ (t : Bool). t && (starts_at (b ∷ after) 1 || (byte (b ∷ after) 1 == sign "-"))) (sym (ap (λ (c : ℕ). c == sign "-") (moved.first_byte b after ∙ e)))
    ∙ or_right (starts_at (b ∷ after) 0) _ none in record {
      starts = sym (moved.starts_moved (b ∷ []) after 0) ∙ or_left (starts_at (b ∷ after) 1) _ rest;
      dash = ap (λ (c : ℕ). c == sign "-") (sym (moved.at_byte (b ∷ []) after 0)) ∙ or_right (starts_at (b ∷ after) 1) _ rest;
    }

pub bars_name : (after : List ℕ) → Bars after → (is_letter (byte after 0) || begins_name after 0) ≡ false
unfolding begins_name
bars_name after bars =
    neither (is_letter (byte after 0)) _ (letter_no_start (byte after 0) (or_left (starts_plainly (byte after 0)) _ bars.starts))
    (neither (starts_at after 0) _ bars.starts (left_no (byte after 0 == sign "-") _ bars.dash))
  where
    letter_no_start : (c : ℕ) → starts_plainly c ≡ false → is_letter c ≡ false
    letter_no_start c e = grind (arith, nat_tests)

-- nor digits
pub name_undigit : (w after : List ℕ) (start : ℕ) → run_end classes.Name (w ++ after) start ≡ length w → is_digit (byte after 0) ≡ false
name_undigit w after start run =
    let stop : next classes.Name (w ++ after) (length w) ≤ length w =
    subst (λ (m : ℕ). next classes.Name (w ++ after) m ≤ m) run (run_stops (w ++ after) classes.Name start) in
    let there : next classes.Name (w ++ after) (length w) ≡ length w + next classes.Name after 0 =
    ap (next classes.Name (w ++ after)) (let z : length w ≡ length w + 0 = omega arith in z) ∙ moved.next_moved w after classes.Name 0 in
    let none : next classes.Name after 0 ≤ 0 = omega (arith, stop, there) in digit_no (byte after 0) (no_name after 0 none)
  where
    digit_no : (c : ℕ) → is_name_byte c ≡ false → is_digit c ≡ false
    digit_no c e = grind (arith, nat_tests)

-- ---- a part of a word

-- what a part begins with: a name, a `-` or digits
abbrev pub NextIs : List ℕ → List ℕ → Type 0
NextIs next after =
    (((is_letter (byte (next ++ after) 0) || begins_name (next ++ after) 0) ≡ true) × ((byte next 0 == sign ".") ≡ false))
    ⊎ ((byte next 0 ≡ sign "-") ⊎ (is_digit (byte next 0) ≡ true))

-- behind a unit and a `-` no unit goes on, and behind an `e` and a `-` no digits
abbrev pub rejoins : Bool → Bool → List ℕ → List ℕ → Bool
rejoins long power next rest =
    long && ((byte next 0 == sign "-") && ((length next == 1) && (starts_plainly (byte rest 0) || (power && is_digit (byte rest 0)))))

-- a token is the same before a part that stood directly behind it, one with a unit where it isn't joined with that; it has
-- no escape, or that part begins with a `-`
pub record Goes (long power : Bool) (kind : TokenKind) (text next : List ℕ) : Type 0 where
  pub stays : (rest : List ℕ) → rejoins long power next rest ≡ false
      → (inside : Inside) → is_sheet_code inside ≡ true → (before : Before) → is_calm before ≡ true
      → piece (text ++ (next ++ rest)) inside before 0 ≡ made kind (length text) changes.Keep
  pub apart : (list_all no_slash text ≡ true) ⊎ ((0 < length next) × (byte next 0 ≡ sign "-"))
  -- that part begins with a digit or a `-`
  pub unbegun : (rest : List ℕ) → starts_plainly (byte (next ++ rest) 0) ≡ false

-- the token at a place opens nothing, is the same before what goes on with no name, and before a part that stood directly
-- behind it; none stands behind a name
pub record PartToken (source : Source) (k : ℕ) (text : List ℕ) : Type 0 where
  pub kind : TokenKind
  pub seen : is_comment (sort_of kind text) ≡ false
  pub closed : opens kind ≡ false
  pub some : 0 < length text
  pub other : before_of (Some kind) ≡ befores.Other
  pub black : is_white (byte text 0) ≡ false
  pub token : (after : List ℕ) → Settled text after → (inside : Inside) → is_sheet_code inside ≡ true → (before : Before)
      → is_calm before ≡ true → piece (text ++ after) inside before 0 ≡ made kind (length text) changes.Keep
  pub front : List ℕ
  pub after : List ℕ
  pub whole : bytes source ≡ front ++ after
  pub ends : to_at source k ≡ length front
  -- it has a unit, and this is an `e` alone
  pub long : Bool
  pub power : Bool
  pub bare : long ≡ true → next classes.Unit after 0 ≤ 0
  pub sharp : power ≡ true → (is_plus_or_minus (byte after 0) && is_digit (byte after 1)) ≡ false
  pub more : (next rest : List ℕ) → next ++ rest ≡ after → 0 < length next → NextIs next rest → Goes long power kind text next
  pub named : Bool
  pub alone : named ≡ true → (next rest : List ℕ) → next ++ rest ≡ after → 0 < length next → NextIs next rest → ⊥

-- nothing goes on where a name ended
pub no_next : (after : List ℕ) → Bars after → is_digit (byte after 0) ≡ false → (next rest : List ℕ) → next ++ rest ≡ after
    → 0 < length next → NextIs next rest → ⊥
no_next after bars digit next rest same some (inl (name, dot)) =
    let none = ap (λ (t : List ℕ). is_letter (byte t 0) || begins_name t 0) same ∙ bars_name after bars in
    (let no : true ≡ false = sym name ∙ none in cc)
no_next after bars digit next rest same some (inr (inl dash)) =
    let bar = bars.dash in
    let here : (byte after 0 == sign "-") ≡ true =
    ap (λ (t : List ℕ). byte t 0 == sign "-") (sym same) ∙ ap (λ (b : ℕ). b == sign "-") (byte_before next rest 0 some ∙ dash) in
    (let no : true ≡ false = sym here ∙ bar in cc)
no_next after bars digit next rest same some (inr (inr digits)) =
    let here : is_digit (byte after 0) ≡ true =
    ap (λ (t : List ℕ). is_digit (byte t 0)) (sym same) ∙ ap is_digit (byte_before next rest 0 some) ∙ digits in
    (let no : true ≡ false = sym here ∙ digit in cc)

pub no_goes : {long power : Bool} {kind : TokenKind} {text next : List ℕ} → ⊥ → Goes long power kind text next
no_goes e = absurd e

-- digits behind a `-`
dash_fits : (after : List ℕ) → is_digit (byte after 0) ≡ true → Fits kinds.Minus after
dash_fits after d =
    both (not (joins_sign (sign "-") after)) _
    (ap not (neither (starts_at after 0 || (byte after 0 == sign "-")) (false || false)
    (neither (starts_at after 0) _
    (neither (starts_plainly (byte after 0)) _ (digit_start (byte after 0) d) (ap (nat_lt 0) (no_escape after (digit_slash (byte after 0) d))))
    (digit_dash (byte after 0) d)) refl))
    (ap not (no_other (sign "-") after refl))
  where
    digit_start : (c : ℕ) → is_digit c ≡ true → starts_plainly c ≡ false
    digit_start c e = grind (arith, nat_tests)

    digit_slash : (c : ℕ) → is_digit c ≡ true → (c == sign "\\") ≡ false
    digit_slash c e = grind (arith, nat_tests)

    digit_dash : (c : ℕ) → is_digit c ≡ true → (c == sign "-") ≡ false
    digit_dash c e = grind (arith, nat_tests)

pub dash_goes : (after : List ℕ) → Bars after → (next rest : List ℕ) → next ++ rest ≡ after → 0 < length next → NextIs next rest
    → Goes false false kinds.Minus (codes "-") next
dash_goes after bars next rest same some (inl (name, dot)) =
    let none = ap (λ (t : List ℕ). is_letter (byte t 0) || begins_name t 0) same ∙ bars_name after bars in
    no_goes (let no : true ≡ false = sym name ∙ none in cc)
dash_goes after bars next rest same some (inr (inl dash)) =
    let bar = bars.dash in
    let here : (byte after 0 == sign "-") ≡ true =
    ap (λ (t : List ℕ). byte t 0 == sign "-") (sym same) ∙ ap (λ (b : ℕ). b == sign "-") (byte_before next rest 0 some ∙ dash) in
    no_goes (let no : true ≡ false = sym here ∙ bar in cc)
dash_goes after bars next rest same some (inr (inr digits)) = record {
  stays = λ others clear inside code before calm.
      sign_token kinds.Minus (next ++ others) inside before refl code calm
      (dash_fits (next ++ others) (ap is_digit (byte_before next others 0 some) ∙ digits));
  apart = inl refl;
  unbegun = λ others. ap starts_plainly (byte_before next others 0 some) ∙ digit_plain (byte next 0) digits;
}
  where
    digit_plain : (c : ℕ) → is_digit c ≡ true → starts_plainly c ≡ false
    digit_plain c e = grind (arith, nat_tests)

digits_slashless : (w : List ℕ) → list_all is_digit w ≡ true → list_all no_slash w ≡ true
digits_slashless [] all = refl
digits_slashless (d ∷ w) all =
    both (no_slash d) _ (digit_no (d) (and_left (is_digit d) _ all)) (digits_slashless w (and_right (is_digit d) _ all))
  where
    digit_no : (c : ℕ) → is_digit c ≡ true → no_slash c ≡ true
    digit_no c e = grind (arith, nat_tests)

pub digits_goes : (text after : List ℕ) → list_all is_digit text ≡ true → 0 < length text → Ended after
    → (next rest : List ℕ) → next ++ rest ≡ after → 0 < length next → NextIs next rest → Goes false false kinds.Digits text next
digits_goes text after all long ended next rest same some is = record {
  stays = λ others clear inside code before calm.
      digit_token text (next ++ others) all long
      (record {
        digit = ap is_digit (first others) ∙ ended.digit;
        unit = ap starts_plainly (first others) ∙ ended.unit;
        percent = ap (λ (b : ℕ). b == sign "%") (first others) ∙ ended.percent;
        point = left_no (byte (next ++ others) 0 == sign ".") _ (ap (λ (b : ℕ). b == sign ".") (byte_before next others 0 some) ∙ no_dot is);
      }) inside before code calm;
  apart = inl (digits_slashless text all);
  unbegun = λ others. ap starts_plainly (first others) ∙ ended.unit;
}
  where
    first : (others : List ℕ) → byte (next ++ others) 0 ≡ byte after 0
    first others = byte_before next others 0 some ∙ sym (byte_before next rest 0 some) ∙ ap (λ (t : List ℕ). byte t 0) same

    digit_dot : (c : ℕ) → is_digit c ≡ true → (c == sign ".") ≡ false
    digit_dot c e = grind (arith, nat_tests)

    no_dot : NextIs next rest → (byte next 0 == sign ".") ≡ false
    no_dot (inl (name, dot)) = dot
    no_dot (inr (inl dash)) = ap (λ (b : ℕ). b == sign ".") dash
    no_dot (inr (inr digits)) = digit_dot (byte next 0) digits

pub minus_fits : (after : List ℕ) → Quiet (byte after 0) → Fits kinds.Minus after
minus_fits after quiet =
    both (not (joins_sign (sign "-") after)) _ (ap not (joins_no (sign "-") after quiet (start_by (sign "-") refl) refl))
    (ap not (no_other (sign "-") after refl))
