-- Numbers that were read are written as their tokens.
use Rattle.std.proofs.Common.{◌≡◌, ◌≤◌, ◌<◌, ℕ, suc, ◌+◌, ◌%◌, ◌/◌, Bool, true, false, not, ◌&&◌, ◌||◌, if◌then◌else◌, List, [], ◌∷◌, ◌++◌, length, Option, Some, None, ℤ, pos, negsuc, decimal, length-append, refl, sym, ◌∙◌, ap, subst, arith, lit<}
use Rattle.std.specs.Prelude.{◌==◌, codes, nat_lt}
use Rattle.std.proofs.lemmas.Bool.Decides.{nat_tests}
use Rattle.std.proofs.lemmas.Nat.{mod_below}
use Rattle.sw_fixed.specs.Arithmetic.{scale, limit}
use Rattle.sw_fixed.specs.Reading.{AreDigits}
use Rattle.sw_fixed.specs.Text.{decimals, fraction_text, magnitude_text}
use Rattle.sw_fixed.proofs.DigitRuns.{AreDigits_parts}
use Rattle.sw_text_scan.specs.Bytes.{sign, byte, is_white, is_digit, starts_plainly}
use Rattle.sw_text_scan.specs.Runs.{starts_at}
use Rattle.sw_text_scan.specs.Words.{unit_start, unit_end}
use Rattle.sw_text_scan.proofs.Bounds.{if_false, and_right}
use Rattle.sw_text_locality.proofs.Characters.{escape_none}
use Rattle.sw_text_locality.proofs.Written.{byte_before}
use Rattle.sw_tokens.specs.declared.pieces.Before.{Before}
use Rattle.sw_tokens.specs.declared.pieces.Before.TheVariants as befores
use Rattle.sw_tokens.specs.declared.pieces.Change.TheVariants as changes
use Rattle.sw_tokens.specs.declared.skips.Inside.{Inside}
use Rattle.sw_tokens.specs.declared.skips.Inside.TheVariants as insides
use Rattle.sw_tokens.specs.declared.token.TokenKind.{TokenKind}
use Rattle.sw_tokens.specs.declared.token.TokenKind.TheVariants as kinds
use Rattle.sw_tokens.specs.Ends.{opens}
use Rattle.sw_tokens.specs.Pieces.{made, piece, number_kind, number_piece, after_hash, code_piece}
use Rattle.sw_tokens.specs.Tokens.{before_of, is_spaced}
use Rattle.sw_tree.specs.declared.expr.Number.{Number}
use Rattle.sw_parse_terminals.specs.declared.terminal.Terminal.TheVariants as terminals
use Rattle.sw_parse_lexemes.specs.Classes.{is_number, is_comment}
use Rattle.sw_parse_lexemes.specs.Sorts.{sort_of}
use Rattle.sw_parse_table.specs.Numerals.{numeral}
use Rattle.sw_parse_table.specs.Sources.{bytes_between}
use Rattle.sw_convert_spelling.specs.Spelt.{is_sheet_code, behind_gap}
use Rattle.sw_convert_spelling.specs.Numerals.{begins_exponent, no_exponent, value_text, numeral_text, ends_number, numeral_kind}
use Rattle.sw_convert_spelling.proofs.MovedRuns as moved
use Rattle.sw_convert_spelling.proofs.NumeralTokens as tokens
use Rattle.sw_convert_spelling.proofs.Numerals.{whole_small, decimals_write}
use Rattle.sw_convert_spelling.proofs.Choices.{neither}
use Rattle.sw_convert_written.specs.Escapes.{takes_white, behind_text, ends_unclosed}
use Rattle.sw_convert_written.specs.Names.{number_text}
use Rattle.sw_convert_passing.specs.Values.{number, negative}
use Rattle.sw_convert_passing.specs.Written.{written, direct}
use Rattle.sw_convert_again.specs.Tokens.{Numeral, tok}
use Rattle.sw_convert_again.specs.Tokens as again
use Rattle.sw_convert_again.specs.Spells.{number_tokens}
use Rattle.sw_convert_again.proofs.Tokens.{one_byte}
use Rattle.sw_convert_tokens.specs.Joints.{Segment}
use Rattle.sw_convert_tokens.specs.Written.{Follows, begins_white, is_calm, gap_of, AsValue, WrittenAs}
use Rattle.sw_convert_tokens.proofs.Stops.{stopped, nothing_parts}
use Rattle.sw_convert_tokens.proofs.Signs.{Fits, token_segment, sign_token}
use Rattle.sw_convert_tokens.proofs.Pairs.{pair_segment}
use Rattle.sw_convert_tokens.proofs.NumberPieces.{is_numeric}
use Rattle.sw_convert_tokens.proofs.NumberEnds.{unit_ends}
use Rattle.sw_convert_tokens.proofs.NumeralsBack.{IsSmall, no_more_digit, beyond_digits, beyond_start, first_digit, numeral_back}
use Rattle.sw_convert_tokens.proofs.Words.{bytes_sit}

-- ---- the token

pub numeric_opens : (kind : TokenKind) → is_numeric kind ≡ true → opens kind ≡ false
numeric_opens kinds.Digits k = refl
numeric_opens kinds.Number k = refl
numeric_opens _ k = absurd (cc)

pub numeric_seen : (kind : TokenKind) (text : List ℕ) → is_numeric kind ≡ true → is_comment (sort_of kind text) ≡ false
numeric_seen kinds.Digits text k = refl
numeric_seen kinds.Number text k = refl
numeric_seen _ text k = absurd (cc)

pub numeric_sort : (kind : TokenKind) (text : List ℕ) → is_numeric kind ≡ true → is_number (sort_of kind text) ≡ true
numeric_sort kinds.Digits text k = refl
numeric_sort kinds.Number text k = refl
numeric_sort _ text k = absurd (cc)

pub numeric_behind : (kind : TokenKind) → is_numeric kind ≡ true → before_of (Some kind) ≡ befores.Other
numeric_behind kinds.Digits k = refl
numeric_behind kinds.Number k = refl
numeric_behind _ k = absurd (cc)

pub calm_hash : (before : Before) → is_calm before ≡ true → after_hash before ≡ false
calm_hash befores.White calm = refl
calm_hash befores.Other calm = refl
calm_hash befores.Hash calm = absurd (cc)
calm_hash befores.Dollar calm = absurd (cc)

numeral_numeric : (n : ℕ) (unit : List ℕ) → is_numeric (numeral_kind n unit) ≡ true
numeral_numeric n unit = go _
  where
    go : (t : Bool) → is_numeric (if t then kinds.Digits else kinds.Number) ≡ true
    go true = refl
    go false = refl

digit_black : (xs : List ℕ) → is_digit (byte xs 0) ≡ true → is_white (byte xs 0) ≡ false
digit_black xs e = no_white (byte xs 0) e
  where
    no_white : (b : ℕ) → is_digit b ≡ true → is_white b ≡ false
    no_white b e = grind (arith, nat_tests)

digit_some : (xs : List ℕ) → is_digit (byte xs 0) ≡ true → 0 < length xs
unfolding byte
digit_some [] e = absurd (cc)
digit_some (b ∷ xs) e = omega arith

-- what is written of a value beyond the bound is one token with its unit
module _ (unit after : List ℕ) (ends : ends_number unit after ≡ true) where
  no_digit : is_digit (byte (unit ++ after) 0) ≡ false
  no_digit = no_more_digit unit after ends

  equal : (a b : ℕ) → (a == b) ≡ true → a ≡ b
  equal a b e = grind (arith, nat_tests)

  unit_here : unit_end (unit ++ after) 0 ≡ length unit
  unit_here =
      equal (unit_end (unit ++ after) 0) (length unit)
      (and_right _ (unit_end (unit ++ after) 0 == length unit)
      (and_right (not ((byte (unit ++ after) 0 == sign ".") && is_digit (byte (unit ++ after) 1))) _
      (and_right (not (is_digit (byte (unit ++ after) 0))) _ ends)))

  beyond_here : number_piece (codes "1e28" ++ (unit ++ after)) 0
      ≡ made kinds.Number (length (codes "1e28" ++ unit)) changes.Keep
  unfolding number_piece
  beyond_here =
      let bs = codes "1e28" ++ (unit ++ after) in
      ap (λ (k : ℕ). made (number_kind bs k (unit_start bs 0)) (unit_end bs (unit_start bs 0)) changes.Keep)
      (beyond_digits (unit ++ after) no_digit)
      ∙ ap (λ (k : ℕ). made (number_kind bs 1 k) (unit_end bs k) changes.Keep) (beyond_start (unit ++ after) no_digit)
      ∙ ap (λ (k : ℕ). made kinds.Number k changes.Keep)
      (moved.unit_moved (codes "1e28") (unit ++ after) 0 ∙ ap (λ (k : ℕ). 4 + k) unit_here
      ∙ (let z = length-append (codes "1e28") unit in let y : 4 + length unit ≡ length (codes "1e28" ++ unit) = omega (arith, z) in y))

  beyond_code : (top : Inside) (before : Before) → after_hash before ≡ false
      → code_piece (codes "1e28" ++ (unit ++ after)) top before 0
      ≡ made kinds.Number (length (codes "1e28" ++ unit)) changes.Keep
  unfolding byte
  beyond_code top before hash = tokens.number_here (codes "1e28" ++ (unit ++ after)) top before hash refl ∙ beyond_here

  beyond_token : (inside : Inside) (before : Before) → is_sheet_code inside ≡ true → after_hash before ≡ false
      → piece ((codes "1e28" ++ unit) ++ after) inside before 0
      ≡ made kinds.Number (length (codes "1e28" ++ unit)) changes.Keep
  beyond_token insides.Sheet before code hash = beyond_code insides.Sheet before hash
  beyond_token insides.Interpolation before code hash = beyond_code insides.Interpolation before hash
  beyond_token _ before code hash = absurd (cc)

-- ---- no escape begins before the unit

abbrev pub Quiet : List ℕ → Type 0
Quiet [] = Unit {0}
Quiet (b ∷ bytes) = ((b == sign "\\") ≡ false) × Quiet bytes

quiet_append : (xs ys : List ℕ) → Quiet xs → Quiet ys → Quiet (xs ++ ys)
quiet_append [] ys q r = r
quiet_append (x ∷ xs) ys (e, q) r = (e, quiet_append xs ys q r)

quiet_digits : (ds : List ℕ) → AreDigits ds → Quiet ds
quiet_digits [] all = tt
quiet_digits (d ∷ ds) all = let p = AreDigits_parts d ds all in (digit d p.low p.high, quiet_digits ds p.rest)
  where
    digit : (d : ℕ) → 48 ≤ d → d ≤ 57 → (d == sign "\\") ≡ false
    digit d low high = grind (arith, nat_tests)

quiet_fraction : (rest : ℕ) → rest < 10000000000 → Quiet (fraction_text rest)
quiet_fraction rest below = go (rest == 0)
  where
    go : (t : Bool) → Quiet (if t then [] else 46 ∷ decimals 10 rest)
    go true = tt
    go false = (refl, quiet_digits (decimals 10 rest) (decimals_write 10 rest below).alone)

quiet_power : (t : Bool) → Quiet (no_exponent t)
quiet_power true = (refl, (refl, tt))
quiet_power false = tt

quiet_positive : (n : ℕ) (unit : List ℕ) → n ≤ limit → Quiet (value_text (Some (pos n)) unit)
quiet_positive n unit within =
    quiet_append (magnitude_text n) (no_exponent (begins_exponent unit))
    (quiet_append (decimal (n / scale)) (fraction_text (n % scale)) (quiet_digits (decimal (n / scale)) (whole_small n within).alone)
    (quiet_fraction (n % scale) (mod_below n scale (lit< tt))))
    (quiet_power (begins_exponent unit))

quiet_value : (value : Option ℤ) (unit : List ℕ) → IsSmall value → Quiet (value_text value unit)
quiet_value (Some (pos n)) unit within = quiet_positive n unit within
quiet_value (Some (negsuc n)) unit within = (refl, quiet_positive (suc n) unit within)
quiet_value None unit small = (refl, (refl, (refl, (refl, tt))))

quiet_state : (xs ys : List ℕ) → Quiet xs → behind_text None (xs ++ ys) ≡ behind_text None ys
quiet_state [] ys q = refl
quiet_state (x ∷ xs) ys (e, q) =
    ap (λ (s : Option ℕ). behind_text s (xs ++ ys)) (if_false (x == sign "\\") (Some 0) None e) ∙ quiet_state xs ys q

pub quiet_unclosed : (xs ys : List ℕ) → Quiet xs → ends_unclosed (xs ++ ys) ≡ ends_unclosed ys
unfolding ends_unclosed
quiet_unclosed xs ys q = ap takes_white (quiet_state xs ys q)

-- ---- a number whose unit was read

-- a `-` stands before digits
digit_fits : (bs : List ℕ) → is_digit (byte bs 0) ≡ true → Fits kinds.Minus bs
unfolding byte
digit_fits bs e =
    ap (λ (x : Bool). not (x || false) && true)
    (neither (starts_at bs 0) _
    (neither (starts_plainly (byte bs 0)) _ (no_letter (byte bs 0) e)
    (ap (nat_lt 0) (escape_none bs 0 (no_slash (byte bs 0) e))))
    (no_dash (byte bs 0) e))
  where
    no_letter : (b : ℕ) → is_digit b ≡ true → starts_plainly b ≡ false
    no_letter b e = grind (arith, nat_tests)

    no_slash : (b : ℕ) → is_digit b ≡ true → (b == sign "\\") ≡ false
    no_slash b e = grind (arith, nat_tests)

    no_dash : (b : ℕ) → is_digit b ≡ true → (b == sign "-") ≡ false
    no_dash b e = grind (arith, nat_tests)

module _ (value : Option ℤ) (unit old : List ℕ) (small : IsSmall value) (was : unit_end (unit ++ old) 0 ≡ length unit) where
  abbrev it : Number
  it = record { value = value; unit = unit }

  alone : ends_number unit [] ≡ true
  alone = unit_ends unit old [] was refl (nothing_parts unit)

  abbrev Ended : List ℕ → Type 0
  Ended after = Follows (numeral_text value unit) after

  ends : (after : List ℕ) → Follows (numeral_text value unit) after → ends_number unit after ≡ true
  ends after f =
      unit_ends unit old after was f.stop
      (record {
        dark = stopped after f.stop;
        closed = ap (λ (t : Bool). begins_white after && t)
            (sym (quiet_unclosed (value_text value unit) unit (quiet_value value unit small)))
            ∙ f.closed;
      })

  -- one token
  one_token : (kind : TokenKind) → is_numeric kind ≡ true → is_digit (byte (numeral_text value unit) 0) ≡ true
      → ((inside : Inside) (before : Before) (after : List ℕ) → ends_number unit after ≡ true → is_sheet_code inside ≡ true
      → after_hash before ≡ false
      → piece (numeral_text value unit ++ after) inside before 0 ≡ made kind (length (numeral_text value unit)) changes.Keep)
      → WrittenAs (AsValue false) (numeral_text value unit) (tok terminals.Number (Numeral 1 it) ∷ [])
  one_token kind k first token before spaced calm =
      let text = numeral_text value unit in record {
        passed = _;
        segment = subst
            (λ (end : Before). Segment before (gap_of spaced ++ text) (tok terminals.Number (Numeral 1 it) ∷ []) (written (sort_of kind text) (is_spaced (behind_gap before (gap_of spaced))) terminals.Number ∷ []) end (Follows text))
            (numeric_behind kind k)
            (token_segment kind text (terminals.Number ∷ []) (Numeral 1 it) before spaced (Follows text) (numeric_opens kind k)
            (numeric_seen kind text k) (digit_black text first) (digit_some text first)
            (λ new commented at front after sits.
            ap numeral (one_byte new at ∙ bytes_sit new commented at front _ after sits) ∙ numeral_back it small alone)
            (λ inside after code f.
            token inside (behind_gap before (gap_of spaced)) after (ends after f) code (calm_hash (behind_gap before (gap_of spaced)) calm)));
        told = λ mode free. number (sort_of kind text) (numeric_sort kind text k);
      }

negative_token : (n : ℕ) (unit old : List ℕ) → suc n ≤ limit → unit_end (unit ++ old) 0 ≡ length unit
    → WrittenAs (AsValue false) (numeral_text (Some (negsuc n)) unit)
    (tok terminals.Sign (Numeral 2 (record { value = Some (negsuc n); unit = unit })) ∷ again.sign terminals.Number ∷ [])
unfolding byte
negative_token n unit old within was before spaced calm =
    let it : Number = record { value = Some (negsuc n); unit = unit } in
    let digits = numeral_text (Some (pos (suc n))) unit in
    let text = numeral_text (Some (negsuc n)) unit in
    let kind = numeral_kind (suc n) unit in
    let k = numeral_numeric (suc n) unit in
    let none = alone (Some (negsuc n)) unit old within was in
    let first = first_digit (suc n) unit within none in record {
      passed = _;
      segment = subst
          (λ (end : Before). Segment before (gap_of spaced ++ text) (tok terminals.Sign (Numeral 2 it) ∷ again.sign terminals.Number ∷ []) (written (sort_of kinds.Minus (codes "-")) (is_spaced (behind_gap before (gap_of spaced))) terminals.Sign ∷ direct (sort_of kind digits) terminals.Number ∷ []) end (Follows text))
          (numeric_behind kind k)
          (pair_segment kinds.Minus kind (codes "-") digits (terminals.Sign ∷ []) (terminals.Number ∷ []) (Numeral 2 it) before spaced
          (Follows text) refl (numeric_opens kind k) refl (numeric_seen kind digits k) refl (lit< tt) (digit_some digits first)
          (λ new at same.
          ap numeral
          (ap (bytes_between new at) (let z : at + 2 ≡ suc (suc at) = omega arith in z) ∙ same)
          ∙ numeral_back it within none)
          (λ inside after code f.
          sign_token kinds.Minus (digits ++ after) inside (behind_gap before (gap_of spaced)) refl code calm
          (digit_fits (digits ++ after)
          (ap is_digit (byte_before digits after 0 (digit_some digits first)) ∙ first)))
          (λ inside after code f.
          tokens.numeral_token (suc n) unit inside befores.Other after within (ends (Some (negsuc n)) unit old within was after f) code refl));
      told = λ mode free. negative (sort_of kind digits) (numeric_sort kind digits k);
    }

beyond_written : (unit old : List ℕ) → unit_end (unit ++ old) 0 ≡ length unit
    → WrittenAs (AsValue false) (numeral_text None unit)
    (tok terminals.Number (Numeral 1 (record { value = None; unit = unit })) ∷ [])
unfolding byte
beyond_written unit old was =
    one_token None unit old tt was kinds.Number refl refl
    (λ inside before after ends code hash. beyond_token unit after ends inside before code hash)

-- what is written of a number whose unit was read is its tokens
pub number_text_written : (it : Number) (old : List ℕ) → IsSmall it.value
    → unit_end (it.unit ++ old) 0 ≡ length it.unit
    → WrittenAs (AsValue false) (number_text it) (number_tokens it)
number_text_written it old small was = go it.value it.unit small was
  where
    go : (value : Option ℤ) (unit : List ℕ) → IsSmall value → unit_end (unit ++ old) 0 ≡ length unit
        → WrittenAs (AsValue false) (numeral_text value unit) (number_tokens (record { value = value; unit = unit }))
    go (Some (pos n)) unit within was =
        one_token (Some (pos n)) unit old within was (numeral_kind n unit) (numeral_numeric n unit)
        (first_digit n unit within (alone (Some (pos n)) unit old within was))
        (λ inside before after ends code hash. tokens.numeral_token n unit inside before after within ends code hash)
    go (Some (negsuc n)) unit within was = negative_token n unit old within was
    go None unit small was = beyond_written unit old was
