-- Digits with a `%` in raw text are a token, whatever stands behind them.
use Rattle.std.proofs.Common.{◌≡◌, ◌<◌, ℕ, ◌+◌, Bool, true, false, not, ◌&&◌, ◌||◌, List, [], ◌∷◌, ◌++◌, length, refl, sym, ◌∙◌, ap, arith, append_assoc, length-append}
use Rattle.std.specs.Prelude.{◌==◌, codes, if◌then◌else◌}
use Rattle.std.specs.List.{list_all}
use Rattle.std.proofs.lemmas.Bool.Decides.{nat_tests}
use Rattle.sw_text_scan.specs.declared.runs.Class.TheVariants as classes
use Rattle.sw_text_scan.specs.Bytes.{sign, byte, is_white, is_digit, is_quote, opens_at, begins_silent, begins_loud}
use Rattle.sw_text_scan.specs.Runs.{run_end}
use Rattle.sw_text_scan.specs.Words.{is_exponent, fraction_end, exponent_end, begins_number, unit_start, unit_end}
use Rattle.sw_text_scan.proofs.Bounds.{if_true, if_false, and_left, and_right}
use Rattle.sw_tokens.specs.declared.pieces.Before.{Before}
use Rattle.sw_tokens.specs.declared.pieces.Before.TheVariants as befores
use Rattle.sw_tokens.specs.declared.pieces.Change.TheVariants as changes
use Rattle.sw_tokens.specs.declared.skips.Inside.TheVariants as insides
use Rattle.sw_tokens.specs.declared.token.TokenKind.TheVariants as kinds
use Rattle.sw_tokens.specs.Pieces.{made, piece, is_hex_form, number_kind, number_piece, after_hash, word_piece, code_piece}
use Rattle.sw_convert_spelling.proofs.Again as texts
use Rattle.sw_convert_spelling.proofs.Choices.{left_no, right_no, both}
use Rattle.sw_convert_spelling.proofs.MovedRuns.{first_byte}
use Rattle.sw_convert_tokens.specs.Written.{is_calm}
use Rattle.sw_convert_texts.specs.RawKinds.{is_some, percent_behind, is_percent}
use Rattle.sw_convert_texts.proofs.DigitTokens.{digit_run}

-- digits, and the `%`
record Percent (text : List ℕ) : Type 0 where
  digits : List ℕ
  is : text ≡ digits ++ codes "%"
  all : list_all is_digit digits ≡ true

equal : (a b : ℕ) → (a == b) ≡ true → a ≡ b
equal a b e = grind (arith, nat_tests)

alone : (b : ℕ) (text : List ℕ) → ((b == sign "%") && not (is_some text)) ≡ true → Percent (b ∷ text)
alone b [] e = record { digits = []; is = ap (λ (c : ℕ). c ∷ []) (equal b (sign "%") (and_left (b == sign "%") _ e)); all = refl }
alone b (c ∷ text) e = absurd (let wrong : false ≡ true = and_right (b == sign "%") false e in cc)

cut_percent : (text : List ℕ) → percent_behind text ≡ true → Percent text
cut_percent [] e = absurd (cc)
cut_percent (b ∷ text) e = go (λ f. cut_percent text f) (is_digit b) refl e
  where
    go : (percent_behind text ≡ true → Percent text) → (t : Bool) → is_digit b ≡ t
        → (if t then percent_behind text else ((b == sign "%") && not (is_some text))) ≡ true → Percent (b ∷ text)
    go onward true d f =
        let more = onward f in
        record { digits = b ∷ more.digits; is = ap (λ (t : List ℕ). b ∷ t) more.is; all = both (is_digit b) _ d more.all }
    go onward false d f = alone b text f

digit_white : (b : ℕ) → is_digit b ≡ true → is_white b ≡ false
digit_white b e = grind (arith, nat_tests)

digit_quote : (b : ℕ) → is_digit b ≡ true → is_quote b ≡ false
digit_quote b e = grind (arith, nat_tests)

digit_hash : (b : ℕ) → is_digit b ≡ true → (b == sign "#") ≡ false
digit_hash b e = grind (arith, nat_tests)

digit_brace : (b : ℕ) → is_digit b ≡ true → (b == sign "}") ≡ false
digit_brace b e = grind (arith, nat_tests)

digit_slash : (b : ℕ) → is_digit b ≡ true → (b == sign "/") ≡ false
digit_slash b e = grind (arith, nat_tests)

calm_hash : (before : Before) → is_calm before ≡ true → after_hash before ≡ false
calm_hash befores.Hash c = absurd (cc)
calm_hash _ c = refl

yes : (a b : Bool) → a ≡ true → (a || b) ≡ true
yes true b e = refl
yes false b e = absurd (cc)

module _ (ds after : List ℕ) (all : list_all is_digit ds ≡ true) where
  abbrev cs : List ℕ
  cs = ds ++ (sign "%" ∷ after)

  abbrev n : ℕ
  n = length ds

  here : byte cs n ≡ sign "%"
  here = texts.behind_first ds [] (sign "%" ∷ after) ∙ first_byte (sign "%") after

  run : run_end classes.Digit cs 0 ≡ n
  run = digit_run ds (sign "%" ∷ after) all (ap is_digit (first_byte (sign "%") after))

  start_is : unit_start cs 0 ≡ n
  start_is =
      ap (λ (k : ℕ). exponent_end cs (fraction_end cs k)) run
      ∙ ap (exponent_end cs)
      (if_false ((byte cs n == sign ".") && is_digit (byte cs (n + 1))) (run_end classes.Digit cs (n + 1)) n
      (left_no (byte cs n == sign ".") _ (ap (λ (b : ℕ). b == sign ".") here)))
      ∙ if_false (is_exponent (byte cs n) && is_digit (byte cs (n + 1))) _ _ (left_no (is_exponent (byte cs n)) _ (ap is_exponent here))
      ∙ if_false (is_exponent (byte cs n) && _) _ _ (left_no (is_exponent (byte cs n)) _ (ap is_exponent here))

  end_is : unit_end cs n ≡ n + 1
  end_is = if_true (byte cs n == sign "%") _ _ (ap (λ (b : ℕ). b == sign "%") here)

  number_is : number_piece cs 0 ≡ made kinds.Number (n + 1) changes.Keep
  unfolding number_piece
  number_is =
      ap (λ (k : ℕ). made (number_kind cs k (unit_start cs 0)) (unit_end cs (unit_start cs 0)) changes.Keep) run
      ∙ ap (λ (k : ℕ). made (number_kind cs n k) (unit_end cs k) changes.Keep) start_is
      ∙ ap (λ (k : ℕ). made (number_kind cs n n) k changes.Keep) end_is
      ∙ ap (λ k. made k (n + 1) changes.Keep)
      (if_false ((n == n) && not (byte cs n == sign "%")) kinds.Digits kinds.Number
      (right_no (n == n) _ (ap not (ap (λ (b : ℕ). b == sign "%") here))))

  percent_code : is_digit (byte cs 0) ≡ true → (before : Before) → is_calm before ≡ true
      → piece cs insides.Sheet before 0 ≡ made kinds.Number (n + 1) changes.Keep
  unfolding code_piece word_piece
  percent_code first before calm =
      if_false (is_white (byte cs 0)) _ _ (digit_white (byte cs 0) first)
      ∙ if_false (is_quote (byte cs 0)) _ _ (digit_quote (byte cs 0) first)
      ∙ if_false (opens_at cs 0) _ _ (left_no (byte cs 0 == sign "#") _ (digit_hash (byte cs 0) first))
      ∙ if_false ((byte cs 0 == sign "}") && false) _ _ (left_no (byte cs 0 == sign "}") _ (digit_brace (byte cs 0) first))
      ∙ if_false (begins_silent cs 0) _ _ (left_no (byte cs 0 == sign "/") _ (digit_slash (byte cs 0) first))
      ∙ if_false (begins_loud cs 0) _ _ (left_no (byte cs 0 == sign "/") _ (digit_slash (byte cs 0) first))
      ∙ if_false (after_hash before && is_hex_form cs 0) _ _ (left_no (after_hash before) _ (calm_hash before calm))
      ∙ if_true (begins_number cs 0) _ _ (yes (is_digit (byte cs 0)) _ first)
      ∙ number_is

first_of : (text after : List ℕ) → 0 < length text → byte (text ++ after) 0 ≡ byte text 0
first_of [] after some = absurd (let wrong = some in omega (arith, wrong))
first_of (b ∷ text) after some = first_byte b (text ++ after) ∙ sym (first_byte b text)

-- it is one wherever it stands
pub percent_token : (text after : List ℕ) → 0 < length text → is_percent text ≡ true → (before : Before) → is_calm before ≡ true
    → piece (text ++ after) insides.Sheet before 0 ≡ made kinds.Number (length text) changes.Keep
percent_token text after some e before calm =
    let it = cut_percent text (and_right (is_digit (byte text 0)) _ e) in
    let whole : text ++ after ≡ it.digits ++ (sign "%" ∷ after) =
    ap (λ (t : List ℕ). t ++ after) it.is ∙ append_assoc it.digits (codes "%") after in
    let long : length it.digits + 1 ≡ length text =
    sym (ap length it.is ∙ length-append it.digits (codes "%")) in
    let digit : is_digit (byte (it.digits ++ (sign "%" ∷ after)) 0) ≡ true =
    ap (λ (t : List ℕ). is_digit (byte t 0)) (sym whole) ∙ ap is_digit (first_of text after some) ∙ and_left (is_digit (byte text 0)) _ e in
    ap (λ (t : List ℕ). piece t insides.Sheet before 0) whole
    ∙ percent_code it.digits after it.all digit before calm
    ∙ ap (λ (k : ℕ). made kinds.Number k changes.Keep) long

pub percent_black : (text : List ℕ) → is_percent text ≡ true → is_white (byte text 0) ≡ false
percent_black text e = digit_white (byte text 0) (and_left (is_digit (byte text 0)) _ e)
