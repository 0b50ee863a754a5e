-- A number with a unit before the part that stood directly behind it.
use Rattle.std.proofs.Common.{◌≡◌, ◌⊎◌, ◌≤◌, ◌<◌, ℕ, ◌+◌, Bool, true, false, ◌&&◌, ◌||◌, List, [], ◌++◌, length, inl, inr, refl, sym, ◌∙◌, ap, arith}
use Rattle.std.specs.Prelude.{◌==◌}
use Rattle.sw_text_scan.specs.declared.runs.Class.TheVariants as classes
use Rattle.sw_text_scan.specs.declared.signs.TheConstants.{LINE_FEED}
use Rattle.sw_text_scan.specs.Bytes.{sign, byte, is_white, is_digit, is_hex_digit, starts_plainly}
use Rattle.sw_text_scan.specs.Runs.{next, escape_end, goes_in_unit}
use Rattle.sw_text_scan.specs.Words.{is_plus_or_minus}
use Rattle.sw_text_scan.proofs.Bounds.{if_false, or_left, or_right}
use Rattle.sw_text_locality.proofs.Lexical.{equal}
use Rattle.sw_text_locality.proofs.Written.{byte_before}
use Rattle.sw_tokens.specs.declared.token.TokenKind.TheVariants as kinds
use Rattle.sw_convert_spelling.proofs.Again as texts
use Rattle.sw_convert_spelling.proofs.Choices.{left_no, right_no}
use Rattle.sw_convert_written.specs.Escapes.{ends_unclosed}
use Rattle.sw_convert_tokens.specs.Written.{begins_white}
use Rattle.sw_convert_tokens.proofs.Stops.{no_escape, white_same}
use Rattle.sw_convert_texts.proofs.UnitTokens.{no_unit}
use Rattle.sw_convert_texts.proofs.UnitRuns.{HasUnit, is_power, Unmixed, unit_token}
use Rattle.sw_convert_texts.proofs.PartTokens.{NextIs, Goes, no_next, no_goes}

-- ---- a `-` behind it

module _ (after : List ℕ) (stop : next classes.Unit after 0 ≤ 0) (part rest : List ℕ) (same : part ++ rest ≡ after)
    (some : 0 < length part) (dash : byte part 0 ≡ sign "-") where
  old_second : starts_plainly (byte after 1) ≡ false
  old_second =
      let none = no_unit after stop in
      let goes = none.goes in
      sym (ap (λ (b : ℕ). starts_plainly b || (is_digit b || ((b == sign "-") && starts_plainly (byte after 1))))
      (ap (λ (t : List ℕ). byte t 0) (sym same) ∙ byte_before part rest 0 some ∙ dash))
      ∙ goes

  module _ (others : List ℕ) where
    -- the byte behind the `-`: that of the part, or the next one
    second_is : (f : ℕ → Bool) → f (byte after 1) ≡ false → (length part ≡ 1 → f (byte others 0) ≡ false)
        → f (byte (part ++ others) 1) ≡ false
    second_is f old clear = go (texts.lt_or_le 1 (length part))
      where
        go : (1 < length part) ⊎ (length part ≤ 1) → f (byte (part ++ others) 1) ≡ false
        go (inl lt) =
            ap f (byte_before part others 1 lt ∙ sym (byte_before part rest 1 lt) ∙ ap (λ (t : List ℕ). byte t 1) same)
            ∙ old
        go (inr le) =
            ap f
            (ap (byte (part ++ others)) (let z : 1 ≡ length part + 0 = omega (arith, le, some) in z) ∙ texts.behind part [] others 0)
            ∙ clear (let z : length part ≡ 1 = omega (arith, le, some) in z)

    first : byte (part ++ others) 0 ≡ sign "-"
    first = byte_before part others 0 some ∙ dash

    dash_stop : starts_plainly (byte (part ++ others) 1) ≡ false → next classes.Unit (part ++ others) 0 ≤ 0
    dash_stop second =
        let none : goes_in_unit (part ++ others) 0 ≡ false =
        ap (λ (b : ℕ). starts_plainly b || (is_digit b || ((b == sign "-") && starts_plainly (byte (part ++ others) 1)))) first ∙ second in
        let stays = if_false (goes_in_unit (part ++ others) 0) (0 + 1) (escape_end (part ++ others) 0) none
        ∙ no_escape (part ++ others) (ap (λ (b : ℕ). b == sign "\\") first) in omega (arith, stays)

    -- so no number goes on there
    dash_unmixed : (text : List ℕ) (power : Bool)
        → (power ≡ true → (is_plus_or_minus (byte after 0) && is_digit (byte after 1)) ≡ false)
        → (length part ≡ 1 → (starts_plainly (byte others 0) || (power && is_digit (byte others 0))) ≡ false)
        → Unmixed power text (part ++ others)
    dash_unmixed text power sharp clear = record {
      ends = record {
        stop = dash_stop (second_is starts_plainly old_second (λ one. or_left (starts_plainly (byte others 0)) _ (clear one)));
        hex = ap is_hex_digit first;
        feed = ap (λ (b : ℕ). b == LINE_FEED) first;
        closed =
            left_no (begins_white (part ++ others)) (ends_unclosed text)
            (sym (white_same (part ++ others)) ∙ ap is_white first);
      };
      digit = ap is_digit first;
      sharp = λ p.
          right_no (is_plus_or_minus (byte (part ++ others) 0)) _
          (second_is is_digit (old_digit p)
          (λ one. powered p (or_right (starts_plainly (byte others 0)) (power && is_digit (byte others 0)) (clear one))));
    }
      where
        powered : power ≡ true → (power && is_digit (byte others 0)) ≡ false → is_digit (byte others 0) ≡ false
        powered p e = ap (λ (t : Bool). t && is_digit (byte others 0)) (sym p) ∙ e

        old_first : byte after 0 ≡ sign "-"
        old_first = ap (λ (t : List ℕ). byte t 0) (sym same) ∙ byte_before part rest 0 some ∙ dash

        old_digit : power ≡ true → is_digit (byte after 1) ≡ false
        old_digit p = ap (λ (b : ℕ). is_plus_or_minus b && is_digit (byte after 1)) (sym old_first) ∙ sharp p

-- ---- the part

pub unit_goes : (text after : List ℕ) (unit : HasUnit text after) → is_digit (byte text 0) ≡ true → 0 < length text
    → next classes.Unit after 0 ≤ 0
    → (is_power unit.unit ≡ true → (is_plus_or_minus (byte after 0) && is_digit (byte after 1)) ≡ false)
    → (part rest : List ℕ) → part ++ rest ≡ after → 0 < length part → NextIs part rest
    → Goes true (is_power unit.unit) kinds.Digits text part
unit_goes text after unit first long stop sharp part rest same some is = go (byte part 0 == sign "-") refl
  where
    clear_by : (a b c : Bool) → a ≡ true → (true && (a && (b && c))) ≡ false → b ≡ true → c ≡ false
    clear_by true true c e f g = f
    clear_by true false c e f g = absurd (cc)
    clear_by false b c e f g = absurd (cc)

    go : (t : Bool) → (byte part 0 == sign "-") ≡ t → Goes true (is_power unit.unit) kinds.Digits text part
    go true t =
        let dash = equal (byte part 0) (sign "-") t in
        record {
          stays = λ others clear inside code before calm.
              unit_token text after (part ++ others) unit first long
              (dash_unmixed after stop part rest same some dash others text (is_power unit.unit) sharp
              (λ one.
              clear_by (byte part 0 == sign "-") (length part == 1)
              (starts_plainly (byte others 0) || (is_power unit.unit && is_digit (byte others 0))) t clear
              (ap (λ (n : ℕ). n == 1) one)))
              inside before code calm;
          apart = inr (some, dash);
          unbegun = λ others. ap starts_plainly (byte_before part others 0 some ∙ dash);
        }
    go false t =
        let none = no_unit after stop in
        no_goes
        (no_next after
        (record {
          starts = none.starts;
          dash = ap (λ (t : List ℕ). byte t 0 == sign "-") (sym same) ∙ ap (λ (b : ℕ). b == sign "-") (byte_before part rest 0 some) ∙ t;
        })
        none.digit part rest same some is)
