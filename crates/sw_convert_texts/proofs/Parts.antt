-- A part of a word that was read, a name, a `-` or digits: it is the same token where it is written.
use Rattle.std.proofs.Common.{◌≡◌, ◌⊎◌, ◌≤◌, ℕ, suc, ◌+◌, Bool, true, false, ◌&&◌, ◌||◌, List, [], ◌∷◌, ◌++◌, length, drop, Some, inl, inr, refl, sym, ◌∙◌, ap, subst, arith, append_assoc, length-append, lit<}
use Rattle.std.specs.Prelude.{◌==◌, codes}
use Rattle.std.specs.List.{list_all}
use Rattle.std.proofs.Math.Seq.{drop-append_seam}
use Rattle.sw_text_scan.specs.declared.runs.Class.TheVariants as classes
use Rattle.sw_text_scan.specs.Bytes.{sign, byte, is_white, is_digit, is_name_byte, starts_plainly}
use Rattle.sw_text_scan.specs.Runs.{next, escape_end, begins_name, goes_in_unit}
use Rattle.sw_text_scan.specs.Words.{is_exponent, is_plus_or_minus}
use Rattle.sw_text_scan.proofs.Bounds.{if_false, or_left, or_right, run_stop}
use Rattle.sw_text_locality.proofs.Lexical.{equal}
use Rattle.sw_text_locality.proofs.Written.{byte_before}
use Rattle.sw_tokens.specs.declared.token.TokenKind.{TokenKind}
use Rattle.sw_tokens.specs.declared.token.TokenKind.TheVariants as kinds
use Rattle.sw_tokens.specs.Pieces.{made}
use Rattle.sw_parse_lexemes.specs.Sorts.{sort_of}
use Rattle.sw_parse_terminals.specs.declared.lexeme.Lexeme.{Lexeme}
use Rattle.sw_parse_table.specs.declared.source.Source.{Source}
use Rattle.sw_parse_table.specs.Sources.{bytes, lexeme_at, from_in, to_in, from_at, to_at, bytes_at}
use Rattle.sw_convert_spelling.proofs.MovedRuns as moved
use Rattle.sw_convert_spelling.proofs.NumeralTokens.{second_byte}
use Rattle.sw_convert_spelling.proofs.Again as texts
use Rattle.sw_convert_spelling.proofs.Choices.{is_name, neither, left_no}
use Rattle.sw_convert_passing.specs.Kinds.{is_part}
use Rattle.sw_convert_tokens.specs.Values.{WasRead}
use Rattle.sw_convert_tokens.proofs.CountedBytes.{start_two}
use Rattle.sw_convert_tokens.proofs.NamePieces.{name_in, name_run, name_keep}
use Rattle.sw_convert_tokens.proofs.Names.{start_by, begun_by}
use Rattle.sw_convert_tokens.proofs.Signs.{sign_token}
use Rattle.sw_convert_tokens.proofs.Stops.{no_escape}
use Rattle.sw_convert_tokens.proofs.Units.{dark_ends}
use Rattle.sw_convert_tokens.proofs.Words.{name_behind}
use Rattle.sw_convert_texts.proofs.NameTokens.{Settled, nothing_settled, settled_token, settled_black, old_stop}
use Rattle.sw_convert_texts.proofs.DigitTokens.{digit_white, digit_token, digit_black, digits_ended}
use Rattle.sw_convert_texts.proofs.UnitTokens.{no_unit}
use Rattle.sw_convert_texts.proofs.UnitRuns.{NoPower, is_power, HasUnit, cut_unit, Unmixed, unit_token, unit_ended}
use Rattle.sw_convert_texts.proofs.UnitParts.{unit_goes}
use Rattle.sw_convert_texts.proofs.OldPieces.{old_piece, Whole, whole_bytes}
use Rattle.sw_convert_texts.proofs.OldRows.{PartThere, part_closed}
use Rattle.sw_convert_texts.proofs.PartKinds.{is_sign, part_kind, part_comment, IsDash, IsDigits, sign_told}
use Rattle.sw_convert_texts.proofs.PartTokens.{name_bars, dash_bars, name_undigit, NextIs, rejoins, Goes, PartToken, no_next, no_goes, dash_goes, digits_goes, minus_fits}

pub one_byte : (xs : List ℕ) → length xs ≡ 1 → (b : ℕ) × (xs ≡ b ∷ [])
one_byte [] e = absurd (omega (arith, e))
one_byte (b ∷ []) e = (b, refl)
one_byte (b ∷ c ∷ xs) e = absurd (omega (arith, e))

-- no unit goes on there
pub unit_stop : (after : List ℕ) → is_name_byte (byte after 0) ≡ false → (byte after 0 == sign "\\") ≡ false
    → next classes.Unit after 0 ≤ 0
unit_stop after name slash =
    let stays = if_false (goes_in_unit after 0) (0 + 1) (escape_end after 0) (no_more_unit (byte after 0) _ name)
    ∙ no_escape after slash in omega (arith, stays)
  where
    no_more_unit : (b : ℕ) (x : Bool) → is_name_byte b ≡ false
        → (starts_plainly b || (is_digit b || ((b == sign "-") && x))) ≡ false
    no_more_unit b x e =
        let more = or_right (starts_plainly b) (is_digit b || (b == sign "-")) e in
        neither (starts_plainly b) _ (or_left (starts_plainly b) (is_digit b || (b == sign "-")) e)
        (neither (is_digit b) _ (or_left (is_digit b) (b == sign "-") more)
        (left_no (b == sign "-") x (or_right (is_digit b) (b == sign "-") more)))

-- what settles a name goes on with no number
settled_unmixed : (power : Bool) (text after : List ℕ) → Settled text after → Unmixed power text after
settled_unmixed power text after settled =
    let quiet = settled.quiet in record {
      ends = dark_ends text after quiet.name quiet.slash quiet.feed settled.closed;
      digit = settled.still.digit;
      sharp = λ p. left_no (is_plus_or_minus (byte after 0)) _ quiet.sign_before;
    }

-- no digits stood behind an `e` and a sign
old_sharp : (unit after : List ℕ) → NoPower (unit ++ after) → is_power unit ≡ true
    → (is_plus_or_minus (byte after 0) && is_digit (byte after 1)) ≡ false
old_sharp [] after none e = absurd (cc)
old_sharp (b ∷ []) after none e =
    ap (λ (x : ℕ). is_plus_or_minus x && is_digit (byte after 1)) (sym (second_byte b after))
    ∙ ap (λ (x : ℕ). is_plus_or_minus (byte (b ∷ after) 1) && is_digit x) (sym (moved.at_byte (b ∷ []) after 1))
    ∙ right_of (is_exponent (byte (b ∷ after) 0)) _ (ap is_exponent (moved.first_byte b after) ∙ e) none.signed
  where
    right_of : (x y : Bool) → x ≡ true → (x && y) ≡ false → y ≡ false
    right_of true y f g = g
    right_of false y f g = absurd (cc)
old_sharp (b ∷ c ∷ unit) after none e = absurd (cc)

module _ (source : Source) (k : ℕ) (lexeme : Lexeme) (there : lexeme_at source k ≡ Some lexeme) (kind : TokenKind)
    (text : List ℕ) (fits : is_part (sort_of kind text) ≡ true) (it : Whole source lexeme kind text) where
  end_there : to_at source k ≡ length (it.front ++ text)
  unfolding to_at
  end_there = ap (to_in source) there ∙ it.to ∙ sym (length-append it.front text)

  pub name_token : is_name kind ≡ true
      → (token : PartToken source k text) × ((token.kind ≡ kind) × (token.named ≡ true))
  name_token n =
      let named = name_in kind (length text) it.change n (text ++ it.after) it.inside it.before it.is in
      let run = old_stop text it.after [] kind it.change n it.some named (nothing_settled text) in
      let bars = name_bars text it.after 0 run in
      let digit = name_undigit text it.after 0 run in
      let keep = name_keep kind (length text) it.change n (text ++ it.after) named in (
        record {
          kind = kind;
          seen = part_comment (sort_of kind text) fits;
          closed = part_closed kind text fits;
          some = it.some;
          other = name_behind kind n;
          black = settled_black text it.after [] kind it.change n it.some named (nothing_settled text);
          token = λ after settled inside code before calm.
              settled_token text it.after after kind it.change n it.some named settled inside before code calm
              ∙ ap (made kind (length text)) keep;
          front = it.front ++ text;
          after = it.after;
          whole = it.whole ∙ sym (append_assoc it.front text it.after);
          ends = end_there;
          long = false;
          power = false;
          bare = λ e. absurd (cc);
          sharp = λ e. absurd (cc);
          more = λ next rest same some is. no_goes (no_next it.after bars digit next rest same some is);
          named = true;
          alone = λ e next rest same some is. no_next it.after bars digit next rest same some is;
        },
        (refl, refl),
      )

  minus_token : (g : is_sign kind ≡ true) → IsDash kind (length text) it.change g (text ++ it.after)
      → (token : PartToken source k text) × (is_part (sort_of token.kind text) ≡ true)
  minus_token g dash =
      let (b, is) = one_byte text dash.ends in
      let first : b ≡ sign "-" =
      sym (moved.first_byte b it.after) ∙ ap (λ (xs : List ℕ). byte (xs ++ it.after) 0) (sym is) ∙ dash.dash in
      let bars = dash_bars b it.after first (ap (λ (xs : List ℕ). begins_name (xs ++ it.after) 0) (sym is) ∙ dash.starts) in
      subst (λ (xs : List ℕ). (token : PartToken source k xs) × (is_part (sort_of token.kind xs) ≡ true))
      (sym (is ∙ ap (λ (c : ℕ). c ∷ []) first)) (
        record {
          kind = kinds.Minus;
          seen = refl;
          closed = refl;
          some = lit< tt;
          other = refl;
          black = ap is_white (moved.first_byte (sign "-") []);
          token = λ after settled inside code before calm.
              sign_token kinds.Minus after inside before refl code calm (minus_fits after settled.quiet);
          front = it.front ++ text;
          after = it.after;
          whole = it.whole ∙ sym (append_assoc it.front text it.after);
          ends = end_there;
          long = false;
          power = false;
          bare = λ e. absurd (cc);
          sharp = λ e. absurd (cc);
          more = dash_goes it.after bars;
          named = false;
          alone = λ e. absurd (cc);
        },
        refl,
      )

  digits_token : (g : is_sign kind ≡ true) → IsDigits kind (length text) it.change g (text ++ it.after) → list_all is_digit text ≡ true
      → (token : PartToken source k text) × (is_part (sort_of token.kind text) ≡ true)
  digits_token g digits all =
      let ended = digits_ended text it.after all digits.ends in (
        record {
          kind = kinds.Digits;
          seen = refl;
          closed = refl;
          some = it.some;
          other = refl;
          black = digit_black text [] all it.some (nothing_settled text).still;
          token = λ after settled inside code before calm. digit_token text after all it.some settled.still inside before code calm;
          front = it.front ++ text;
          after = it.after;
          whole = it.whole ∙ sym (append_assoc it.front text it.after);
          ends = end_there;
          long = false;
          power = false;
          bare = λ e. absurd (cc);
          sharp = λ e. absurd (cc);
          more = digits_goes text it.after all it.some ended;
          named = false;
          alone = λ e. absurd (cc);
        },
        refl,
      )

  unit_of_token : HasUnit text it.after → is_digit (byte text 0) ≡ true
      → (token : PartToken source k text) × (is_part (sort_of token.kind text) ≡ true)
  unit_of_token unit first =
      let stop = unit_ended text it.after unit in (
        record {
          kind = kinds.Digits;
          seen = refl;
          closed = refl;
          some = it.some;
          other = refl;
          black = digit_white (byte text 0) first;
          token = λ after settled inside code before calm.
              unit_token text it.after after unit first it.some (settled_unmixed (is_power unit.unit) text after settled)
              inside before code calm;
          front = it.front ++ text;
          after = it.after;
          whole = it.whole ∙ sym (append_assoc it.front text it.after);
          ends = end_there;
          long = true;
          power = is_power unit.unit;
          bare = λ e. stop;
          sharp = old_sharp unit.unit it.after unit.power;
          more = unit_goes text it.after unit first it.some stop (old_sharp unit.unit it.after unit.power);
          named = false;
          alone = λ e. absurd (cc);
        },
        refl,
      )

  -- it begins with a digit
  first_digit : (g : is_sign kind ≡ true) → IsDigits kind (length text) it.change g (text ++ it.after)
      → is_digit (byte text 0) ≡ true
  first_digit g digits =
      ap is_digit (sym (byte_before text it.after 0 it.some)) ∙ go (is_digit (byte (text ++ it.after) 0)) refl digits.begins
    where
      go : (t : Bool) → is_digit (byte (text ++ it.after) 0) ≡ t
          → (t || ((byte (text ++ it.after) 0 == sign ".") && is_digit (byte (text ++ it.after) 1))) ≡ true
          → is_digit (byte (text ++ it.after) 0) ≡ true
      go true t e = t
      go false t e =
          let two = start_two (text ++ it.after) t e in
          let stays = if_false (is_digit (byte (text ++ it.after) 0)) (0 + 1) 0 t in
          let none = run_stop (text ++ it.after) classes.Digit 0 (omega (arith, stays)) in
          let whole = digits.whole in absurd (omega (arith, two, none, whole))

  pub part_token : (token : PartToken source k text) × (is_part (sort_of token.kind text) ≡ true)
  part_token = go (part_kind kind text fits)
    where
      by : (g : is_sign kind ≡ true) → IsDigits kind (length text) it.change g (text ++ it.after)
          → (list_all is_digit text ≡ true) ⊎ HasUnit text it.after
          → (token : PartToken source k text) × (is_part (sort_of token.kind text) ≡ true)
      by g digits (inl all) = digits_token g digits all
      by g digits (inr unit) = unit_of_token unit (first_digit g digits)

      told : (g : is_sign kind ≡ true)
          → IsDigits kind (length text) it.change g (text ++ it.after) ⊎ IsDash kind (length text) it.change g (text ++ it.after)
          → (token : PartToken source k text) × (is_part (sort_of token.kind text) ≡ true)
      told g (inl digits) = by g digits (cut_unit text it.after digits.whole digits.percent digits.ends)
      told g (inr dash) = minus_token g dash

      go : (is_name kind ≡ true) ⊎ (is_sign kind ≡ true)
          → (token : PartToken source k text) × (is_part (sort_of token.kind text) ≡ true)
      go (inl n) = let (token, (same, alone)) = name_token n in (token, ap (λ (k : TokenKind). is_part (sort_of k text)) same ∙ fits)
      go (inr g) = told g (sign_told kind (length text) it.change g (text ++ it.after) it.inside it.before it.is)

  -- what it is behind another
  pub part_next : NextIs text it.after
  part_next = go (part_kind kind text fits)
    where
      told : (g : is_sign kind ≡ true)
          → IsDigits kind (length text) it.change g (text ++ it.after) ⊎ IsDash kind (length text) it.change g (text ++ it.after)
          → NextIs text it.after
      told g (inl digits) = inr (inr (first_digit g digits))
      told g (inr dash) = inr (inl (sym (byte_before text it.after 0 it.some) ∙ dash.dash))

      go : (is_name kind ≡ true) ⊎ (is_sign kind ≡ true) → NextIs text it.after
      go (inl n) =
          let named = name_in kind (length text) it.change n (text ++ it.after) it.inside it.before it.is in
          let begun = (name_run kind (length text) it.change n (text ++ it.after) named).0 in
          inl (begun, ap (λ (b : ℕ). b == sign ".") (sym (byte_before text it.after 0 it.some)) ∙ (start_by (byte (text ++ it.after) 0) (begun_by (text ++ it.after) begun)).dot)
      go (inr g) = told g (sign_told kind (length text) it.change g (text ++ it.after) it.inside it.before it.is)

-- ---- a `-` by itself

-- its text
pub dash_text : (source : Source) (lexeme : Lexeme) (text : List ℕ) → Whole source lexeme kinds.Minus text → text ≡ codes "-"
dash_text source lexeme text it =
    go (sign_told kinds.Minus (length text) it.change refl (text ++ it.after) it.inside it.before it.is)
  where
    go : IsDigits kinds.Minus (length text) it.change refl (text ++ it.after)
        ⊎ IsDash kinds.Minus (length text) it.change refl (text ++ it.after)
        → text ≡ codes "-"
    go (inl digits) = let other = digits.other in absurd (let no : true ≡ false = other in cc)
    go (inr dash) =
        let (b, is) = one_byte text dash.ends in
        is ∙ ap (λ (c : ℕ). c ∷ [])
        (sym (moved.first_byte b it.after) ∙ ap (λ (xs : List ℕ). byte (xs ++ it.after) 0) (sym is) ∙ dash.dash)

-- ---- one part directly behind another

module _ (source : Source) (was : WasRead source) where
  -- what stood where the part ends
  same_rest : (k : ℕ) (front after : List ℕ) → bytes source ≡ front ++ after → to_at source k ≡ length front
      → (lexeme : Lexeme) (kind : TokenKind) (text : List ℕ) → from_at source (suc k) ≡ to_at source k
      → lexeme_at source (suc k) ≡ Some lexeme → (it : Whole source lexeme kind text) → text ++ it.after ≡ after
  unfolding from_at
  same_rest k front after whole ends lexeme kind text stuck there it =
      let place : length it.front ≡ length front = sym it.from ∙ sym (ap (from_in source) there) ∙ stuck ∙ ends in
      sym (drop-append_seam it.front (text ++ it.after))
      ∙ ap (drop (length it.front)) (sym it.whole ∙ whole)
      ∙ ap (λ (m : ℕ). drop m (front ++ after)) place
      ∙ drop-append_seam front after

  -- the part that stood directly behind another
  pub goes_next : (k : ℕ) (text : List ℕ) (token : PartToken source k text) (next : PartThere source was k)
      → Goes token.long token.power token.kind text (bytes_at source (suc k))
  goes_next k text token next =
      let piece_there = old_piece source was (suc k) next.lexeme next.there in
      let fits = ap is_part (sym piece_there.sort) ∙ next.fits in
      let it = piece_there.own (part_closed piece_there.kind piece_there.text fits) in
      let same = same_rest k token.front token.after token.whole token.ends next.lexeme piece_there.kind piece_there.text next.sticks.from next.there it in
      let own = whole_bytes source (suc k) next.lexeme piece_there.kind piece_there.text next.there it in
      subst (Goes token.long token.power token.kind text) (sym own)
      (token.more piece_there.text it.after same it.some
      (part_next source (suc k) next.lexeme next.there piece_there.kind piece_there.text fits it))

  -- where a `-` stands directly behind a unit, and another part behind that, no unit goes on there
  pub far_apart : (k : ℕ) (text : List ℕ) (token : PartToken source k text) (near : PartThere source was k)
      (far : PartThere source was (suc k)) (rest : List ℕ)
      → rejoins token.long token.power (bytes_at source (suc k)) (bytes_at source (suc (suc k)) ++ rest) ≡ false
  far_apart k text token near far rest =
      let piece_near = old_piece source was (suc k) near.lexeme near.there in
      let fits_near = ap is_part (sym piece_near.sort) ∙ near.fits in
      let it = piece_near.own (part_closed piece_near.kind piece_near.text fits_near) in
      let own = whole_bytes source (suc k) near.lexeme piece_near.kind piece_near.text near.there it in
      let same = same_rest k token.front token.after token.whole token.ends near.lexeme piece_near.kind piece_near.text near.sticks.from near.there it in
      let piece_far = old_piece source was (suc (suc k)) far.lexeme far.there in
      let fits_far = ap is_part (sym piece_far.sort) ∙ far.fits in
      let its = piece_far.own (part_closed piece_far.kind piece_far.text fits_far) in
      let own_far = whole_bytes source (suc (suc k)) far.lexeme piece_far.kind piece_far.text far.there its in
      let same_far = same_rest (suc k) (it.front ++ piece_near.text) it.after
      (it.whole ∙ sym (append_assoc it.front piece_near.text it.after))
      (end_there source (suc k) near.lexeme near.there piece_near.kind piece_near.text fits_near it)
      far.lexeme piece_far.kind piece_far.text far.sticks.from far.there its in
      let ended = token.bare in
      let sharp = token.sharp in
      by token.long (byte (bytes_at source (suc k)) 0 == sign "-") (length (bytes_at source (suc k)) == 1)
      (starts_plainly (byte (bytes_at source (suc (suc k)) ++ rest) 0) || (token.power && is_digit (byte (bytes_at source (suc (suc k)) ++ rest) 0)))
      (λ long dash one.
      let none = no_unit token.after (ended long) in
      let goes = none.goes in
      let first : byte token.after 0 ≡ sign "-" =
      ap (λ (t : List ℕ). byte t 0) (sym same) ∙ byte_before piece_near.text it.after 0 it.some ∙ ap (λ (t : List ℕ). byte t 0) (sym own)
      ∙ equal (byte (bytes_at source (suc k)) 0) (sign "-") dash in
      let size : length piece_near.text ≡ 1 =
      ap length (sym own) ∙ equal (length (bytes_at source (suc k))) 1 one in
      let second : byte token.after 1 ≡ byte (bytes_at source (suc (suc k)) ++ rest) 0 =
      ap (λ (t : List ℕ). byte t 1) (sym same)
      ∙ ap (byte (piece_near.text ++ it.after)) (let z : 1 ≡ length piece_near.text + 0 = omega (arith, size) in z)
      ∙ texts.behind piece_near.text [] it.after 0
      ∙ ap (λ (t : List ℕ). byte t 0) (sym same_far)
      ∙ byte_before piece_far.text its.after 0 its.some
      ∙ sym (byte_before piece_far.text rest 0 its.some)
      ∙ ap (λ (t : List ℕ). byte (t ++ rest) 0) (sym own_far) in
      neither (starts_plainly (byte (bytes_at source (suc (suc k)) ++ rest) 0)) _
      (ap starts_plainly (sym second)
      ∙ sym (ap (λ (b : ℕ). starts_plainly b || (is_digit b || ((b == sign "-") && starts_plainly (byte token.after 1)))) first)
      ∙ goes)
      (powered token.power (is_digit (byte (bytes_at source (suc (suc k)) ++ rest) 0))
      (λ p. ap is_digit (sym second) ∙ ap (λ (b : ℕ). is_plus_or_minus b && is_digit (byte token.after 1)) (sym first) ∙ sharp p)))
    where
      powered : (a b : Bool) → (a ≡ true → b ≡ false) → (a && b) ≡ false
      powered true b f = f refl
      powered false b f = refl

      by : (a b c d : Bool) → (a ≡ true → b ≡ true → c ≡ true → d ≡ false) → (a && (b && (c && d))) ≡ false
      by true true true d f = f refl refl refl
      by true true false d f = refl
      by true false c d f = refl
      by false b c d f = refl

  -- none stands behind a name
  pub none_next : (k : ℕ) (text : List ℕ) (token : PartToken source k text) → token.named ≡ true → PartThere source was k
      → ⊥
  none_next k text token named next =
      let piece_there = old_piece source was (suc k) next.lexeme next.there in
      let fits = ap is_part (sym piece_there.sort) ∙ next.fits in
      let it = piece_there.own (part_closed piece_there.kind piece_there.text fits) in
      let same = same_rest k token.front token.after token.whole token.ends next.lexeme piece_there.kind piece_there.text next.sticks.from next.there it in
      let own = whole_bytes source (suc k) next.lexeme piece_there.kind piece_there.text next.there it in
      token.alone named piece_there.text it.after same it.some
      (part_next source (suc k) next.lexeme next.there piece_there.kind piece_there.text fits it)
