-- Numbers of a sheet that was read: their bytes, with a sign before them or none.
use Rattle.std.proofs.Common.{◌≡◌, ◌<◌, ℕ, zero, suc, ◌+◌, Bool, true, false, not, ◌&&◌, ◌||◌, if◌then◌else◌, List, [], ◌∷◌, ◌++◌, length, Option, Some, refl, sym, ◌∙◌, ap, subst, arith}
use Rattle.std.specs.Prelude.{◌==◌, slice_get, unwrap_or, codes}
use Rattle.std.proofs.lemmas.Bool.Decides.{nat_tests}
use Rattle.sw_text_scan.specs.Bytes.{sign, byte, is_digit}
use Rattle.sw_text_scan.specs.Words.{is_plus_or_minus as pm_byte, begins_number, unit_start, unit_end}
use Rattle.sw_text_scan.proofs.Bounds.{if_true, if_false, and_left, and_right, not_true}
use Rattle.sw_tokens.specs.declared.token.TokenKind.{TokenKind}
use Rattle.sw_tokens.specs.declared.token.TokenKind.TheVariants as kinds
use Rattle.sw_tokens.specs.Ends.{opens}
use Rattle.sw_tokens.specs.Pieces.{sign_of}
use Rattle.sw_tree.specs.declared.expr.Number.{Number}
use Rattle.sw_parse_grammar.specs.Grammar.{member}
use Rattle.sw_parse_terminals.specs.declared.lexeme.Lexeme.{Lexeme}
use Rattle.sw_parse_terminals.specs.declared.terminal.Terminal.{Terminal}
use Rattle.sw_parse_terminals.specs.declared.terminal.Terminal.TheVariants as terminals
use Rattle.sw_parse_terminals.specs.Numbers.{number_of, just}
use Rattle.sw_parse_lexemes.specs.declared.sort.Sort.{Sort}
use Rattle.sw_parse_lexemes.specs.declared.sort.Sort.TheVariants as sorts
use Rattle.sw_parse_lexemes.specs.declared.plain.Plain.{Plain}
use Rattle.sw_parse_lexemes.specs.declared.state.State.{State}
use Rattle.sw_parse_lexemes.specs.Ahead.{sort_in, sort_at, spaced_at, is_direct, number_direct}
use Rattle.sw_parse_lexemes.specs.Classes.{is_number, is_comment}
use Rattle.sw_parse_lexemes.specs.Names.{is_raw, is_apart, continues}
use Rattle.sw_parse_lexemes.specs.Signs.{ends_operand, is_text, plus_signs, minus_signs, names_rule}
use Rattle.sw_parse_lexemes.specs.Sorts.{sort_of}
use Rattle.sw_parse_lexemes.specs.Terminals.{terminal_of}
use Rattle.sw_parse_lexemes.specs.Lexemes.{lexeme_of, lexemes_of}
use Rattle.sw_parse_lexemes.specs.Laws.{EachBehind}
use Rattle.sw_parse_lexemes.specs.Plains.{plains_of}
use Rattle.sw_parse_lexemes.proofs.Knowing.{Placed, of_text}
use Rattle.sw_parse_table.specs.declared.source.Source.{Source}
use Rattle.sw_parse_table.specs.Sources.{bytes, bytes_at, bytes_between}
use Rattle.sw_parse_table.specs.Numerals.{sign_length, unit_from, numeral}
use Rattle.sw_convert_spelling.proofs.MovedRuns as moved
use Rattle.sw_convert_written.specs.Names.{number_text}
use Rattle.sw_convert_written.proofs.Unrolled as unrolled
use Rattle.sw_convert_passing.specs.Kinds.{is_plus_or_minus}
use Rattle.sw_convert_passing.specs.Standing.{is_number_sign}
use Rattle.sw_convert_again.specs.Tokens.{Old}
use Rattle.sw_convert_again.specs.Spells.{OldNumber, unsigned, signed, number_tokens}
use Rattle.sw_convert_tokens.specs.Values.{WasRead}
use Rattle.sw_convert_tokens.specs.Numbers.{NumbersAreWritten}
use Rattle.sw_convert_tokens.specs.Written.{AsValue, WrittenAs}
use Rattle.sw_convert_tokens.proofs.OriginChoices.{fits}
use Rattle.sw_convert_tokens.proofs.Olds.{old_token, lexeme_plain}
use Rattle.sw_convert_tokens.proofs.NumberPieces.{is_signed, number_in, sign_in, OldUnit, old_unit}
use Rattle.sw_convert_tokens.proofs.NumeralsBack.{IsSmall, numeral_small, numeral_parts}
use Rattle.sw_convert_tokens.proofs.Numbers.{numeric_opens, number_text_written}
use Rattle.sw_convert_tokens.proofs.Adjoining.{adjoined}
use Rattle.sw_convert_tokens.proofs.Words.{kind_of_number, kind_of_sign}
use Rattle.sw_convert_tokens.proofs.Ranges.{own_bytes}
use Rattle.sw_convert_tokens.proofs.Origins.{told_fits}

-- ---- the sign of a number stands directly before it

module _ (state : State) (plains : List Plain) (at : ℕ) where
  record Direct (terminal : Terminal) : Type 0 where
    direct : is_number_sign terminal ≡ true → number_direct plains (at + 1) ≡ true

  other : (terminal : Terminal) → is_number_sign terminal ≡ false → Direct terminal
  other terminal e = record { direct = λ f. absurd (let wrong : true ≡ false = sym f ∙ e in cc) }

  either : (b : Bool) (x y : Terminal) → (b ≡ true → Direct x) → (b ≡ false → Direct y) → Direct (if b then x else y)
  either true x y f g = f refl
  either false x y f g = g refl

  plus_direct : sort_at plains at ≡ sorts.Plus → Direct (terminal_of state plains at)
  unfolding terminal_of
  plus_direct e = rw (e, terminal_of)
      (either (is_text state.mode) _ _
      (λ t. either (plus_signs state plains at && not (is_raw state.mode)) terminals.Sign terminals.Raw
      (λ s. record { direct = λ f. and_left (number_direct plains (at + 1)) _ (and_left (plus_signs state plains at) _ s) })
      (λ s. other terminals.Raw refl))
      (λ t. either (plus_signs state plains at) terminals.Sign _
      (λ s. record { direct = λ f. and_left (number_direct plains (at + 1)) _ s })
      (λ s. either (ends_operand state.before) terminals.Plus terminals.PrefixPlus (λ o. other terminals.Plus refl)
      (λ o. other terminals.PrefixPlus refl))))

  minus_direct : sort_at plains at ≡ sorts.Minus → Direct (terminal_of state plains at)
  unfolding terminal_of
  minus_direct e = rw (e, terminal_of)
      (either (continues state plains at) terminals.Part _ (λ c. other terminals.Part refl)
      (λ c. either (is_text state.mode) _ _
      (λ t. either (names_rule state plains at && is_direct plains (at + 1) sorts.OpenInsert) terminals.WordMinus _
      (λ r. other terminals.WordMinus refl)
      (λ r. either (minus_signs state plains at && not (is_raw state.mode)) terminals.Sign terminals.Raw
      (λ s. record { direct = λ f. and_left (number_direct plains (at + 1)) _ (and_left (minus_signs state plains at) _ s) })
      (λ s. other terminals.Raw refl)))
      (λ t. either (is_direct plains (at + 1) sorts.OpenInsert) _ _
      (λ i. either (is_apart state plains at) terminals.Other terminals.WordMinus (λ a. other terminals.Other refl)
      (λ a. other terminals.WordMinus refl))
      (λ i. either (minus_signs state plains at) terminals.Sign _
      (λ s. record { direct = λ f. and_left (number_direct plains (at + 1)) _ s })
      (λ s. either (ends_operand state.before) terminals.Minus terminals.PrefixMinus (λ o. other terminals.Minus refl)
      (λ o. other terminals.PrefixMinus refl))))))

  is_sign : (terminal : Terminal) → is_number_sign terminal ≡ true → terminal ≡ terminals.Sign
  is_sign terminals.Sign e = refl
  is_sign _ e = absurd (cc)

  sign_direct : is_number_sign (terminal_of state plains at) ≡ true → number_direct plains (at + 1) ≡ true
  sign_direct e = go (sort_at plains at) refl
      (ap (λ (t : Terminal). fits t (sort_at plains at)) (sym (is_sign (terminal_of state plains at) e)) ∙ told_fits state plains at)
    where
      go : (sort : Sort) → sort_at plains at ≡ sort → is_plus_or_minus sort ≡ true → number_direct plains (at + 1) ≡ true
      go sorts.Plus s p = (plus_direct s).direct e
      go sorts.Minus s p = (minus_direct s).direct e
      go _ s p = absurd (cc)

-- of each lexeme of a text
record SignDirect (plains : List Plain) (before : Terminal) (lexeme : Lexeme) : Type 0 where
  direct : is_number_sign lexeme.terminal ≡ true → number_direct plains (lexeme.token + 1) ≡ true

signs_direct : (plains : List Plain) (at : ℕ) (plain : Plain) (old new : State) → Placed plains at old new
    → SignDirect plains new.before (lexeme_of plain at new.commented (terminal_of new plains at))
signs_direct plains at plain old new there = record { direct = sign_direct new plains at }

each_at : (Law : Terminal → Lexeme → Type 0) (before : Terminal) (lexemes : List Lexeme) (n : ℕ) (a : Lexeme)
    → EachBehind Law before lexemes → slice_get lexemes n ≡ Some a → (b : Terminal) × Law b a
each_at Law before [] n a each got = absurd (cc)
each_at Law before (x ∷ xs) zero a (l, each) got =
    (before, subst (Law before) (ap (λ (o : Option Lexeme). unwrap_or o x) got) l)
each_at Law before (x ∷ xs) (suc n) a (l, each) got = each_at Law x.terminal xs n a each got

pub only_sign : (terminal : Terminal) → member (number_of terminal) (just terminals.Sign) ≡ true → terminal ≡ terminals.Sign
only_sign terminals.Sign m = refl
only_sign _ m = absurd (cc)

pub only_number : (terminal : Terminal) → member (number_of terminal) (just terminals.Number) ≡ true
    → terminal ≡ terminals.Number
only_number terminals.Number m = refl
only_number _ m = absurd (cc)

signed_opens : (kind : TokenKind) → is_signed kind ≡ true → opens kind ≡ false
signed_opens kinds.Plus k = refl
signed_opens kinds.Minus k = refl
signed_opens _ k = absurd (cc)

number_code : (sort : Sort) → is_number sort ≡ true → is_comment sort ≡ false
number_code sorts.Digits n = refl
number_code sorts.Number n = refl
number_code _ n = absurd (cc)

-- ---- bytes

-- a number has no sign before its digits
number_unsigned : (w old : List ℕ) → 0 < length w → begins_number (w ++ old) 0 ≡ true → sign_length w ≡ 0
unfolding byte
number_unsigned [] old some e = absurd (omega (arith, some))
number_unsigned (b ∷ w) old some e = if_false ((b == 43) || (b == 45)) 1 0 (no_sign b (first (is_digit b) (b == sign ".") _ e))
  where
    first : (a c d : Bool) → (a || (c && d)) ≡ true → (a || c) ≡ true
    first true c d e = refl
    first false true d e = refl
    first false false d e = e

    no_sign : (b : ℕ) → (is_digit b || (b == sign ".")) ≡ true → ((b == 43) || (b == 45)) ≡ false
    no_sign b e = grind (arith, nat_tests)

-- its unit, without a sign before it and with one
unit_alone : (w : List ℕ) (it : OldUnit w) → sign_length w ≡ 0
    → numeral w ≡ record { value = (numeral w).value; unit = it.unit }
unit_alone w it none =
    let parts = numeral_parts it.front it.unit
    (ap (λ (t : List ℕ). unit_from t) (sym it.split) ∙ ap (unit_start w) none ∙ it.start) in
    let is : numeral w ≡ record { value = _; unit = it.unit } = ap numeral it.split ∙ parts in
    is ∙ ap (λ v. record { value = v; unit = it.unit }) (sym (ap (λ (n : Number). n.value) is))

unit_signed : (b : ℕ) (w : List ℕ) (it : OldUnit w) → pm_byte b ≡ true
    → numeral (b ∷ w) ≡ record { value = (numeral (b ∷ w)).value; unit = it.unit }
unit_signed b w it sign_is =
    let parts = numeral_parts (b ∷ it.front) it.unit
    (ap (unit_start (b ∷ (it.front ++ it.unit))) (if_true ((b == 43) || (b == 45)) 1 0 sign_is)
    ∙ moved.start_moved (b ∷ []) (it.front ++ it.unit) 0
    ∙ ap (λ (k : ℕ). 1 + k) (ap (λ (t : List ℕ). unit_start t 0) (sym it.split) ∙ it.start)
    ∙ (let z : 1 + length it.front ≡ length (b ∷ it.front) = omega arith in z)) in
    let is : numeral (b ∷ w) ≡ record { value = _; unit = it.unit } =
    ap (λ (t : List ℕ). numeral (b ∷ t)) it.split ∙ parts in
    is ∙ ap (λ v. record { value = v; unit = it.unit }) (sym (ap (λ (n : Number). n.value) is))

-- one byte
one_is : (w : List ℕ) → length w ≡ 1 → (b : ℕ) × (w ≡ b ∷ [])
one_is [] e = absurd (omega (arith, e))
one_is (b ∷ []) e = (b, refl)
one_is (b ∷ c ∷ w) e = absurd (omega (arith, e))

-- ---- numbers that were read

pub record OldDigits (source : Source) (k : ℕ) : Type 0 where
  pub text : List ℕ
  pub is : bytes_at source k ≡ text
  pub unit : OldUnit text
  pub unsigned : sign_length text ≡ 0

module _ (source : Source) (was : WasRead source) where
  pub old_digits : (k : ℕ) → Old source k (just terminals.Number) → OldDigits source k
  old_digits k old =
      let it = old_token source was k old.lexeme old.there in
      let kind = kind_of_number it.kind it.text
      (ap (λ (t : Terminal). fits t (sort_of it.kind it.text)) (sym (only_number old.lexeme.terminal old.kind)) ∙ it.fit) in
      let own = it.own (numeric_opens it.kind kind) in
      let here = number_in it.kind (length it.text) own.change kind (it.text ++ own.after) own.inside own.before own.is in
      record {
        text = it.text;
        is = own.bytes_are;
        unit = old_unit it.text own.after here.ends;
        unsigned = number_unsigned it.text own.after own.some here.begins;
      }

  pub record OldSignByte (k : ℕ) : Type 0 where
    pub byte_is : ℕ
    pub is : bytes_at source k ≡ byte_is ∷ []
    pub sign_is : pm_byte byte_is ≡ true

  pub old_sign : (k : ℕ) → Old source k (just terminals.Sign) → OldSignByte k
  unfolding byte
  old_sign k old =
      let it = old_token source was k old.lexeme old.there in
      let kind = kind_of_sign it.kind it.text
      (ap (λ (t : Terminal). fits t (sort_of it.kind it.text)) (sym (only_sign old.lexeme.terminal old.kind)) ∙ it.fit) in
      let own = it.own (signed_opens it.kind kind) in
      let here = sign_in it.kind (length it.text) own.change kind (it.text ++ own.after) own.inside own.before own.is in
      let (b, e) = one_is it.text here.one in
      record {
        byte_is = b;
        is = own.bytes_are ∙ e;
        sign_is = ap (λ (t : List ℕ). pm_byte (byte (t ++ own.after) 0)) (sym e) ∙ here.is;
      }

  -- a `+` has its own sort
  pub plus_sort : (k : ℕ) (old : Old source k (just terminals.Sign)) → bytes_at source k ≡ codes "+"
      → sort_at (plains_of (bytes source) source.tokens.now.list) old.lexeme.token ≡ sorts.Plus
  unfolding byte
  plus_sort k old e =
      let it = old_token source was k old.lexeme old.there in
      let kind = kind_of_sign it.kind it.text
      (ap (λ (t : Terminal). fits t (sort_of it.kind it.text)) (sym (only_sign old.lexeme.terminal old.kind)) ∙ it.fit) in
      let own = it.own (signed_opens it.kind kind) in
      let here = sign_in it.kind (length it.text) own.change kind (it.text ++ own.after) own.inside own.before own.is in
      let plus : kinds.Plus ≡ it.kind =
      ap (λ (t : List ℕ). sign_of (byte (t ++ own.after) 0)) (sym e ∙ own.bytes_are) ∙ here.kind_is in
      it.sort ∙ ap (λ (x : TokenKind). sort_of x it.text) (sym plus)

  -- a sign and its number
  pub signed_bytes : (k : ℕ) → Old source k (just terminals.Sign) → Old source (suc k) (just terminals.Number)
      → bytes_between source k (suc (suc k)) ≡ bytes_at source k ++ bytes_at source (suc k)
  unfolding lexemes_of sort_at
  signed_bytes k one two =
      let plains = plains_of (bytes source) source.tokens.now.list in
      let a = one.lexeme in
      let is = only_sign a.terminal one.kind in
      let law = each_at (SignDirect plains) terminals.Semicolon source.lexemes.now k a
      (subst (EachBehind (SignDirect plains) terminals.Semicolon) (sym was.lexemes)
      (of_text SignDirect signs_direct (bytes source) source.tokens.now.list))
      one.there in
      let direct = law.1.direct (ap is_number_sign is) in
      let counted = and_right (not (spaced_at plains (a.token + 1))) (is_number (sort_at plains (a.token + 1))) direct in
      let plain = lexeme_plain source was k a one.there in
      let signed_sort : is_plus_or_minus (sort_at plains a.token) ≡ true =
      ap (λ o. is_plus_or_minus (sort_in o)) plain.got
      ∙ ap (λ (t : Terminal). fits t plain.plain.sort) (sym is) ∙ plain.fit in
      adjoined source was k a two.lexeme one.there two.there
      (not_true (spaced_at plains (a.token + 1)) (and_left (not (spaced_at plains (a.token + 1))) _ direct))
      (number_code (sort_at plains (a.token + 1)) counted)
      (λ kind text e. signed_opens kind (kind_of_sign kind text (ap is_plus_or_minus e ∙ signed_sort)))
      (λ kind text e. numeric_opens kind (kind_of_number kind text (ap is_number e ∙ counted)))

  -- where the unit is known, all is
  from_unit : (number : Number) (text unit old : List ℕ) → numeral text ≡ number
      → numeral text ≡ record { value = (numeral text).value; unit = unit }
      → unit_end (unit ++ old) 0 ≡ length unit
      → WrittenAs (AsValue false) (number_text number) (number_tokens number)
  from_unit number text unit old e is ends =
      let same : number.unit ≡ unit = ap (λ (n : Number). n.unit) (sym e ∙ is) in
      number_text_written number old (subst (λ (n : Number). IsSmall n.value) e (numeral_small text))
      (ap (λ (t : List ℕ). unit_end (t ++ old) 0) same ∙ ends ∙ ap length (sym same))

  pub number_written : (i j : ℕ) (number : Number) → numeral (bytes_between source i j) ≡ number → OldNumber source i j
      → WrittenAs (AsValue false) (number_text number) (number_tokens number)
  number_written i j number e (unsigned old) =
      let it = old_digits i old in
      from_unit number it.text it.unit.unit it.unit.old
      (ap numeral (sym it.is ∙ sym (own_bytes source i)) ∙ e)
      (unit_alone it.text it.unit it.unsigned) it.unit.ends
  number_written i j number e (signed one two) =
      let sign_there = old_sign i one in
      let it = old_digits (suc i) two in
      let text : bytes_between source i (suc (suc i)) ≡ sign_there.byte_is ∷ it.text =
      signed_bytes i one two ∙ ap (λ (t : List ℕ). t ++ bytes_at source (suc i)) sign_there.is
      ∙ ap (λ (t : List ℕ). sign_there.byte_is ∷ t) it.is in
      from_unit number (sign_there.byte_is ∷ it.text) it.unit.unit it.unit.old
      (ap numeral (sym text) ∙ e)
      (unit_signed sign_there.byte_is it.text it.unit sign_there.sign_is) it.unit.ends

pub numbers_written : NumbersAreWritten
numbers_written source i j number span was e old =
    subst (λ (t : List ℕ). WrittenAs (AsValue false) t (number_tokens number)) (sym (unrolled.number_is number))
    (number_written source was i j number e old)
