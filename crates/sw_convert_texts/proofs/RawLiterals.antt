-- Strings and numbers of raw text, and signs that are no other token, are the tokens that they were.
use Rattle.std.proofs.Common.{◌≡◌, ◌⊎◌, ◌<◌, ℕ, ◌+◌, inl, inr, append-nil, Bool, true, false, not, ◌&&◌, ◌||◌, if◌then◌else◌, List, [], ◌∷◌, ◌++◌, length, refl, sym, ◌∙◌, ap, subst, arith, zero, suc, take}
use Rattle.std.specs.Prelude.{◌==◌, codes, bytes_eq, slice_range}
use Rattle.std.specs.List.{list_all}
use Rattle.std.proofs.lemmas.Bool.Decides.{nat_tests}
use Rattle.std.proofs.lemmas.Slice.Eq.{bytes_eq-Decides}
use Rattle.sw_convert_texts.specs.RuleTexts.{is_literal}
use Rattle.sw_convert_texts.proofs.RawHeads.{is_neutral}
use Rattle.sw_tokens.specs.declared.token.TokenKind.{TokenKind}
use Rattle.sw_convert_tokens.proofs.NumberPieces.{is_numeric}
use Rattle.sw_text_scan.specs.declared.runs.Class.TheVariants as classes
use Rattle.sw_text_scan.specs.Bytes.{sign, byte, is_white, is_digit, is_quote, is_name_byte, starts_plainly, is_hex_digit}
use Rattle.sw_text_scan.specs.Runs.{escape_end, begins_name}
use Rattle.sw_text_scan.specs.Words.{is_u, begins_number, unit_start, unit_end}
use Rattle.sw_text_scan.proofs.Bounds.{if_true, if_false, and_left, and_right, or_left, or_right, not_true, run_forward}
use Rattle.sw_tokens.specs.declared.pieces.Before.{Before}
use Rattle.sw_tokens.specs.declared.pieces.Before.TheVariants as befores
use Rattle.sw_tokens.specs.declared.pieces.Change.TheVariants as changes
use Rattle.sw_tokens.specs.declared.skips.Inside.TheVariants as insides
use Rattle.sw_tokens.specs.declared.token.TokenKind.TheVariants as kinds
use Rattle.sw_tokens.specs.Decoded.{decoded}
use Rattle.sw_tokens.specs.Pieces.{made, piece, quote_piece, code_piece, word_piece, name_piece, sign_piece, opens_url}
use Rattle.sw_parse_lexemes.specs.declared.sort.Sort.{Sort}
use Rattle.sw_parse_lexemes.specs.declared.sort.Sort.TheVariants as sorts
use Rattle.sw_parse_lexemes.specs.Classes.{is_name, is_number, is_comment}
use Rattle.sw_parse_terminals.specs.Urls.{has_namespace}
use Rattle.sw_parse_lexemes.specs.Sorts.{quoted_sort, sort_of}
use Rattle.sw_convert_spelling.specs.Neighbours.{joins_sign}
use Rattle.sw_convert_spelling.proofs.MovedRuns.{first_byte}
use Rattle.sw_convert_spelling.proofs.Choices.{left_no, right_no, both}
use Rattle.sw_convert_written.specs.Escapes.{ends_unclosed}
use Rattle.sw_convert_passing.specs.Kinds.{is_raw}
use Rattle.sw_convert_heads_passing.specs.RawTexts as told
use Rattle.sw_convert_tokens.specs.Written.{Follows, is_calm, is_stop, stops, begins_white}
use Rattle.sw_convert_tokens.proofs.Counted.{is_counted}
use Rattle.sw_convert_tokens.proofs.Counted as numbers
use Rattle.sw_convert_tokens.proofs.Hashes.{hex_token}
use Rattle.sw_convert_tokens.proofs.Numbers.{numeric_opens, numeric_seen, numeric_sort, numeric_behind, calm_hash}
use Rattle.sw_convert_tokens.proofs.Leaves.{no_other}
use Rattle.sw_convert_tokens.proofs.Signs.{token_by}
use Rattle.sw_convert_texts.specs.RawKinds.{is_some, is_other, goes_on, is_colour, string_end, is_string, is_digits, is_unescaped, is_number_text, ends_number, is_percent, number_stays, told_by, is_at, is_equals, is_hex, stands_behind, sort_behind}
use Rattle.sw_convert_texts.proofs.DigitTokens.{digit_token}
use Rattle.sw_convert_texts.proofs.UnitTokens.{HasUnit, cut_unit, unit_black, unit_token}
use Rattle.sw_convert_texts.proofs.Parts.{unit_stop}
use Rattle.sw_convert_texts.proofs.RawNames.{RawToken, unescaped}
use Rattle.sw_convert_texts.proofs.RawPercents.{percent_token, percent_black}
use Rattle.sw_convert_texts.proofs.RawSigns.{fits, calm_by, stays_is, black_byte}

-- a text by its bytes
pub text_as : (text own : List ℕ) → bytes_eq text own ≡ true → own ≡ text
text_as text own e = sym ((bytes_eq-Decides text own).0 e)

-- ---- strings

pub quote_first : (b : ℕ) → is_quote b ≡ true → (is_white b ≡ false) × (is_u b ≡ false) × ((b == sign "}") ≡ false)
quote_first b e = (grind (arith, nat_tests), grind (arith, nat_tests), grind (arith, nat_tests))

-- a string by itself
pub string_alone : (text : List ℕ) → is_string text ≡ true
    → piece (text ++ []) insides.Sheet befores.White 0
    ≡ made (kinds.Quoted (decoded (slice_range text 1 (string_end text)))) (length text) changes.Keep
unfolding code_piece quote_piece
string_alone text e =
    let q = byte text 0 in
    let rest = and_right (is_quote q) _ e in
    ap (λ (t : List ℕ). piece t insides.Sheet befores.White 0) (append-nil text)
    ∙ if_false (is_white q) _ _ (quote_first q (and_left (is_quote q) _ e)).0
    ∙ if_true (is_quote q) _ _ (and_left (is_quote q) _ e)
    ∙ if_true (byte text (string_end text) == q) _ _ (and_left (byte text (string_end text) == q) _ rest)
    ∙ ap (λ (n : ℕ). made (kinds.Quoted (decoded (slice_range text 1 (string_end text)))) n changes.Keep)
    (equal (string_end text + 1) (length text) (and_right (byte text (string_end text) == q) _ rest))
  where
    equal : (a b : ℕ) → (a == b) ≡ true → a ≡ b
    equal a b e = grind (arith, nat_tests)

-- it has both quotes
pub string_long : (text : List ℕ) → is_string text ≡ true → 1 < length text
string_long text e =
    let forward = run_forward text (classes.SheetText (byte text 0)) 1 in
    let ends = equal (string_end text + 1) (length text)
    (and_right (byte text (string_end text) == byte text 0) _ (and_right (is_quote (byte text 0)) _ e)) in
    omega (arith, forward, ends)
  where
    equal : (a b : ℕ) → (a == b) ≡ true → a ≡ b
    equal a b e = grind (arith, nat_tests)

pub pick_raw : (t : Bool) → is_raw (if t then sorts.Quoted else sorts.Unnamed) ≡ true
pick_raw true = refl
pick_raw false = refl

-- a sort of neither a name nor a colour, behind which nothing of its own stands
pub record IsPlain (sort : Sort) : Type 0 where
  pub unnamed : is_name sort ≡ false
  pub unat : is_at sort ≡ false
  pub unhex : is_hex sort ≡ false
  pub unequal : is_equals sort ≡ false
  pub leaves : befores.Other ≡ sort_behind sort
  pub literal : is_literal sort ≡ true

pick_neutral : (t : Bool) → is_neutral (if t then sorts.Quoted else sorts.Unnamed) ≡ true
pick_neutral true = refl
pick_neutral false = refl

pick_literal : (t : Bool) → is_literal (if t then sorts.Quoted else sorts.Unnamed) ≡ true
pick_literal true = refl
pick_literal false = refl

-- no number in quotes
quoted_digits : (text : List ℕ) → is_quote (byte text 0) ≡ true → is_digits text ≡ false
quoted_digits text q = left_no (is_digit (byte text 0)) _ (go (byte text 0) q)
  where
    go : (b : ℕ) → is_quote b ≡ true → is_digit b ≡ false
    go b e = grind (arith, nat_tests)

pub pick_seen : (t : Bool) → is_comment (if t then sorts.Quoted else sorts.Unnamed) ≡ false
pick_seen true = refl
pick_seen false = refl

pub string_raw : (sort : Sort) (text : List ℕ) → IsPlain sort → is_string text ≡ true → RawToken sort text
string_raw sort [] plain e = absurd (let long = string_long [] e in omega (arith, long))
string_raw sort (b ∷ []) plain e = absurd (let long = string_long (b ∷ []) e in omega (arith, long))
string_raw sort (b ∷ c ∷ rest) plain e =
    let told_text = decoded (slice_range (b ∷ c ∷ rest) 1 (string_end (b ∷ c ∷ rest))) in
    let first = quote_first b (ap is_quote (sym (first_byte b (c ∷ rest))) ∙ and_left (is_quote (byte (b ∷ c ∷ rest) 0)) _ e) in
    record {
      kind = kinds.Quoted told_text;
      closed = refl;
      seen = pick_seen (has_namespace told_text);
      other = plain.leaves;
      some = omega arith;
      black = black_byte b (c ∷ rest) first.0;
      token = λ after stays before stands.
          token_by (kinds.Quoted told_text) b (c ∷ rest) after insides.Sheet before refl
          (calm_by before sort (b ∷ c ∷ rest) plain.unnamed plain.unhex plain.unequal stands) first.1 first.2
          (string_alone (b ∷ c ∷ rest) e) (ap not (no_other b ((c ∷ rest) ++ after) first.1));
      raw = λ mode around spaced rest more. told.raw_token (quoted_sort told_text) (pick_raw (has_namespace told_text)) more;
      told = inr (plain.literal, pick_literal (has_namespace told_text));
      digits = λ d.
          let none = right_no (is_number sort) _ (quoted_digits (b ∷ c ∷ rest) (and_left (is_quote (byte (b ∷ c ∷ rest) 0)) _ e)) in
          absurd (let wrong : true ≡ false = sym d ∙ none in cc);
      neutral = pick_neutral (has_namespace told_text);
    }

-- ---- digits, with a unit or without

digits_behind : (b : ℕ) → not (goes_on b || ((b == sign "%") || (b == sign "."))) ≡ true
    → (is_name_byte b ≡ false) × ((b == sign "\\") ≡ false) × ((b == sign "%") ≡ false) × ((b == sign ".") ≡ false)
digits_behind b e =
    let none = not_true _ e in
    let one = or_left (goes_on b) _ none in
    let two = or_right (goes_on b) _ none in (
      or_left (is_name_byte b) _ one,
      or_right (is_name_byte b) _ one,
      or_left (b == sign "%") _ two,
      or_right (b == sign "%") _ two,
    )

digits_here : (text after : List ℕ) → 0 < length text → is_digits text ≡ true
    → not (goes_on (byte after 0) || ((byte after 0 == sign "%") || (byte after 0 == sign "."))) ≡ true → (before : Before)
    → is_calm before ≡ true → piece (text ++ after) insides.Sheet before 0 ≡ made kinds.Digits (length text) changes.Keep
digits_here text after some own e before calm = go (cut_unit text (and_right (is_digit (byte text 0)) _ own))
  where
    no_digit : (b : ℕ) → is_name_byte b ≡ false → is_digit b ≡ false
    no_digit b n = grind (arith, nat_tests)

    no_start : (b : ℕ) → is_name_byte b ≡ false → starts_plainly b ≡ false
    no_start b n = grind (arith, nat_tests)

    go : (list_all is_digit text ≡ true) ⊎ HasUnit text
        → piece (text ++ after) insides.Sheet before 0 ≡ made kinds.Digits (length text) changes.Keep
    go (inl all) =
        let (name, slash, percent, point) = digits_behind (byte after 0) e in
        digit_token text after all some
        (record {
          digit = no_digit (byte after 0) name;
          unit = no_start (byte after 0) name;
          percent = percent;
          point = left_no (byte after 0 == sign ".") _ point;
        }) insides.Sheet before refl calm
    go (inr unit) =
        let (name, slash, percent, point) = digits_behind (byte after 0) e in
        unit_token text after unit (and_left (is_digit (byte text 0)) _ own) some (unit_stop after name slash) insides.Sheet before
        refl calm

some_long : (text : List ℕ) → is_some text ≡ true → 0 < length text
some_long [] e = absurd (cc)
some_long (b ∷ text) e = omega arith

-- what is told of a number by what stands behind it
digits_stay : (text after : List ℕ) → is_digits text ≡ true → number_stays text after ≡ true
    → not (goes_on (byte after 0) || ((byte after 0 == sign "%") || (byte after 0 == sign "."))) ≡ true
digits_stay text after d e =
    sym (if_true (is_digits text) (not (goes_on (byte after 0) || ((byte after 0 == sign "%") || (byte after 0 == sign ".")))) _ d) ∙ e

counted_stay : (text after : List ℕ) → is_digits text ≡ false → number_stays text after ≡ true
    → (is_percent text || (is_number_text text && ends_number after)) ≡ true
counted_stay text after d e = sym (if_false (is_digits text) _ (is_percent text || (is_number_text text && ends_number after)) d) ∙ e

-- of one without a `%`
plain_stay : (text after : List ℕ) → is_digits text ≡ false → is_percent text ≡ false → number_stays text after ≡ true
    → (is_number_text text && ends_number after) ≡ true
plain_stay text after d p e = sym (ap (λ (t : Bool). t || (is_number_text text && ends_number after)) p) ∙ counted_stay text after d e

taken_all : (f : ℕ → Bool) (n : ℕ) (xs : List ℕ) → list_all f xs ≡ true → list_all f (take n xs) ≡ true
taken_all f zero xs e = refl
taken_all f (suc n) [] e = refl
taken_all f (suc n) (x ∷ xs) e = both (f x) _ (and_left (f x) _ e) (taken_all f n xs (and_right (f x) _ e))

counted : (text : List ℕ) → is_number_text text ≡ true → is_counted text ≡ true
counted text e =
    let rest = and_right (begins_number text 0) _ e in
    both (begins_number text 0) _ (and_left (begins_number text 0) _ e)
    (both (unit_end text (unit_start text 0) == length text) _ (and_left (unit_end text (unit_start text 0) == length text) _ rest)
    (taken_all is_unescaped (unit_start text 0) text (and_right (unit_end text (unit_start text 0) == length text) _ rest)))

counted_follows : (text after : List ℕ) → is_number_text text ≡ true → ends_number after ≡ true → Follows text after
counted_follows text after e stop = record {
  stop = go after stop;
  closed = right_no (begins_white after) (ends_unclosed text)
      (unescaped text (and_right (unit_end text (unit_start text 0) == length text) _ (and_right (begins_number text 0) _ e)));
}
  where
    left : (a b : Bool) → a ≡ true → (a || b) ≡ true
    left true b e = refl
    left false b e = absurd (cc)

    go : (xs : List ℕ) → ends_number xs ≡ true → stops xs ≡ true
    go [] e = refl
    go (b ∷ xs) e = left (is_stop b) _ e

numeric_neutral : (kind : TokenKind) (text : List ℕ) → is_numeric kind ≡ true → is_neutral (sort_of kind text) ≡ true
numeric_neutral kinds.Digits text e = refl
numeric_neutral kinds.Number text e = refl
numeric_neutral _ text e = absurd (cc)

numeric_literal : (kind : TokenKind) (text : List ℕ) → is_numeric kind ≡ true → is_literal (sort_of kind text) ≡ true
numeric_literal kinds.Digits text e = refl
numeric_literal kinds.Number text e = refl
numeric_literal _ text e = absurd (cc)

-- by the sort, a number
pub number_raw : (sort : Sort) (text behind : List ℕ) → IsPlain sort
    → ((after : List ℕ) → told_by sort text after ≡ true → number_stays text after ≡ true)
    → is_some text ≡ true → number_stays text behind ≡ true → RawToken sort text
number_raw sort text behind plain same some e = go (is_digits text) refl
  where
    go : (t : Bool) → is_digits text ≡ t → RawToken sort text
    go true d = record {
      kind = kinds.Digits;
      closed = refl;
      seen = refl;
      other = plain.leaves;
      some = some_long text some;
      black = unit_black text (and_left (is_digit (byte text 0)) _ d);
      token = λ after stays before stands.
          digits_here text after (some_long text some) d
          (digits_stay text after d (same after (stays_is sort text after plain.unnamed plain.unat stays))) before
          (calm_by before sort text plain.unnamed plain.unhex plain.unequal stands);
      raw = λ mode around spaced rest more. told.raw_number sorts.Digits refl more;
      told = inr (plain.literal, refl);
      digits = λ e. refl;
      neutral = refl;
    }
    go false d = other (is_percent text) refl
      where
        other : (u : Bool) → is_percent text ≡ u → RawToken sort text
        other true p = record {
          kind = kinds.Number;
          closed = refl;
          seen = refl;
          other = plain.leaves;
          some = some_long text some;
          black = percent_black text p;
          token = λ after stays before stands.
              percent_token text after (some_long text some) p before
              (calm_by before sort text plain.unnamed plain.unhex plain.unequal stands);
          raw = λ mode around spaced rest more. told.raw_number sorts.Number refl more;
          told = inr (plain.literal, refl);
          digits = λ both_are. absurd
              (let wrong : true ≡ false = sym (and_right (is_number sort) _ both_are) ∙ d in cc);
          neutral = refl;
        }
        other false p =
            let told_text = and_left (is_number_text text) _ (plain_stay text behind d p e) in
            let counts = counted text told_text in record {
              kind = numbers.kind text counts;
              closed = numeric_opens (numbers.kind text counts) (numbers.numeric text counts);
              seen = numeric_seen (numbers.kind text counts) text (numbers.numeric text counts);
              other = numeric_behind (numbers.kind text counts) (numbers.numeric text counts) ∙ plain.leaves;
              some = some_long text some;
              black = numbers.black text counts;
              token = λ after stays before stands.
                  numbers.number_at text counts after
                  (counted_follows text after told_text
                  (and_right (is_number_text text) _ (plain_stay text after d p (same after (stays_is sort text after plain.unnamed plain.unat stays)))))
                  insides.Sheet before refl (calm_hash before (calm_by before sort text plain.unnamed plain.unhex plain.unequal stands));
              raw = λ mode around spaced rest more.
                  told.raw_number (sort_of (numbers.kind text counts) text)
                  (numeric_sort (numbers.kind text counts) text (numbers.numeric text counts)) more;
              told = inr (plain.literal, numeric_literal (numbers.kind text counts) text (numbers.numeric text counts));
              digits = λ both_are. absurd
                  (let wrong : true ≡ false = sym (and_right (is_number sort) _ both_are) ∙ d in cc);
              neutral = numeric_neutral (numbers.kind text counts) text (numbers.numeric text counts);
            }

-- ---- colours

pub colour_raw : (text behind : List ℕ) → is_some text ≡ true → (is_colour text && not (goes_on (byte behind 0))) ≡ true
    → RawToken sorts.Hex text
colour_raw text behind some e = record {
  kind = kinds.Hex;
  closed = refl;
  seen = refl;
  other = refl;
  some = some_long text some;
  black = first_black text some (and_left (list_all is_hex_digit text) _ (and_left (is_colour text) _ e));
  token = λ after stays before stands. by before stands after (stays_is sorts.Hex text after refl refl stays);
  raw = λ mode around spaced rest more. told.raw_token sorts.Hex refl more;
  told = inl refl;
  digits = λ e. absurd (let wrong : false ≡ true = e in cc);
  neutral = refl;
}
  where
    hex_black : (b : ℕ) → is_hex_digit b ≡ true → is_white b ≡ false
    hex_black b h = grind (arith, nat_tests)

    first_black : (xs : List ℕ) → is_some xs ≡ true → list_all is_hex_digit xs ≡ true → is_white (byte xs 0) ≡ false
    first_black [] s h = absurd (cc)
    first_black (b ∷ xs) s h = black_byte b xs (hex_black b (and_left (is_hex_digit b) _ h))

    by : (before : Before) → stands_behind before sorts.Hex text ≡ true → (after : List ℕ)
        → (is_colour text && not (goes_on (byte after 0))) ≡ true
        → piece (text ++ after) insides.Sheet before 0 ≡ made kinds.Hex (length text) changes.Keep
    by befores.Hash stands after f =
        let colour = and_left (is_colour text) _ f in
        let none = not_true (goes_on (byte after 0)) (and_right (is_colour text) _ f) in
        hex_token text after (and_left (list_all is_hex_digit text) _ colour) (and_right (list_all is_hex_digit text) _ colour)
        (or_left (is_name_byte (byte after 0)) _ none) (or_right (is_name_byte (byte after 0)) _ none) insides.Sheet refl
    by befores.White stands after f = absurd (let wrong : false ≡ true = stands in cc)
    by befores.Other stands after f = absurd (let wrong : false ≡ true = stands in cc)
    by befores.Dollar stands after f = absurd (let wrong : false ≡ true = stands in cc)

-- ---- signs that are no other token

alone_tilde : piece (codes "~" ++ []) insides.Sheet befores.White 0 ≡ made kinds.Other (length (codes "~")) changes.Keep
unfolding code_piece word_piece name_piece sign_piece opens_url byte begins_name escape_end
alone_tilde = refl

alone_bar : piece (codes "|" ++ []) insides.Sheet befores.White 0 ≡ made kinds.Other (length (codes "|")) changes.Keep
unfolding code_piece word_piece name_piece sign_piece opens_url byte begins_name escape_end
alone_bar = refl

alone_caret : piece (codes "^" ++ []) insides.Sheet befores.White 0 ≡ made kinds.Other (length (codes "^")) changes.Keep
unfolding code_piece word_piece name_piece sign_piece opens_url byte begins_name escape_end
alone_caret = refl

other_by : (b : ℕ) → is_u b ≡ false → (b == sign "}") ≡ false → is_white b ≡ false
    → piece ((b ∷ []) ++ []) insides.Sheet befores.White 0 ≡ made kinds.Other (length (b ∷ [])) changes.Keep
    → ((after : List ℕ) → joins_sign b after ≡ false) → RawToken sorts.Other (b ∷ [])
other_by b u brace white alone joins = record {
  kind = kinds.Other;
  closed = refl;
  seen = refl;
  other = refl;
  some = omega arith;
  black = black_byte b [] white;
  token = λ after stays before stands.
      token_by kinds.Other b [] after insides.Sheet before refl (calm_by before sorts.Other (b ∷ []) refl refl refl stands) u brace alone
      (fits b after u (joins after));
  raw = λ mode around spaced rest more. told.raw_token sorts.Other refl more;
  told = inl refl;
  digits = λ e. absurd (let wrong : false ≡ true = e in cc);
  neutral = refl;
}

pub other_raw : (text : List ℕ) → is_other text ≡ true → RawToken sorts.Other text
other_raw text e = go (bytes_eq text (codes "~")) refl (bytes_eq text (codes "|")) refl e
  where
    go : (t : Bool) → bytes_eq text (codes "~") ≡ t → (u : Bool) → bytes_eq text (codes "|") ≡ u
        → (t || (u || bytes_eq text (codes "^"))) ≡ true → RawToken sorts.Other text
    go true t u v f =
        subst (RawToken sorts.Other) (text_as text (codes "~") t) (other_by (sign "~") refl refl refl alone_tilde (λ after. refl))
    go false t true v f =
        subst (RawToken sorts.Other) (text_as text (codes "|") v) (other_by (sign "|") refl refl refl alone_bar (λ after. refl))
    go false t false v f =
        subst (RawToken sorts.Other) (text_as text (codes "^") f) (other_by (sign "^") refl refl refl alone_caret (λ after. refl))
