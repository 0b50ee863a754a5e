-- A token of raw text is the token that it was, before what is written behind it, and at the end of a text.
use Rattle.std.proofs.Common.{◌≡◌, ℕ, Bool, true, false, not, ◌&&◌, ◌||◌, if◌then◌else◌, List, [], ◌∷◌, ◌++◌, Some, refl, sym, ◌∙◌, ap, subst, arith, ◌-◌, length}
use Rattle.std.specs.Prelude.{◌==◌, bytes_eq}
use Rattle.std.proofs.lemmas.Bool.Decides.{nat_tests}
use Rattle.sw_convert_written.specs.Escapes.{ends_unclosed}
use Rattle.sw_convert_tokens.specs.Written.{is_stop}
use Rattle.sw_text_scan.specs.declared.signs.TheConstants.{LINE_FEED, END, CARRIAGE_RETURN}
use Rattle.sw_text_scan.specs.Bytes.{sign, byte, is_white, is_digit, starts_plainly}
use Rattle.sw_text_scan.specs.Words.{is_u}
use Rattle.sw_text_scan.proofs.Bounds.{and_left, and_right}
use Rattle.sw_parse_terminals.specs.declared.lexeme.Lexeme.{Lexeme}
use Rattle.sw_parse_lexemes.specs.declared.sort.Sort.{Sort}
use Rattle.sw_parse_lexemes.specs.declared.sort.Sort.TheVariants as sorts
use Rattle.sw_parse_lexemes.specs.Ahead.{sort_at}
use Rattle.sw_parse_lexemes.specs.Classes.{is_name}
use Rattle.sw_parse_table.specs.declared.source.Source.{Source}
use Rattle.sw_parse_table.specs.Sources.{lexeme_at, bytes_at}
use Rattle.sw_convert_spelling.proofs.MovedRuns.{first_byte}
use Rattle.sw_convert_spelling.proofs.Choices.{left_no, both, right_no}
use Rattle.sw_convert_written.specs.Expressions.{is_url}
use Rattle.sw_convert_tokens.specs.Values.{WasRead}
use Rattle.sw_convert_texts.specs.RawKinds.{sign_text, is_some, sign_stays, goes_on, name_stays, escape_stays, is_colour, is_digits, is_number_text, is_percent, number_stays, told_by, calls_url, is_at, at_stays, token_stays}
use Rattle.sw_convert_texts.specs.Urls.{is_unbroken}
use Rattle.sw_convert_texts.proofs.RawWords.{url_raw, range_raw, at_name_raw}
use Rattle.sw_convert_texts.proofs.LexemePairs.{plains_in}
use Rattle.sw_convert_texts.proofs.RawNames.{RawToken, name_raw}
use Rattle.sw_convert_texts.proofs.RawSigns.{sign_raw}
use Rattle.sw_convert_texts.proofs.RawLiterals.{text_as, string_raw, number_raw, colour_raw, other_raw}

some_as : (text own : List ℕ) → own ≡ text → is_some text ≡ true → is_some own ≡ true
some_as text own e some = ap is_some e ∙ some

told_raw : (sort : Sort) (text behind : List ℕ) → (sort ≡ sorts.Url → is_unbroken text ≡ true → RawToken sorts.Url text)
    → (sort ≡ sorts.Range → RawToken sorts.Range text) → is_some text ≡ true → is_at sort ≡ false → told_by sort text behind ≡ true
    → RawToken sort text
told_raw sorts.Url text behind url range some at e = url refl e
told_raw sorts.Range text behind url range some at e = range refl
told_raw sorts.Quoted text behind url range some at e =
    string_raw sorts.Quoted text (record { unnamed = refl; unat = refl; unhex = refl; unequal = refl; leaves = refl; literal = refl }) e
told_raw sorts.Unnamed text behind url range some at e =
    string_raw sorts.Unnamed text (record { unnamed = refl; unat = refl; unhex = refl; unequal = refl; leaves = refl; literal = refl }) e
told_raw sorts.Digits text behind url range some at e =
    number_raw sorts.Digits text behind (record { unnamed = refl; unat = refl; unhex = refl; unequal = refl; leaves = refl; literal = refl })
    (λ after f. f) some e
told_raw sorts.Number text behind url range some at e =
    number_raw sorts.Number text behind (record { unnamed = refl; unat = refl; unhex = refl; unequal = refl; leaves = refl; literal = refl })
    (λ after f. f) some e
told_raw sorts.Hex text behind url range some at e = colour_raw text behind some e
told_raw sorts.Other text behind url range some at e = other_raw text e
told_raw sort text behind url range some at e =
    let same = text_as text (sign_text sort) (and_left (bytes_eq text (sign_text sort)) _ e) in
    subst (RawToken sort) same (sign_raw sort (some_as text (sign_text sort) same some))

pub raw_token : (source : Source) → WasRead source → (k : ℕ) (lexeme : Lexeme) → lexeme_at source k ≡ Some lexeme
    → (behind : List ℕ) → token_stays (sort_at (plains_in source) lexeme.token) (bytes_at source k) behind ≡ true
    → RawToken (sort_at (plains_in source) lexeme.token) (bytes_at source k)
raw_token source was k lexeme there behind e = go (is_name sort) refl (and_right (is_some text) _ e)
  where
    sort : Sort
    sort = sort_at (plains_in source) lexeme.token

    text : List ℕ
    text = bytes_at source k

    other : (t : Bool) → is_at sort ≡ t → (if t then at_stays text behind else told_by sort text behind) ≡ true → RawToken sort text
    other true a f = at_name_raw source was k lexeme there a
    other false a f =
        told_raw sort text behind (λ is. url_raw source was k lexeme there is) (λ is. range_raw source was k lexeme there is)
        (and_left (is_some text) _ e) a f

    go : (t : Bool) → is_name sort ≡ t
        → (if t then name_stays text (byte behind 0) || calls_url text behind else (if is_at sort then at_stays text behind else told_by sort text behind)) ≡ true
        → RawToken sort text
    go true n f = name_raw source was k lexeme there n
    go false n f = other (is_at sort) refl f

-- ---- at the end of a text

-- a `;`, a space, or the comment before it
abbrev pub is_end : ℕ → Bool
is_end b = (b == sign ";") || ((b == sign " ") || (b == sign "/"))

end_goes : (b : ℕ) → is_end b ≡ true → goes_on b ≡ false
end_goes b e = grind (arith, nat_tests)

-- none is open where a text ends with it
end_escape : (t : Bool) (b : ℕ) → (not t || not ((END == END) || is_white END)) ≡ true → (not t || not ((b == END) || is_white b)) ≡ true
end_escape false b e = refl
end_escape true b e = absurd (let wrong : false ≡ true = e in cc)

end_name : (text : List ℕ) (b : ℕ) → is_end b ≡ true → name_stays text END ≡ true → name_stays text b ≡ true
end_name text b e f =
    both (escape_stays text b) _ (end_escape (ends_unclosed text) b (and_left (escape_stays text END) _ f))
    (both (not (goes_on b)) _ (ap not (end_goes b e))
    (both (not ((byte text (length text - 1) == CARRIAGE_RETURN) && (b == LINE_FEED))) _
    (ap not (right_no (byte text (length text - 1) == CARRIAGE_RETURN) _ (feed b e)))
    (both (not ((b == sign "+") && ((length text == 1) && is_u (byte text 0)))) _ (ap not (left_no (b == sign "+") _ (plus b e)))
    (ap not (left_no (b == sign "(") (is_url text) (paren b e))))))
  where
    feed : (b : ℕ) → is_end b ≡ true → (b == LINE_FEED) ≡ false
    feed b e = grind (arith, nat_tests)

    plus : (b : ℕ) → is_end b ≡ true → (b == sign "+") ≡ false
    plus b e = grind (arith, nat_tests)

    paren : (b : ℕ) → is_end b ≡ true → (b == sign "(") ≡ false
    paren b e = grind (arith, nat_tests)

no_equals : (b : ℕ) → is_end b ≡ true → not (b == sign "=") ≡ true
no_equals b e = grind (arith, nat_tests)

-- before the end of the bytes, as at the end of a statement
end_sign : (sort : Sort) (b : ℕ) → is_end b ≡ true → sign_stays sort END ≡ true → sign_stays sort b ≡ true
end_sign sorts.Dot b e f = go b e
  where
    go : (b : ℕ) → is_end b ≡ true → not (is_digit b || (b == sign ".")) ≡ true
    go b e = grind (arith, nat_tests)
end_sign sorts.Hash b e f = go b e
  where
    go : (b : ℕ) → is_end b ≡ true → not (b == sign "{") ≡ true
    go b e = grind (arith, nat_tests)
end_sign sorts.Minus b e f = go b e
  where
    go : (b : ℕ) → is_end b ≡ true → not (starts_plainly b || ((b == sign "-") || (b == sign "\\"))) ≡ true
    go b e = grind (arith, nat_tests)
end_sign sorts.Slash b e f = absurd (let wrong : false ≡ true = f in cc)
end_sign sorts.Exclamation b e f = no_equals b e
end_sign sorts.Equals b e f = no_equals b e
end_sign sorts.Less b e f = no_equals b e
end_sign sorts.Greater b e f = no_equals b e
end_sign _ b e f = refl

end_number : (text : List ℕ) (b : ℕ) (rest : List ℕ) → is_end b ≡ true → number_stays text [] ≡ true
    → number_stays text (b ∷ rest) ≡ true
end_number text b rest e f = go (is_digits text) f
  where
    dark : (b : ℕ) → is_end b ≡ true → not (goes_on b || ((b == sign "%") || (b == sign "."))) ≡ true
    dark b e = grind (arith, nat_tests)

    stop : (b : ℕ) → is_end b ≡ true → is_stop b ≡ true
    stop b e = grind (arith, nat_tests)

    go : (t : Bool)
        → (if t then not (goes_on (byte [] 0) || ((byte [] 0 == sign "%") || (byte [] 0 == sign "."))) else (is_percent text || (is_number_text text && true))) ≡ true
        → (if t then not (goes_on (byte (b ∷ rest) 0) || ((byte (b ∷ rest) 0 == sign "%") || (byte (b ∷ rest) 0 == sign ".")))
        else (is_percent text || (is_number_text text && is_stop b))) ≡ true
    go true f = ap (λ (c : ℕ). not (goes_on c || ((c == sign "%") || (c == sign ".")))) (first_byte b rest) ∙ dark b e
    go false f = by (is_percent text) f
      where
        by : (u : Bool) → (u || (is_number_text text && true)) ≡ true → (u || (is_number_text text && is_stop b)) ≡ true
        by true g = refl
        by false g = both (is_number_text text) _ (and_left (is_number_text text) _ g) (stop b e)

end_stop : (b : ℕ) → is_end b ≡ true → is_stop b ≡ true
end_stop b e = grind (arith, nat_tests)

end_at : (text : List ℕ) (b : ℕ) (rest : List ℕ) → is_end b ≡ true → at_stays text [] ≡ true → at_stays text (b ∷ rest) ≡ true
end_at text b rest e f = both (not (ends_unclosed text)) _ (and_left (not (ends_unclosed text)) _ f) (end_stop b e)

end_told : (sort : Sort) (text : List ℕ) (b : ℕ) (rest : List ℕ) → is_end b ≡ true → told_by sort text [] ≡ true
    → told_by sort text (b ∷ rest) ≡ true
unfolding byte
end_told sorts.Url text b rest e f = f
end_told sorts.Range text b rest e f = end_stop b e
end_told sorts.Quoted text b rest e f = f
end_told sorts.Unnamed text b rest e f = f
end_told sorts.Digits text b rest e f = end_number text b rest e f
end_told sorts.Number text b rest e f = end_number text b rest e f
end_told sorts.Hex text b rest e f =
    both (is_colour text) _ (and_left (is_colour text) _ f) (ap not (ap goes_on (first_byte b rest) ∙ end_goes b e))
end_told sorts.Other text b rest e f = f
end_told sort text b rest e f =
    both (bytes_eq text (sign_text sort)) _ (and_left (bytes_eq text (sign_text sort)) _ f)
    (ap (sign_stays sort) (first_byte b rest) ∙ end_sign sort b e (and_right (bytes_eq text (sign_text sort)) _ f))

first_or : (x y : Bool) → x ≡ true → (x || y) ≡ true
first_or true y f = refl
first_or false y f = absurd (cc)

first_of : (x : Bool) → (x || false) ≡ true → x ≡ true
first_of true f = refl
first_of false f = absurd (cc)

end_stays : (sort : Sort) (text : List ℕ) (b : ℕ) (rest : List ℕ) → is_end b ≡ true → token_stays sort text [] ≡ true
    → token_stays sort text (b ∷ rest) ≡ true
unfolding byte
end_stays sort text b rest e f =
    both (is_some text) _ (and_left (is_some text) _ f) (go (is_name sort) (is_at sort) (and_right (is_some text) _ f))
  where
    go : (t u : Bool)
        → (if t then name_stays text (byte [] 0) || calls_url text [] else (if u then at_stays text [] else told_by sort text [])) ≡ true
        → (if t then name_stays text (byte (b ∷ rest) 0) || calls_url text (b ∷ rest)
        else (if u then at_stays text (b ∷ rest) else told_by sort text (b ∷ rest))) ≡ true
    go true u f =
        first_or (name_stays text (byte (b ∷ rest) 0)) _
        (ap (name_stays text) (first_byte b rest) ∙ end_name text b e (first_of (name_stays text END) f))
    go false true f = end_at text b rest e f
    go false false f = end_told sort text b rest e f

-- it is told by the first byte alone
same_told : (sort : Sort) (text : List ℕ) (b : ℕ) (xs ys : List ℕ) → told_by sort text (b ∷ xs) ≡ true
    → told_by sort text (b ∷ ys) ≡ true
unfolding byte
same_told sorts.Url text b xs ys f = f
same_told sorts.Range text b xs ys f = f
same_told sorts.Quoted text b xs ys f = f
same_told sorts.Unnamed text b xs ys f = f
same_told sorts.Digits text b xs ys f = f
same_told sorts.Number text b xs ys f = f
same_told sorts.Hex text b xs ys f = f
same_told sorts.Other text b xs ys f = f
same_told sort text b xs ys f = f

each : (x u y v : Bool) → u ≡ x → (y ≡ true → v ≡ true) → (x || y) ≡ true → (u || v) ≡ true
each true u y v e f g = first_or u v e
each false u y v e f g = second_or u v (f g)
  where
    second_or : (x y : Bool) → y ≡ true → (x || y) ≡ true
    second_or true y h = refl
    second_or false y h = h

-- what stands behind an `(` is there with more behind it
calls_more : (text : List ℕ) (b : ℕ) (behind after : List ℕ) → calls_url text (b ∷ behind) ≡ true
    → calls_url text (b ∷ (behind ++ after)) ≡ true
calls_more text b [] after f = absurd (let wrong : false ≡ true = f in cc)
calls_more text b (c ∷ behind) after f = f

same_stays : (sort : Sort) (text : List ℕ) (b : ℕ) (xs ys : List ℕ)
    → (calls_url text (b ∷ xs) ≡ true → calls_url text (b ∷ ys) ≡ true) → token_stays sort text (b ∷ xs) ≡ true
    → token_stays sort text (b ∷ ys) ≡ true
same_stays sort text b xs ys calls f =
    both (is_some text) _ (and_left (is_some text) _ f) (go (is_name sort) (is_at sort) (and_right (is_some text) _ f))
  where
    go : (t u : Bool)
        → (if t then name_stays text (byte (b ∷ xs) 0) || calls_url text (b ∷ xs)
        else (if u then at_stays text (b ∷ xs) else told_by sort text (b ∷ xs))) ≡ true
        → (if t then name_stays text (byte (b ∷ ys) 0) || calls_url text (b ∷ ys)
        else (if u then at_stays text (b ∷ ys) else told_by sort text (b ∷ ys))) ≡ true
    go true u f =
        each (name_stays text (byte (b ∷ xs) 0)) (name_stays text (byte (b ∷ ys) 0)) (calls_url text (b ∷ xs))
        (calls_url text (b ∷ ys)) (ap (name_stays text) (first_byte b ys ∙ sym (first_byte b xs))) calls f
    go false true f = f
    go false false f = same_told sort text b xs ys f

-- what stands behind it in the text, or what stands behind the text
pub stays_behind : (sort : Sort) (text behind after : List ℕ) → is_end (byte after 0) ≡ true → token_stays sort text behind ≡ true
    → token_stays sort text (behind ++ after) ≡ true
stays_behind sort text [] [] e f = f
stays_behind sort text [] (b ∷ after) e f = end_stays sort text b after (ap is_end (sym (first_byte b after)) ∙ e) f
stays_behind sort text (b ∷ behind) after e f = same_stays sort text b behind (behind ++ after) (calls_more text b behind after) f
