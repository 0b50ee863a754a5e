-- What the strings of a sheet of bytes stand for is of bytes.
use Rattle.std.proofs.Common.{◌≡◌, ◌<◌, ℕ, zero, suc, ◌+◌, ◌-◌, ◌/◌, ◌%◌, Bool, true, false, not, ◌&&◌, ◌||◌, if◌then◌else◌, List, [], ◌∷◌, ◌++◌, length, take, drop, Option, Some, None, refl, sym, ◌∙◌, ap, arith}
use Rattle.std.specs.Prelude.{◌==◌, nat_lt, slice_get, slice_range}
use Rattle.std.proofs.Math.Utf8.{encode}
use Rattle.std.proofs.lemmas.Bool.Decides.{nat_tests}
use Rattle.std.proofs.lemmas.List.Folds.{list_all-append}
use Rattle.sw_text_scan.specs.declared.signs.TheConstants.{END}
use Rattle.sw_text_scan.specs.Bytes.{sign, byte, is_break, is_hex_digit}
use Rattle.sw_text_scan.proofs.Bounds.{and_left, and_right, or_right}
use Rattle.sw_tokens.specs.declared.pieces.Piece.{Piece}
use Rattle.sw_tokens.specs.declared.token.Token.{Token}
use Rattle.sw_tokens.specs.declared.token.TokenKind.{TokenKind}
use Rattle.sw_tokens.specs.declared.token.TokenKind.TheVariants as kinds
use Rattle.sw_tokens.specs.Pieces.{sign_of}
use Rattle.sw_tokens.specs.Decoded.{replacement, is_surrogate, is_beyond, char_of, hex_value, told_at, told_end, decoded_from, decoded_rest, decoded}
use Rattle.sw_parse_terminals.specs.declared.lexeme.Lexeme.{Lexeme}
use Rattle.sw_parse_table.specs.declared.source.Source.{Source}
use Rattle.sw_parse_table.specs.Sources.{bytes, lexeme_at, token_of, decoded_by, decoded_in, decoded_at}
use Rattle.sw_convert_spelling.specs.Strings.{are_bytes}
use Rattle.sw_convert_tokens.specs.Values.{WasRead}
use Rattle.sw_convert_tokens.proofs.PieceCases.{is_plain, bare_plain, lone_plain, sign_plain, Cases, sign_of_is, number_has, piece_has, name_has}
use Rattle.sw_convert_tokens.proofs.Olds.{every_at, HasPiece, all_tokens}

-- ---- bytes

both : (a b : Bool) → a ≡ true → b ≡ true → (a && b) ≡ true
both true b e f = f
both false b e f = e

-- what isn't behind the end is a byte
byte_here : (bs : List ℕ) → are_bytes bs ≡ true → (i : ℕ) → (byte bs i == END) ≡ false → nat_lt (byte bs i) END ≡ true
unfolding byte
byte_here [] all i there = absurd (cc)
byte_here (b ∷ bs) all zero there = and_left (nat_lt b END) (are_bytes bs) all
byte_here (b ∷ bs) all (suc i) there = byte_here bs (and_right (nat_lt b END) (are_bytes bs) all) i there

byte_in : (bs : List ℕ) → are_bytes bs ≡ true → (i : ℕ) → i < length bs → nat_lt (byte bs i) END ≡ true
unfolding byte
byte_in [] all i within = absurd (omega (arith, within))
byte_in (b ∷ bs) all zero within = and_left (nat_lt b END) (are_bytes bs) all
byte_in (b ∷ bs) all (suc i) within =
    byte_in bs (and_right (nat_lt b END) (are_bytes bs) all) i (omega (arith, within))

two : (xs ys : List ℕ) → are_bytes xs ≡ true → are_bytes ys ≡ true → are_bytes (xs ++ ys) ≡ true
two xs ys e f = list_all-append (λ b. nat_lt b END) xs ys ∙ both (are_bytes xs) (are_bytes ys) e f

taken : (n : ℕ) (xs : List ℕ) → are_bytes xs ≡ true → are_bytes (take n xs) ≡ true
taken zero xs e = refl
taken (suc n) [] e = refl
taken (suc n) (x ∷ xs) e =
    both (nat_lt x END) _ (and_left (nat_lt x END) (are_bytes xs) e) (taken n xs (and_right (nat_lt x END) (are_bytes xs) e))

dropped : (n : ℕ) (xs : List ℕ) → are_bytes xs ≡ true → are_bytes (drop n xs) ≡ true
dropped zero xs e = e
dropped (suc n) [] e = refl
dropped (suc n) (x ∷ xs) e = dropped n xs (and_right (nat_lt x END) (are_bytes xs) e)

ranged : (xs : List ℕ) (i j : ℕ) → are_bytes xs ≡ true → are_bytes (slice_range xs i j) ≡ true
ranged xs i j e = taken (j - i) (drop i xs) (dropped i xs e)

-- ---- what is decoded

pick : (t : Bool) (x y : List ℕ) → (t ≡ true → are_bytes x ≡ true) → (t ≡ false → are_bytes y ≡ true)
    → are_bytes (if t then x else y) ≡ true
pick true x y e f = e refl
pick false x y e f = f refl

char_small : (value : ℕ) → char_of value < 1114112
char_small value = go ((value == 0) || (is_surrogate value || is_beyond value)) refl
  where
    go : (t : Bool) → ((value == 0) || (is_surrogate value || is_beyond value)) ≡ t
        → (if t then replacement else value) < 1114112
    go true e = omega arith
    go false e =
        let far : is_beyond value ≡ false = or_right (is_surrogate value) _ (or_right (value == 0) _ e) in
        grind (arith, nat_tests)

encoded : (c : ℕ) → c < 1114112 → are_bytes (encode c) ≡ true
unfolding encode
encoded c small =
    pick (nat_lt c 128) (c ∷ []) _ (λ t. one c (grind (arith, nat_tests)))
    (λ t. pick (nat_lt c 2048) _ _ (λ u. both _ _ (grind (arith, nat_tests)) (last c))
    (λ u. pick (nat_lt c 65536) _ _ (λ v. both _ _ (grind (arith, nat_tests)) (both _ _ (more (c / 64)) (last c)))
    (λ v. both _ _ (grind (arith, nat_tests)) (both _ _ (more (c / 4096)) (both _ _ (more (c / 64)) (last c))))))
  where
    one : (b : ℕ) → b < 256 → are_bytes (b ∷ []) ≡ true
    one b e = grind (arith, nat_tests)

    more : (b : ℕ) → nat_lt (128 + b % 64) END ≡ true
    more b = grind (arith, nat_tests)

    last : (b : ℕ) → are_bytes ((128 + b % 64) ∷ []) ≡ true
    last b = both _ true (more b) refl

told_bytes : (bs : List ℕ) → are_bytes bs ≡ true → (i : ℕ) → i < length bs → are_bytes (told_at bs i) ≡ true
told_bytes bs all i within =
    pick (not (byte bs i == sign "\\")) (byte bs i ∷ []) _ (λ t. both _ true (byte_in bs all i within) refl)
    (λ t. pick (is_hex_digit (byte bs (i + 1))) (encode (char_of (hex_value bs (i + 1)))) _
    (λ u. encoded (char_of (hex_value bs (i + 1))) (char_small (hex_value bs (i + 1))))
    (λ u. pick (is_break (byte bs (i + 1)) || (byte bs (i + 1) == END)) [] _ (λ v. refl)
    (λ v. both _ true (byte_here bs all (i + 1) (or_right (is_break (byte bs (i + 1))) _ v)) refl)))

decoded_bytes : (bs : List ℕ) → are_bytes bs ≡ true → are_bytes (decoded bs) ≡ true
unfolding decoded decoded_rest
decoded_bytes bs all = go (length bs - 0) 0
  where
    go : (n i : ℕ) → are_bytes (decoded_from bs n i) ≡ true
    go zero i = refl
    go (suc n) i =
        pick (nat_lt i (length bs)) (told_at bs i ++ decoded_from bs n (told_end bs i)) []
        (λ t. two (told_at bs i) (decoded_from bs n (told_end bs i))
        (told_bytes bs all i (let w : i < length bs = grind (arith, nat_tests) in w)) (go n (told_end bs i)))
        (λ t. refl)

-- ---- tokens

abbrev decoded_of : Option TokenKind → List ℕ
decoded_of None = []
decoded_of (Some kind) = decoded_by kind

abbrev is_told : Option Piece → Bool
is_told None = true
is_told (Some p) = are_bytes (decoded_of p.token)

told_cases : (bs : List ℕ) (at : ℕ) → are_bytes bs ≡ true → Cases bs at (λ o. is_told o ≡ true)
told_cases bs at all = record {
  none = refl;
  white = λ n. refl;
  plain = λ kind e n change. plain kind (sign_plain kind e);
  name = name_has bs at (λ o. is_told o ≡ true) (λ kind e n change. plain kind (bare_plain kind e))
      (plain (sign_of (byte bs at)) (lone_plain (sign_of (byte bs at)) (sign_of_is (byte bs at))));
  quoted = λ i j n. decoded_bytes (slice_range bs i j) (ranged bs i j all);
  text = λ i j n. decoded_bytes (slice_range bs i j) (ranged bs i j all);
  number = λ e. number_has bs at (λ o. is_told o ≡ true) (λ kind f named n change. plain kind f);
  hex = λ e. refl;
  range = λ e. refl;
}
  where
    plain : (kind : TokenKind) → is_plain kind ≡ true → are_bytes (decoded_by kind) ≡ true
    plain (kinds.Quoted t) e = absurd (cc)
    plain (kinds.Text t) e = absurd (cc)
    plain _ e = refl

token_told : (bs : List ℕ) → are_bytes bs ≡ true → (t : Token) → HasPiece bs t → are_bytes (decoded_by t.kind) ≡ true
token_told bs all t it =
    sym (ap is_told it.is) ∙ piece_has bs t.from (λ o. is_told o ≡ true) (told_cases bs t.from all) it.inside it.before

-- ---- strings of a sheet that was read

pub decoded_there : (source : Source) → WasRead source → (k : ℕ) → are_bytes (decoded_at source k) ≡ true
unfolding decoded_at
decoded_there source was k = at_lexeme (lexeme_at source k)
  where
    at_token : (o : Option Token) (n : ℕ) → slice_get source.tokens.now.list n ≡ o → are_bytes (decoded_in o) ≡ true
    at_token None n e = refl
    at_token (Some t) n e =
        token_told (bytes source) was.of_bytes t
        (every_at (HasPiece (bytes source)) source.tokens.now.list n t (all_tokens (bytes source) source.tokens.now.list was.tokens) e)

    at_lexeme : (o : Option Lexeme) → are_bytes (decoded_in (token_of source o)) ≡ true
    at_lexeme None = refl
    at_lexeme (Some lexeme) = at_token (slice_get source.tokens.now.list lexeme.token) lexeme.token refl
