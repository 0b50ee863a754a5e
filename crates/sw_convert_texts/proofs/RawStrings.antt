-- Strings with `#{}` in raw text, token by token: the quote before them, their text, and the quote at their end.
use Rattle.std.proofs.Common.{◌≡◌, ◌<◌, ℕ, ◌+◌, ◌-◌, Bool, true, false, not, ◌&&◌, ◌||◌, List, [], ◌∷◌, ◌++◌, length, Option, Some, None, refl, sym, ◌∙◌, ap, arith, take}
use Rattle.std.specs.Prelude.{◌==◌, nat_lt, slice_range}
use Rattle.std.proofs.Math.Seq.{take-append_seam}
use Rattle.std.proofs.lemmas.Bool.Decides.{nat_tests}
use Rattle.sw_text_scan.specs.declared.runs.Class.TheVariants as classes
use Rattle.sw_text_scan.specs.declared.signs.TheConstants.{END}
use Rattle.sw_text_scan.specs.Bytes.{sign, byte, is_break, is_white, is_quote, opens_at}
use Rattle.sw_text_scan.specs.Runs.{next, run_end, text_next}
use Rattle.sw_text_scan.proofs.Bounds.{if_true, if_false, and_left, and_right, or_left, or_right, not_true, run_step, run_stop}
use Rattle.sw_tokens.specs.declared.pieces.Before.{Before}
use Rattle.sw_tokens.specs.declared.pieces.Change.TheVariants as changes
use Rattle.sw_tokens.specs.declared.skips.Inside.{Inside}
use Rattle.sw_tokens.specs.declared.skips.Inside.TheVariants as insides
use Rattle.sw_tokens.specs.declared.token.TokenKind.TheVariants as kinds
use Rattle.sw_tokens.specs.Decoded.{decoded}
use Rattle.sw_tokens.specs.Pieces.{made, piece, code_piece, quote_piece, text_piece}
use Rattle.sw_convert_spelling.proofs.MovedRuns.{first_byte, run_moved, opens_moved}
use Rattle.sw_convert_texts.specs.RawKinds.{holds, is_held, reaches_insert, ends_held}

-- what is open there
abbrev pub inside_of : Option ℕ → List Inside
inside_of None = []
inside_of (Some q) = insides.Quotes q ∷ []

-- ---- bytes

hash_quote : (q b : ℕ) → is_quote q ≡ true → (b == sign "#") ≡ true → (b == q) ≡ false
hash_quote q b e f = grind (arith, nat_tests)

brace_end : (END == sign "{") ≡ false
brace_end = refl

pub white_quote : (q : ℕ) → is_quote q ≡ true → is_white q ≡ false
white_quote q e = grind (arith, nat_tests)

brace_quote : (q b : ℕ) → is_quote q ≡ true → (b == q) ≡ true → (b == sign "{") ≡ false
brace_quote q b e f = grind (arith, nat_tests)

brace_hash : (b : ℕ) → (b == sign "#") ≡ true → (b == sign "{") ≡ false
brace_hash b f = grind (arith, nat_tests)

-- ---- where text goes on

-- the text goes on with such a byte
byte_goes : (q b : ℕ) (xs : List ℕ) → holds q b ≡ true → opens_at (b ∷ xs) 0 ≡ false
    → next (classes.SheetText q) (b ∷ xs) 0 ≡ 1
unfolding text_next
byte_goes q b xs h o =
    let none = not_true _ h in
    let one = or_left (b == q) _ none in
    let two = or_right (b == q) _ none in
    let slash = or_left (b == sign "\\") _ two in
    let three = or_right (b == sign "\\") _ two in
    if_false (opens_at (b ∷ xs) 0) 0 _ o
    ∙ if_false ((byte (b ∷ xs) 0 == q) || (is_break (byte (b ∷ xs) 0) || (byte (b ∷ xs) 0 == END))) 0 _
    (ap (λ (c : ℕ). (c == q) || (is_break c || (c == END))) (first_byte b xs)
    ∙ ap (λ (t : Bool). t || (is_break b || (b == END))) one ∙ three)
    ∙ if_true (not (byte (b ∷ xs) 0 == sign "\\")) (0 + 1) _ (ap not (ap (λ (c : ℕ). c == sign "\\") (first_byte b xs) ∙ slash))

-- and its run one byte further on
run_goes : (q b : ℕ) (xs : List ℕ) → next (classes.SheetText q) (b ∷ xs) 0 ≡ 1
    → run_end (classes.SheetText q) (b ∷ xs) 0 ≡ 1 + run_end (classes.SheetText q) xs 0
run_goes q b xs e =
    sym (run_step (b ∷ xs) (classes.SheetText q) 0 (omega (arith, e)))
    ∙ ap (run_end (classes.SheetText q) (b ∷ xs)) e
    ∙ run_moved (b ∷ []) xs (classes.SheetText q) 0

-- it ends before a `#{`
open_stops : (q : ℕ) (xs : List ℕ) → opens_at xs 0 ≡ true → run_end (classes.SheetText q) xs 0 ≡ 0
open_stops q xs o = run_stop xs (classes.SheetText q) 0 (let n = if_true (opens_at xs 0) 0 (text_next xs q 0) o in omega (arith, n))

-- and at the end of the string
quote_stops : (q : ℕ) (xs : List ℕ) → (byte xs 0 == q) ≡ true → opens_at xs 0 ≡ false → run_end (classes.SheetText q) xs 0 ≡ 0
unfolding text_next
quote_stops q xs e o =
    run_stop xs (classes.SheetText q) 0
    (let n = if_false (opens_at xs 0) 0 (text_next xs q 0) o
    ∙ if_true ((byte xs 0 == q) || (is_break (byte xs 0) || (byte xs 0 == END))) 0 _ (first (byte xs 0 == q) e) in omega (arith, n))
  where
    first : (a : Bool) → a ≡ true → (a || (is_break (byte xs 0) || (byte xs 0 == END))) ≡ true
    first true f = refl
    first false f = absurd (cc)

held_end : (q : ℕ) (after : List ℕ) → is_quote q ≡ true → ends_held q after ≡ true
    → run_end (classes.SheetText q) after 0 ≡ 0
held_end q after quote e = go (opens_at after 0) refl
  where
    second : (a b : Bool) → b ≡ false → (a || b) ≡ true → a ≡ true
    second true b f g = refl
    second false b f g = absurd (let wrong : true ≡ false = sym g ∙ f in cc)

    go : (t : Bool) → opens_at after 0 ≡ t → run_end (classes.SheetText q) after 0 ≡ 0
    go true o = open_stops q after o
    go false o = quote_stops q after (second (byte after 0 == q) (opens_at after 0) o e) o

-- what ends it is no `{`
ends_dark : (q : ℕ) (after : List ℕ) → is_quote q ≡ true → ends_held q after ≡ true → (byte after 0 == sign "{") ≡ false
ends_dark q after quote e = go (byte after 0 == q) refl
  where
    other : (a b : Bool) → a ≡ false → (a || b) ≡ true → b ≡ true
    other true b f g = absurd (let wrong : true ≡ false = f in cc)
    other false b f g = g

    go : (t : Bool) → (byte after 0 == q) ≡ t → (byte after 0 == sign "{") ≡ false
    go true f = brace_quote q (byte after 0) quote f
    go false f = brace_hash (byte after 0) (and_left (byte after 0 == sign "#") _ (other (byte after 0 == q) (opens_at after 0) f e))

-- text before what ends it
shut : (q b : ℕ) (text after : List ℕ) → is_quote q ≡ true → ends_held q after ≡ true
    → ((b == sign "#") && (byte text 0 == sign "{")) ≡ false → opens_at (b ∷ (text ++ after)) 0 ≡ false
unfolding byte
shut q b [] after quote ends e = go (b == sign "#") (byte after 0 == sign "{") (ends_dark q after quote ends)
  where
    go : (a c : Bool) → c ≡ false → (a && c) ≡ false
    go true c f = f
    go false c f = refl
shut q b (c ∷ text) after quote ends e = e

pub held_run : (q : ℕ) (text after : List ℕ) → is_quote q ≡ true → is_held q text ≡ true → ends_held q after ≡ true
    → run_end (classes.SheetText q) (text ++ after) 0 ≡ length text
held_run q [] after quote held ends = held_end q after quote ends
held_run q (b ∷ text) after quote held ends =
    let first = and_left (holds q b && not ((b == sign "#") && (byte text 0 == sign "{"))) _ held in
    let rest = and_right (holds q b && not ((b == sign "#") && (byte text 0 == sign "{"))) _ held in
    run_goes q b (text ++ after)
    (byte_goes q b (text ++ after) (and_left (holds q b) _ first)
    (shut q b text after quote ends (not_true _ (and_right (holds q b) _ first))))
    ∙ ap (λ (n : ℕ). 1 + n) (held_run q text after quote rest ends)
    ∙ (let z : 1 + length text ≡ length (b ∷ text) = omega arith in z)

-- ---- behind the first quote

-- such text goes on up to a `#{`
same_open : (q b : ℕ) (text after : List ℕ) → ((b == sign "#") && (byte text 0 == sign "{")) ≡ true
    → opens_at (b ∷ (text ++ after)) 0 ≡ true
unfolding byte
same_open q b [] after e = absurd (let none = go (b == sign "#") in let wrong : true ≡ false = sym e ∙ none in cc)
  where
    go : (a : Bool) → (a && (END == sign "{")) ≡ false
    go true = refl
    go false = refl
same_open q b (c ∷ text) after e = e

same_shut : (q b : ℕ) (text after : List ℕ) → reaches_insert q text ≡ true
    → ((b == sign "#") && (byte text 0 == sign "{")) ≡ false → opens_at (b ∷ (text ++ after)) 0 ≡ false
unfolding byte
same_shut q b [] after r e = absurd (cc)
same_shut q b (c ∷ text) after r e = e

reaches : (q : ℕ) (text after : List ℕ) → is_quote q ≡ true → reaches_insert q text ≡ true
    → opens_at (text ++ after) (run_end (classes.SheetText q) (text ++ after) 0) ≡ true
reaches q [] after quote r = absurd (cc)
reaches q (b ∷ text) after quote r =
    go (λ s. reaches q text after quote s) ((b == sign "#") && (byte text 0 == sign "{")) refl r
  where
    go : (reaches_insert q text ≡ true → opens_at (text ++ after) (run_end (classes.SheetText q) (text ++ after) 0) ≡ true)
        → (t : Bool) → ((b == sign "#") && (byte text 0 == sign "{")) ≡ t → (t || (holds q b && reaches_insert q text)) ≡ true
        → opens_at (b ∷ (text ++ after)) (run_end (classes.SheetText q) (b ∷ (text ++ after)) 0) ≡ true
    go onward true o f =
        let here = same_open q b text after o in
        ap (opens_at (b ∷ (text ++ after))) (open_stops q (b ∷ (text ++ after)) here) ∙ here
    go onward false o f =
        let rest = and_right (holds q b) _ f in
        ap (opens_at (b ∷ (text ++ after)))
        (run_goes q b (text ++ after)
        (byte_goes q b (text ++ after) (and_left (holds q b) _ f) (same_shut q b text after rest o)))
        ∙ opens_moved (b ∷ []) (text ++ after) (run_end (classes.SheetText q) (text ++ after) 0)
        ∙ onward rest

-- ---- tokens

-- the quote before it
pub opening_token : (q : ℕ) (behind after : List ℕ) (before : Before) → is_quote q ≡ true → reaches_insert q behind ≡ true
    → piece ((q ∷ []) ++ (behind ++ after)) insides.Sheet before 0 ≡ made kinds.Template 1 (changes.Push (insides.Quotes q))
unfolding code_piece quote_piece
opening_token q behind after before quote r =
    let bs = q ∷ (behind ++ after) in
    let found = reaches q behind after quote r in
    let there : opens_at bs (run_end (classes.SheetText q) bs 1) ≡ true =
    ap (opens_at bs) (run_moved (q ∷ []) (behind ++ after) (classes.SheetText q) 0)
    ∙ opens_moved (q ∷ []) (behind ++ after) (run_end (classes.SheetText q) (behind ++ after) 0) ∙ found in
    if_false (is_white (byte bs 0)) _ _ (ap is_white (first_byte q (behind ++ after)) ∙ white_quote q quote)
    ∙ if_true (is_quote (byte bs 0)) _ _ (ap is_quote (first_byte q (behind ++ after)) ∙ quote)
    ∙ ap (λ (c : ℕ). quote_piece bs c 0) (first_byte q (behind ++ after))
    ∙ if_false (byte bs (run_end (classes.SheetText q) bs 1) == q) _ _
    (hash_quote q (byte bs (run_end (classes.SheetText q) bs 1)) quote (and_left (byte bs (run_end (classes.SheetText q) bs 1) == sign "#") _ there))

-- the text
pub held_token : (q : ℕ) (text after : List ℕ) (before : Before) → is_quote q ≡ true → 0 < length text
    → is_held q text ≡ true → ends_held q after ≡ true
    → piece (text ++ after) (insides.Quotes q) before 0 ≡ made (kinds.Text (decoded text)) (length text) changes.Keep
unfolding text_piece
held_token q [] after before quote some held ends = absurd (omega (arith, some))
held_token q (b ∷ text) after before quote some held ends =
    let bs = b ∷ (text ++ after) in
    let first = and_left (holds q b && not ((b == sign "#") && (byte text 0 == sign "{"))) _ held in
    let run = held_run q (b ∷ text) after quote held ends in
    if_false (byte bs 0 == q) _ _
    (ap (λ (c : ℕ). c == q) (first_byte b (text ++ after)) ∙ or_left (b == q) _ (not_true _ (and_left (holds q b) _ first)))
    ∙ if_false (opens_at bs 0) _ _ (shut q b text after quote ends (not_true _ (and_right (holds q b) _ first)))
    ∙ if_true (nat_lt 0 (run_end (classes.SheetText q) bs 0)) _ _ (ap (nat_lt 0) run ∙ long (length (b ∷ text)) some)
    ∙ ap (λ (n : ℕ). made (kinds.Text (decoded (slice_range bs 0 n))) n changes.Keep) run
    ∙ ap (λ (t : List ℕ). made (kinds.Text (decoded t)) (length (b ∷ text)) changes.Keep)
    (ap (λ (n : ℕ). take n bs) (let z : length (b ∷ text) - 0 ≡ length (b ∷ text) = omega arith in z) ∙ take-append_seam (b ∷ text) after)
  where
    long : (n : ℕ) → 0 < n → nat_lt 0 n ≡ true
    long n l = grind (arith, nat_tests)

-- the quote at its end
pub closing_token : (q : ℕ) (after : List ℕ) (before : Before)
    → piece ((q ∷ []) ++ after) (insides.Quotes q) before 0 ≡ made kinds.TemplateEnd 1 changes.Pop
unfolding text_piece
closing_token q after before =
    if_true (byte (q ∷ after) 0 == q) _ _ (ap (λ (c : ℕ). c == q) (first_byte q after) ∙ itself q)
  where
    itself : (n : ℕ) → (n == n) ≡ true
    itself n = grind (arith, nat_tests)
