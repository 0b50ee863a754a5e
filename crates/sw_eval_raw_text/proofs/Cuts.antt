-- The parts of an import, a byte at a time.
use Rattle.std.proofs.Common.{◌≡◌, ℕ, zero, suc, ◌+◌, ◌-◌, ◌<◌, ◌≤◌, Bool, true, false, ◌||◌, List, [], ◌∷◌, ◌++◌, length, map, take, drop, get_or, slice_get, refl, sym, ◌∙◌, ap, arith, append_assoc, append-nil, length-take}
use Rattle.std.specs.Prelude.{nat_le, if◌then◌else◌}
use Rattle.std.proofs.lemmas.Bool.Decides.{nat_tests}
use Rattle.std.proofs.lemmas.List.{take_all}
use Rattle.sw_text_scan.proofs.Bounds.{if_true, if_false}
use Rattle.sw_text_scan.specs.Brackets.{over}
use Rattle.sw_text_scan.specs.Bytes.{byte, byte_in, is_white, is_quote}
use Rattle.sw_text_scan.specs.Words.{begins_url}
use Rattle.sw_eval_calls.proofs.Items.{drop_all}
use Rattle.sw_eval_raw_text.proofs.Spaced.{byte_of_rest, byte_and_rest, taken_more}
use Rattle.sw_eval_raw_text.specs.Cutting.{stepped, begins_part, is_cut, onto, cut_from, kept_in, bare_part, nothing}
use Rattle.sw_eval_raw_text.specs.declared.cutting.Open.{Open}

-- ---- where a part begins

byte_is : (bs : List ℕ) (i : ℕ) → i < length bs → byte bs i ≡ get_or bs i 0
unfolding byte
byte_is [] i lt = absurd (omega arith)
byte_is (b ∷ bs) zero lt = refl
byte_is (b ∷ bs) (suc i) lt = byte_is bs i (omega arith)

rest_at : (bs : List ℕ) (i j : ℕ) → slice_get (drop i bs) j ≡ slice_get bs (i + j)
rest_at [] zero j = refl
rest_at [] (suc i) j = refl
rest_at (b ∷ bs) zero j = ap (slice_get (b ∷ bs)) none
  where
    none : j ≡ 0 + j
    none = omega arith
rest_at (b ∷ bs) (suc i) j = rest_at bs i j ∙ ap (slice_get (b ∷ bs)) one
  where
    one : suc (i + j) ≡ suc i + j
    one = omega arith

byte_at_rest : (bs : List ℕ) (i j : ℕ) → byte (drop i bs) j ≡ byte bs (i + j)
unfolding byte
byte_at_rest bs i j = ap byte_in (rest_at bs i j)

url_of_rest : (bs : List ℕ) (i : ℕ) → begins_url (drop i bs) 0 ≡ begins_url bs i
url_of_rest bs i = rw (byte_of_rest bs i, byte_at_rest bs i 1, byte_at_rest bs i 2, byte_at_rest bs i 3) refl

byte_then_rest : (bs : List ℕ) (i : ℕ) → i < length bs → drop i bs ≡ byte bs i ∷ drop (i + 1) bs
byte_then_rest bs i lt = byte_and_rest bs i lt ∙ ap (λ (b : ℕ). b ∷ drop (i + 1) bs) (sym (byte_is bs i lt))

pub white_next : (bs : List ℕ) (i : ℕ) → i < length bs → is_white (byte bs i) ≡ true → begins_part (drop (i + 1) bs) ≡ begins_part (drop i bs)
white_next bs i lt e = sym (ap begins_part (byte_then_rest bs i lt) ∙ if_true (is_white (byte bs i)) (begins_part (drop (i + 1) bs)) (is_quote (byte bs i) || begins_url (byte bs i ∷ drop (i + 1) bs) 0) e)

pub begins_here : (bs : List ℕ) (i : ℕ) → i < length bs → is_white (byte bs i) ≡ false → begins_part (drop i bs) ≡ (is_quote (byte bs i) || begins_url bs i)
begins_here bs i lt e =
    ap begins_part (byte_then_rest bs i lt)
    ∙ if_false (is_white (byte bs i)) (begins_part (drop (i + 1) bs)) (is_quote (byte bs i) || begins_url (byte bs i ∷ drop (i + 1) bs) 0) e
    ∙ ap (λ (xs : List ℕ). is_quote (byte bs i) || begins_url xs 0) (sym (byte_then_rest bs i lt))
    ∙ ap (λ (b : Bool). is_quote (byte bs i) || b) (url_of_rest bs i)

pub begins_end : (bs : List ℕ) (i : ℕ) → length bs ≤ i → begins_part (drop i bs) ≡ false
begins_end bs i le = ap begins_part (drop_all bs i le)

-- ---- without white space around it

pub kept_past : (n : ℕ) (bs : List ℕ) (at end : ℕ) → length bs ≤ at → kept_in n bs at end ≡ end
kept_past zero bs at end le = refl
kept_past (suc n) bs at end le =
    if_true (nat_le (length bs) at) end (kept_in n bs (over bs at) (if is_white (byte bs at) then end else over bs at)) (grind (arith, nat_tests))

pub kept_on : (n : ℕ) (bs : List ℕ) (at end : ℕ) → 0 < n → at < length bs → kept_in n bs at end ≡ kept_in (n - 1) bs (over bs at) (if is_white (byte bs at) then end else over bs at)
kept_on zero bs at end z lt = absurd (omega arith)
kept_on (suc n) bs at end z lt =
    if_false (nat_le (length bs) at) end (kept_in n bs (over bs at) (if is_white (byte bs at) then end else over bs at)) (grind (arith, nat_tests))
    ∙ ap (λ (k : ℕ). kept_in k bs (over bs at) (if is_white (byte bs at) then end else over bs at)) less
  where
    less : n ≡ suc n - 1
    less = omega arith

pub kept_white : (n : ℕ) (bs : List ℕ) (at end : ℕ) → 0 < n → at < length bs → is_white (byte bs at) ≡ true → kept_in n bs at end ≡ kept_in (n - 1) bs (over bs at) end
kept_white n bs at end z lt e =
    kept_on n bs at end z lt ∙ ap (kept_in (n - 1) bs (over bs at)) (if_true (is_white (byte bs at)) end (over bs at) e)

pub kept_other : (n : ℕ) (bs : List ℕ) (at end : ℕ) → 0 < n → at < length bs → is_white (byte bs at) ≡ false → kept_in n bs at end ≡ kept_in (n - 1) bs (over bs at) (over bs at)
kept_other n bs at end z lt e =
    kept_on n bs at end z lt ∙ ap (kept_in (n - 1) bs (over bs at)) (if_false (is_white (byte bs at)) end (over bs at) e)

-- ---- parts

-- a text before the first of some parts
abbrev pub before : List ℕ → List (List ℕ) → List (List ℕ)
before text [] = text ∷ []
before text (part ∷ parts) = (text ++ part) ∷ parts

-- what was cut off, and what is to be
abbrev pub so_far : List (List ℕ) → List ℕ → ℕ → ℕ → Open → List (List ℕ)
so_far parts text from at here = parts ++ map bare_part (before (drop from (take at text)) (cut_from here (drop at text)))

before_onto : (text : List ℕ) (b : ℕ) (parts : List (List ℕ)) → before text (onto b parts) ≡ before (text ++ b ∷ []) parts
before_onto text b [] = refl
before_onto text b (part ∷ parts) = ap (λ (xs : List ℕ). xs ∷ parts) (sym (append_assoc text (b ∷ []) part))

onto_whole : (b : ℕ) (parts : List (List ℕ)) → before [] (onto b parts) ≡ onto b parts
onto_whole b [] = refl
onto_whole b (part ∷ parts) = refl

chosen_whole : (cut : Bool) (b : ℕ) (rest parts : List (List ℕ)) → before [] (if cut then [] ∷ rest else onto b parts) ≡ (if cut then [] ∷ rest else onto b parts)
chosen_whole true b rest parts = refl
chosen_whole false b rest parts = onto_whole b parts

pub before_nothing : (here : Open) (bs : List ℕ) → before [] (cut_from here bs) ≡ cut_from here bs
before_nothing here [] = refl
before_nothing here (b ∷ bs) = chosen_whole (is_cut here b bs) b (cut_from nothing bs) (cut_from (stepped here b) bs)

pub goes_on : (parts : List (List ℕ)) (text : List ℕ) (from at : ℕ) (here : Open) → at < length text → from ≤ at → is_cut here (get_or text at 0) (drop (at + 1) text) ≡ false
    → so_far parts text from (at + 1) (stepped here (get_or text at 0)) ≡ so_far parts text from at here
goes_on parts text from at here lt le e =
    let b = get_or text at 0 in
    let rest = cut_from (stepped here b) (drop (at + 1) text) in
    ap (λ (xs : List ℕ). parts ++ map bare_part (before xs rest)) (taken_more text from at lt le)
    ∙ ap (λ (xs : List (List ℕ)). parts ++ map bare_part xs) (sym (before_onto (drop from (take at text)) b rest))
    ∙ rw (byte_and_rest text at lt, e) refl

pub cut_off : (parts more : List (List ℕ)) (text : List ℕ) (from at : ℕ) (here : Open) → at < length text → is_cut here (get_or text at 0) (drop (at + 1) text) ≡ true
    → more ≡ parts ++ bare_part (drop from (take at text)) ∷ [] → so_far more text (at + 1) (at + 1) nothing ≡ so_far parts text from at here
cut_off parts more text from at here lt e made =
    let part = drop from (take at text) in
    let rest = cut_from nothing (drop (at + 1) text) in
    let none : drop (at + 1) (take (at + 1) text) ≡ [] = drop_all (take (at + 1) text) (at + 1) (omega (arith, length-take (at + 1) text)) in
    ap (λ (xs : List ℕ). more ++ map bare_part (before xs rest)) none
    ∙ ap (λ (xs : List (List ℕ)). more ++ map bare_part xs) (before_nothing nothing (drop (at + 1) text))
    ∙ ap (λ (xs : List (List ℕ)). xs ++ map bare_part rest) made
    ∙ append_assoc parts (bare_part part ∷ []) (map bare_part rest)
    ∙ ap (λ (xs : List ℕ). parts ++ bare_part xs ∷ map bare_part rest) (sym (append-nil part))
    ∙ rw (byte_and_rest text at lt, e) refl

pub last_part : (parts more : List (List ℕ)) (text : List ℕ) (from at : ℕ) (here : Open) → length text ≤ at → more ≡ parts ++ bare_part (drop from text) ∷ [] → more ≡ so_far parts text from at here
last_part parts more text from at here le made =
    made
    ∙ ap (λ (xs : List ℕ). parts ++ bare_part xs ∷ []) (sym (append-nil (drop from text)) ∙ ap (λ (xs : List ℕ). drop from xs ++ []) (sym (take_all at text le)))
    ∙ ap (λ (xs : List ℕ). parts ++ map bare_part (before (drop from (take at text)) (cut_from here xs))) (sym (drop_all text at le))
