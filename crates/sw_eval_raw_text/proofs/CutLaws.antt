-- The parts of an import with their commas are its text, and none can be cut again.
use Rattle.std.proofs.Common.{◌≡◌, ℕ, zero, suc, ◌+◌, Bool, true, false, not, ◌&&◌, ◌||◌, ◌⊎◌, inl, inr, List, [], ◌∷◌, ◌++◌, refl, sym, ◌∙◌, ap, arith, append-nil}
use Rattle.std.specs.Prelude.{if◌then◌else◌, ◌==◌}
use Rattle.std.specs.List.{list_all}
use Rattle.std.proofs.lemmas.Bool.Decides.{nat_tests}
use Rattle.sw_text_scan.proofs.Bounds.{if_true, if_false, and_left, and_right}
use Rattle.sw_text_scan.specs.Bytes.{sign, byte, is_white, is_quote}
use Rattle.sw_text_scan.specs.Words.{is_u, is_r, is_l, begins_url}
use Rattle.sw_eval_raw_text.specs.Cutting.{nothing, is_nothing, stepped, begins_part, is_cut, onto, cut_from, with_commas, is_whole, IsCut}
use Rattle.sw_eval_raw_text.specs.declared.cutting.Open.{Open}

true_or_false : (b : Bool) → (b ≡ true) ⊎ (b ≡ false)
true_or_false true = inl refl
true_or_false false = inr refl

both : (a b : Bool) → a ≡ true → b ≡ true → (a && b) ≡ true
both true true e f = refl
both true false e f = f
both false b e f = e

either_true : (a b c d : Bool) → (a ≡ true → c ≡ true) → (b ≡ true → d ≡ true) → (a || b) ≡ true → (c || d) ≡ true
either_true true b c d f g e = ap (λ (x : Bool). x || d) (f refl)
either_true false b true d f g e = refl
either_true false b false d f g e = g e

all_true : (a b c d : Bool) → (a ≡ true → c ≡ true) → (b ≡ true → d ≡ true) → (a && b) ≡ true → (c && d) ≡ true
all_true a b c d f g e = both c d (f (and_left a b e)) (g (and_right a b e))

no_longer : (a b : Bool) → (a ≡ true → b ≡ true) → b ≡ false → a ≡ false
no_longer true b f e = absurd (clash b (f refl) e)
  where
    clash : (b : Bool) → b ≡ true → b ≡ false → ⊥
    clash true x y = cc
    clash false x y = cc
no_longer false b f e = refl

-- ---- where a part begins in the first part of a text, one begins in the text

-- a byte of the first part of a text is one of the text
first_byte : (f : ℕ → Bool) (xs bs : List ℕ) (i : ℕ) → f (byte [] 0) ≡ false → f (byte xs i) ≡ true → f (byte (xs ++ bs) i) ≡ true
unfolding byte
first_byte f [] bs i none e = absurd (cc)
first_byte f (a ∷ xs) bs zero none e = e
first_byte f (a ∷ xs) bs (suc i) none e = first_byte f xs bs i none e

url_on : (xs bs : List ℕ) → begins_url xs 0 ≡ true → begins_url (xs ++ bs) 0 ≡ true
unfolding byte
url_on xs bs e =
    all_true (is_u (byte xs 0)) (is_r (byte xs 1) && (is_l (byte xs 2) && (byte xs 3 == sign "("))) (is_u (byte (xs ++ bs) 0)) (is_r (byte (xs ++ bs) 1) && (is_l (byte (xs ++ bs) 2) && (byte (xs ++ bs) 3 == sign "("))) (first_byte is_u xs bs 0 refl)
    (all_true (is_r (byte xs 1)) (is_l (byte xs 2) && (byte xs 3 == sign "(")) (is_r (byte (xs ++ bs) 1)) (is_l (byte (xs ++ bs) 2) && (byte (xs ++ bs) 3 == sign "(")) (first_byte is_r xs bs 1 refl)
    (all_true (is_l (byte xs 2)) (byte xs 3 == sign "(") (is_l (byte (xs ++ bs) 2)) (byte (xs ++ bs) 3 == sign "(") (first_byte is_l xs bs 2 refl) (first_byte (λ b. b == sign "(") xs bs 3 refl)))
    e

part_on : (xs bs : List ℕ) → begins_part xs ≡ true → begins_part (xs ++ bs) ≡ true
part_on [] bs e = absurd cc
part_on (a ∷ xs) bs e = elim (true_or_false (is_white a)) [
  | inl w ↦ if_true (is_white a) (begins_part (xs ++ bs)) (is_quote a || begins_url (a ∷ (xs ++ bs)) 0) w
      ∙ part_on xs bs (sym (if_true (is_white a) (begins_part xs) (is_quote a || begins_url (a ∷ xs) 0) w) ∙ e)
  | inr w ↦ if_false (is_white a) (begins_part (xs ++ bs)) (is_quote a || begins_url (a ∷ (xs ++ bs)) 0) w
      ∙ either_true (is_quote a) (begins_url (a ∷ xs) 0) (is_quote a) (begins_url (a ∷ (xs ++ bs)) 0) (λ q. q) (url_on (a ∷ xs) bs) (sym (if_false (is_white a) (begins_part xs) (is_quote a || begins_url (a ∷ xs) 0) w) ∙ e)
]

cut_on : (here : Open) (b : ℕ) (xs bs : List ℕ) → is_cut here b xs ≡ true → is_cut here b (xs ++ bs) ≡ true
cut_on here b xs bs e =
    all_true (is_nothing here) ((b == sign ",") && begins_part xs) (is_nothing here) ((b == sign ",") && begins_part (xs ++ bs)) (λ n. n)
    (all_true (b == sign ",") (begins_part xs) (b == sign ",") (begins_part (xs ++ bs)) (λ n. n) (part_on xs bs)) e

-- ---- the parts are the text

comma_is : (b : ℕ) → (b == sign ",") ≡ true → b ≡ sign ","
comma_is b e = grind (arith, nat_tests)

-- some parts, of which the first is behind a byte
onto_text : (b : ℕ) (parts : List (List ℕ)) → with_commas (onto b parts) ≡ b ∷ with_commas parts
onto_text b [] = refl
onto_text b (part ∷ []) = refl
onto_text b (part ∷ next ∷ parts) = refl

abbrev IsMore : List (List ℕ) → Type 0
IsMore [] = ⊥
IsMore (part ∷ parts) = Unit {0}

more_onto : (b : ℕ) (parts : List (List ℕ)) → IsMore (onto b parts)
more_onto b [] = tt
more_onto b (part ∷ parts) = tt

more_chosen : (cut : Bool) (b : ℕ) (rest parts : List (List ℕ)) → IsMore (if cut then [] ∷ rest else onto b parts)
more_chosen true b rest parts = tt
more_chosen false b rest parts = more_onto b parts

more_parts : (here : Open) (bs : List ℕ) → IsMore (cut_from here bs)
more_parts here [] = tt
more_parts here (b ∷ bs) = more_chosen (is_cut here b bs) b (cut_from nothing bs) (cut_from (stepped here b) bs)

comma_first : (parts : List (List ℕ)) → IsMore parts → with_commas ([] ∷ parts) ≡ sign "," ∷ with_commas parts
comma_first [] more = absurd more
comma_first (part ∷ parts) more = refl

text_again : (here : Open) (bs : List ℕ) → with_commas (cut_from here bs) ≡ bs
text_again here [] = refl
text_again here (b ∷ bs) = elim (true_or_false (is_cut here b bs)) [
  | inl e ↦ ap with_commas (if_true (is_cut here b bs) ([] ∷ cut_from nothing bs) (onto b (cut_from (stepped here b) bs)) e)
      ∙ comma_first (cut_from nothing bs) (more_parts nothing bs)
      ∙ ap (λ (c : ℕ). c ∷ with_commas (cut_from nothing bs)) (sym (comma_is b (and_left (b == sign ",") (begins_part bs) (and_right (is_nothing here) ((b == sign ",") && begins_part bs) e))))
      ∙ ap (λ (rest : List ℕ). b ∷ rest) (text_again nothing bs)
  | inr e ↦ ap with_commas (if_false (is_cut here b bs) ([] ∷ cut_from nothing bs) (onto b (cut_from (stepped here b) bs)) e)
      ∙ onto_text b (cut_from (stepped here b) bs)
      ∙ ap (λ (rest : List ℕ). b ∷ rest) (text_again (stepped here b) bs)
]

-- ---- none can be cut again

-- the first part stands behind what is open
abbrev whole_parts : Open → List (List ℕ) → Bool
whole_parts here [] = true
whole_parts here (part ∷ parts) = is_whole here part && list_all (is_whole nothing) parts

all_whole : (parts : List (List ℕ)) → whole_parts nothing parts ≡ list_all (is_whole nothing) parts
all_whole [] = refl
all_whole (part ∷ parts) = refl

-- what stands behind the first part
abbrev behind_first : List (List ℕ) → List ℕ
behind_first [] = []
behind_first (part ∷ parts) = sign "," ∷ with_commas (part ∷ parts)

first_of : (part : List ℕ) (parts : List (List ℕ)) → with_commas (part ∷ parts) ≡ part ++ behind_first parts
first_of part [] = sym (append-nil part)
first_of part (next ∷ parts) = refl

not_cut : (here : Open) (b : ℕ) (xs bs rest : List ℕ) → is_cut here b bs ≡ false → bs ≡ xs ++ rest → is_cut here b xs ≡ false
not_cut here b xs bs rest e is =
    no_longer (is_cut here b xs) (is_cut here b (xs ++ rest)) (cut_on here b xs rest) (ap (is_cut here b) (sym is) ∙ e)

onto_whole : (here : Open) (b : ℕ) (bs : List ℕ) (parts : List (List ℕ)) → is_cut here b bs ≡ false → with_commas parts ≡ bs → whole_parts (stepped here b) parts ≡ true
    → whole_parts here (onto b parts) ≡ true
onto_whole here b bs [] e text whole = both (not (is_cut here b []) && true) true (both (not (is_cut here b [])) true (ap not (not_cut here b [] bs bs e refl)) refl) refl
onto_whole here b bs (part ∷ parts) e text whole =
    both (not (is_cut here b part) && is_whole (stepped here b) part) (list_all (is_whole nothing) parts)
    (both (not (is_cut here b part)) (is_whole (stepped here b) part)
    (ap not (not_cut here b part bs (behind_first parts) e (sym text ∙ first_of part parts)))
    (and_left (is_whole (stepped here b) part) (list_all (is_whole nothing) parts) whole))
    (and_right (is_whole (stepped here b) part) (list_all (is_whole nothing) parts) whole)

whole_from : (here : Open) (bs : List ℕ) → whole_parts here (cut_from here bs) ≡ true
whole_from here [] = refl
whole_from here (b ∷ bs) = elim (true_or_false (is_cut here b bs)) [
  | inl e ↦ ap (whole_parts here) (if_true (is_cut here b bs) ([] ∷ cut_from nothing bs) (onto b (cut_from (stepped here b) bs)) e)
      ∙ sym (all_whole (cut_from nothing bs)) ∙ whole_from nothing bs
  | inr e ↦ ap (whole_parts here) (if_false (is_cut here b bs) ([] ∷ cut_from nothing bs) (onto b (cut_from (stepped here b) bs)) e)
      ∙ onto_whole here b bs (cut_from (stepped here b) bs) e (text_again (stepped here b) bs) (whole_from (stepped here b) bs)
]

pub all_cut : (bs : List ℕ) → IsCut bs (cut_from nothing bs)
all_cut bs = record { text_again = text_again nothing bs; whole = sym (all_whole (cut_from nothing bs)) ∙ whole_from nothing bs }
