-- Where the first word ends.
use Rattle.std.proofs.Common.{◌≡◌, ◌≢◌, ℕ, true, false, eqb, if◌then◌else◌, ap, List, [], ◌∷◌, ◌++◌, refl, arith}
use Rattle.std.proofs.lemmas.Bool.Decides.{nat_tests}
use Rattle.sw_wire.specs.Words.{words_of, onto_first}

abbrev pub HasNoSpace : List ℕ → Type 0
HasNoSpace [] = Unit {0}
HasNoSpace (byte ∷ bytes) = (byte ≢ 32) × HasNoSpace bytes

pub no_space_push : (xs : List ℕ) (y : ℕ) → HasNoSpace xs → y ≢ 32 → HasNoSpace (xs ++ y ∷ [])
no_space_push [] y h n = (n, tt)
no_space_push (x ∷ xs) y h n = (h.0, no_space_push xs y h.1 n)

other : (y : ℕ) → y ≢ 32 → eqb y 32 ≡ false
other y n = grind (arith, nat_tests)

pub word_and_more : (xs rest : List ℕ) → HasNoSpace xs → words_of (xs ++ 32 ∷ rest) ≡ xs ∷ words_of rest
unfolding words_of
word_and_more [] rest h = refl
word_and_more (x ∷ xs) rest h = rw (other x h.0, word_and_more xs rest h.1) refl

pub one_word : (xs : List ℕ) → HasNoSpace xs → words_of xs ≡ xs ∷ []
unfolding words_of
one_word [] h = refl
one_word (x ∷ xs) h = rw (other x h.0, one_word xs h.1) refl

-- there is at least one word
pub some_words : (xs : List ℕ) → (word : List ℕ) × (words : List (List ℕ)) × (words_of xs ≡ word ∷ words)
unfolding words_of
some_words [] = ([], [], refl)
some_words (x ∷ xs) =
    let p = some_words xs in
    elim (eqb x 32) as (λ b. (word : List ℕ) × (words : List (List ℕ)) × ((if b then [] ∷ words_of xs else onto_first x (words_of xs)) ≡ word ∷ words))
    [ true ↦ ([], words_of xs, refl) | false ↦ (x ∷ p.0, p.1, ap (onto_first x) p.2) ]
