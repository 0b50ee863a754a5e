-- Words are text.
use Rattle.std.proofs.Common.{◌≡◌, ℕ, suc, zero, ◌<◌, Bool, true, false, ◌&&◌, List, [], ◌∷◌, get_or, refl, arith}
use Rattle.std.proofs.lemmas.Bool.Decides.{nat_tests}
use Rattle.std.specs.List.{list_all}
use Rattle.std.specs.Str.{IsUtf8}
use Rattle.std.proofs.lemmas.Str.{IsUtf8-from_ascii}
use Rattle.sw_wire.specs.Words.{is_plain, is_word}

pub both : (a b : Bool) → (a && b) ≡ true → (a ≡ true) × (b ≡ true)
both true true e = (refl, refl)
both true false e = cc
both false b e = cc

plain_ascii : (x : ℕ) → is_plain x ≡ true → x < 128
plain_ascii x e = grind (arith, nat_tests)

plain_all : (xs : List ℕ) → list_all is_plain xs ≡ true → (i : ℕ) → get_or xs i 0 < 128
plain_all [] e i = omega arith
plain_all (x ∷ xs) e zero = plain_ascii x (both (is_plain x) (list_all is_plain xs) e).0
plain_all (x ∷ xs) e (suc i) = plain_all xs (both (is_plain x) (list_all is_plain xs) e).1 i

pub word_is_text : (word : List ℕ) → is_word word ≡ true → IsUtf8 word
word_is_text word e = IsUtf8-from_ascii word (plain_all word (both _ (list_all is_plain word) e).1)
