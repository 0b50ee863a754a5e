-- Where the first line ends.
use Rattle.std.proofs.Common.{◌≡◌, ◌≢◌, ℕ, suc, zero, ◌+◌, ◌≤◌, false, eqb, List, [], ◌∷◌, ◌++◌, length, refl, arith}
use Rattle.std.proofs.lemmas.Bool.Decides.{nat_tests}
use Rattle.sw_io.specs.Lines.{Line, Long, Unended, split_line}

-- no line feed among them
abbrev pub IsUnbroken : List ℕ → Type 0
IsUnbroken [] = Unit {0}
IsUnbroken (byte ∷ bytes) = (byte ≢ 10) × IsUnbroken bytes

pub unbroken_push : (xs : List ℕ) (y : ℕ) → IsUnbroken xs → y ≢ 10 → IsUnbroken (xs ++ y ∷ [])
unbroken_push [] y h n = (n, tt)
unbroken_push (x ∷ xs) y h n = (h.0, unbroken_push xs y h.1 n)

other : (y : ℕ) → y ≢ 10 → eqb y 10 ≡ false
other y n = grind (arith, nat_tests)

pub line_found : (room : ℕ) (xs rest : List ℕ) → IsUnbroken xs → length xs ≤ room → split_line room (xs ++ 10 ∷ rest) ≡ Line xs rest
unfolding split_line
line_found zero [] rest h le = refl
line_found (suc room) [] rest h le = refl
line_found zero (x ∷ xs) rest h le = absurd (omega arith)
line_found (suc room) (x ∷ xs) rest h le = rw (other x h.0, line_found room xs rest h.1 (omega arith)) refl

pub line_unended : (room : ℕ) (xs : List ℕ) → IsUnbroken xs → length xs ≤ room → split_line room xs ≡ Unended
unfolding split_line
line_unended room [] h le = refl
line_unended zero (x ∷ xs) h le = absurd (omega arith)
line_unended (suc room) (x ∷ xs) h le = rw (other x h.0, line_unended room xs h.1 (omega arith)) refl

pub line_too_long : (room : ℕ) (xs rest : List ℕ) → IsUnbroken xs → length xs ≡ room + 1 → split_line room (xs ++ rest) ≡ Long
unfolding split_line
line_too_long room [] rest h e = absurd (omega arith)
line_too_long zero (x ∷ xs) rest h e = rw (other x h.0) refl
line_too_long (suc room) (x ∷ xs) rest h e = rw (other x h.0, line_too_long room xs rest h.1 (omega arith)) refl
