-- The numbers in a line: decimal digits with no 0 before others. This project's own rule.
use Rattle.std.specs.Prelude.{ℕ, ◌+◌, ◌-◌, ◌*◌, Bool, ◌&&◌, ◌==◌, nat_le, if◌then◌else◌, List, [], ◌∷◌, Option, None, Some}

-- of a put's bytes: seven digits
abbrev pub most_length : ℕ
most_length = 9999999

-- of a compile under way: 32 bits
abbrev pub most_number : ℕ
most_number = 4294967295

-- a digit may stand behind the digits of n in a number of at most so much
abbrev pub can_follow : ℕ → ℕ → ℕ → Bool
can_follow most n digit = nat_le 48 digit && (nat_le digit 57 && nat_le (10 * n + (digit - 48)) most)

-- with n for the digits so far
unfoldable pub number_from : ℕ → ℕ → List ℕ → Option ℕ
number_from most n [] = Some n
number_from most n (digit ∷ digits) =
    if can_follow most n digit then number_from most (10 * n + (digit - 48)) digits else None

-- at most so much
abbrev pub number_of : ℕ → List ℕ → Option ℕ
number_of most [] = None
number_of most (digit ∷ []) = number_from most 0 (digit ∷ [])
number_of most (digit ∷ more ∷ digits) =
    if digit == 48 then None else number_from most 0 (digit ∷ more ∷ digits)
