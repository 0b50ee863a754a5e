-- The digits of a number, one after another.
use Rattle.std.proofs.Common.{◌≡◌, ℕ, ◌+◌, ◌-◌, ◌*◌, ◌≤◌, ◌<◌, true, false, List, length, drop, get_or, None, Some, refl}
use Rattle.std.proofs.lemmas.List.{drop_more, drop_all}
use Rattle.sw_wire.specs.Numbers.{number_from, can_follow}

pub number_stops : (most n : ℕ) (digits : List ℕ) (i : ℕ) → i < length digits → can_follow most n (get_or digits i 0) ≡ false → number_from most n (drop i digits) ≡ None
unfolding number_from
number_stops most n digits i lt e = rw (drop_more digits i 0 lt, e) refl

pub number_goes_on : (most n : ℕ) (digits : List ℕ) (i : ℕ) → i < length digits → can_follow most n (get_or digits i 0) ≡ true
    → number_from most n (drop i digits) ≡ number_from most (10 * n + (get_or digits i 0 - 48)) (drop (i + 1) digits)
unfolding number_from
number_goes_on most n digits i lt e = rw (drop_more digits i 0 lt, e) refl

pub number_is : (most n : ℕ) (digits : List ℕ) (i : ℕ) → length digits ≤ i → number_from most n (drop i digits) ≡ Some n
unfolding number_from
number_is most n digits i le = rw (drop_all i digits le) refl
