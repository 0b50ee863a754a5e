-- Whether one of a list passes a test, one at a time.
use Rattle.std.proofs.Common.{◌≡◌, ℕ, ◌+◌, ◌<◌, ◌≤◌, Bool, true, false, List, length, drop, get_or, refl}
use Rattle.std.specs.List.{list_any}
use Rattle.sw_eval_calls.proofs.Items.{next_item, drop_all}

pub any_found : {A : Type 0} (f : A → Bool) (xs : List A) (i : ℕ) (x : A) → i < length xs → x ≡ get_or xs i x → f x ≡ true → list_any f (drop i xs) ≡ true
any_found f xs i x lt is e = rw (next_item xs i x lt is, e) refl

pub any_passed : {A : Type 0} (f : A → Bool) (xs : List A) (i : ℕ) (x : A) → i < length xs → x ≡ get_or xs i x → f x ≡ false → list_any f (drop i xs) ≡ list_any f (drop (i + 1) xs)
any_passed f xs i x lt is e = rw (next_item xs i x lt is, e) refl

pub any_end : {A : Type 0} (f : A → Bool) (xs : List A) (i : ℕ) → length xs ≤ i → list_any f (drop i xs) ≡ false
any_end f xs i le = rw (drop_all xs i le) refl
