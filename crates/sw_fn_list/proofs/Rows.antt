-- The rows of lists, one by one.
use Rattle.std.proofs.Common.{◌≡◌, ℕ, suc, ◌+◌, ◌-◌, ◌<◌, List, [], ◌∷◌, ◌++◌, subst, append_assoc, arith}
use Rattle.sw_values.specs.declared.plain.Plain.{Plain}
use Rattle.sw_fn_list.specs.Joining.{row, rows_from}

pub rows-step : (columns : List (List Plain)) (at count : ℕ) (all whole : List Plain) (made : Plain) → at < count
    → made ≡ row columns at → all ++ rows_from columns at (count - at) ≡ whole
    → (all ++ made ∷ []) ++ rows_from columns (at + 1) (count - (at + 1)) ≡ whole
rows-step columns at count all whole made lt is h =
    let n : count - at ≡ suc (count - (at + 1)) = omega arith in
    let k : all ++ rows_from columns at (suc (count - (at + 1))) ≡ whole = subst (λ m. all ++ rows_from columns at m ≡ whole) n h in
    rw (append_assoc, is) k
