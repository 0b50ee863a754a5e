-- How the statements of the top level follow one another.
use Rattle.std.proofs.Common.{◌≡◌, ℕ, ◌+◌, ◌<◌, List, ◌++◌, map, drop, length, get_or, ap}
use Rattle.sw_tree.specs.declared.statement.Statement.{Statement}
use Rattle.sw_convert_written.proofs.Joins.{next}
use Rattle.sw_convert_lines.specs.Layout.{Shown, first_of, first_refused}
use Rattle.sw_convert_lines.specs.Lines.{in_lines, blank_before, top_lines}

pub top_next : (xs : List Statement) (i : ℕ) (x : Statement) → i < length xs → x ≡ get_or xs i x
    → top_lines (drop i xs) ≡ (in_lines x).text 0 ++ (blank_before x (drop (i + 1) xs) ++ top_lines (drop (i + 1) xs))
top_next xs i x lt is = ap top_lines (next xs i x lt is)

pub refused_next : {A : Type 0} (f : A → Shown) (xs : List A) (i : ℕ) (x : A) → i < length xs → x ≡ get_or xs i x
    → first_refused (map f (drop i xs)) ≡ first_of (f x).refused (first_refused (map f (drop (i + 1) xs)))
refused_next {A} f xs i x lt is = ap (λ (ys : List A). first_refused (map f ys)) (next xs i x lt is)
