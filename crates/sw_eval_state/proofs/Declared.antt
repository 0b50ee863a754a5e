-- The functions and mixins of a sheet, one at a time.
use Rattle.std.proofs.Common.{◌≡◌, ℕ, ◌+◌, ◌<◌, ◌≤◌, List, length, drop, get_or, refl}
use Rattle.sw_tree.specs.declared.callable.Callable.{Callable}
use Rattle.sw_tree.specs.declared.statement.Statement.{Statement}
use Rattle.sw_eval_questions.proofs.Loops.{next_item, drop_all}
use Rattle.sw_eval_state.specs.Left.{callable_of, and_one, declared}

pub declared_next : (all : List Callable) (xs : List Statement) (i : ℕ) (x : Statement) → i < length xs → x ≡ get_or xs i x
    → declared all (drop i xs) ≡ declared (and_one all (callable_of x)) (drop (i + 1) xs)
declared_next all xs i x lt is = rw (next_item xs i x lt is) refl

pub declared_end : (all : List Callable) (xs : List Statement) (i : ℕ) → length xs ≤ i → declared all (drop i xs) ≡ all
declared_end all xs i le = rw (drop_all xs i le) refl
