-- The arguments of `if()`, one at a time.
use Rattle.std.proofs.Common.{◌≡◌, ℕ, ◌+◌, ◌<◌, ◌≤◌, Bool, true, false, List, length, drop, get_or, Some, None, refl}
use Rattle.std.specs.Option.{is_some}
use Rattle.sw_tree.specs.declared.expr.Argument.{Argument}
use Rattle.sw_eval_questions.proofs.Loops.{next_item, drop_all}
use Rattle.sw_eval_expressions.specs.Choosing.{ordered, is_named, by_name}

pub named_on : (named : Bool) (args : List Argument) (i : ℕ) (a : Argument) → i < length args → a ≡ get_or args i a → is_some a.name ≡ true
    → ordered named (drop i args) ≡ ordered true (drop (i + 1) args)
named_on named args i a lt is e = rw (next_item args i a lt is, e) refl

pub named_off : (args : List Argument) (i : ℕ) (a : Argument) → i < length args → a ≡ get_or args i a → is_some a.name ≡ false → ordered true (drop i args) ≡ false
named_off args i a lt is e = rw (next_item args i a lt is, e) refl

pub unnamed_on : (args : List Argument) (i : ℕ) (a : Argument) → i < length args → a ≡ get_or args i a → is_some a.name ≡ false
    → ordered false (drop i args) ≡ ordered false (drop (i + 1) args)
unnamed_on args i a lt is e = rw (next_item args i a lt is, e) refl

pub ordered_end : (named : Bool) (args : List Argument) (i : ℕ) → length args ≤ i → ordered named (drop i args) ≡ true
ordered_end named args i le = rw (drop_all args i le) refl

pub name_found : (name : List ℕ) (args : List Argument) (i : ℕ) (a : Argument) → i < length args → a ≡ get_or args i a → is_named a.name name ≡ true → by_name name (drop i args) ≡ Some a.value
name_found name args i a lt is e = rw (next_item args i a lt is, e) refl

pub name_passed : (name : List ℕ) (args : List Argument) (i : ℕ) (a : Argument) → i < length args → a ≡ get_or args i a → is_named a.name name ≡ false → by_name name (drop i args) ≡ by_name name (drop (i + 1) args)
name_passed name args i a lt is e = rw (next_item args i a lt is, e) refl

pub name_end : (name : List ℕ) (args : List Argument) (i : ℕ) → length args ≤ i → by_name name (drop i args) ≡ None
name_end name args i le = rw (drop_all args i le) refl
