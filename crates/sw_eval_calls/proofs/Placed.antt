-- The arguments of a call with their values, one at a time.
use Rattle.std.proofs.Common.{◌≡◌, ℕ, ◌+◌, ◌<◌, ◌≤◌, Bool, true, false, List, [], ◌∷◌, length, drop, get_or, refl}
use Rattle.sw_text.specs.declared.place.Span.{Span}
use Rattle.sw_tree.specs.declared.expr.Argument.{Argument}
use Rattle.sw_values.specs.declared.plain.Plain.{Plain}
use Rattle.sw_scope.specs.declared.passed.Passed.{Passed}
use Rattle.sw_eval_calls.specs.Passing.{passed_on}
use Rattle.sw_eval_calls.specs.Placing.{all_passed, is_writable, unwritable}
use Rattle.sw_eval_calls.proofs.Items.{next_item, drop_all}

pub passed_next : (p : Passed) (args : List Argument) (vs : List Plain) (i : ℕ) (a : Argument) (v : Plain) → i < length args → i < length vs → a ≡ get_or args i a → v ≡ get_or vs i v
    → all_passed (passed_on p a v) (drop (i + 1) args) (drop (i + 1) vs) ≡ all_passed p (drop i args) (drop i vs)
passed_next p args vs i a v lt more is has = rw (next_item args i a lt is, next_item vs i v more has) refl

none_passed_on : (p : Passed) (args : List Argument) → all_passed p args [] ≡ p
none_passed_on p [] = refl
none_passed_on p (a ∷ args) = refl

pub passed_none : (p : Passed) (args : List Argument) (vs : List Plain) (i : ℕ) → length vs ≤ i → all_passed p (drop i args) (drop i vs) ≡ p
passed_none p args vs i le = rw (drop_all vs i le) (none_passed_on p (drop i args))

pub passed_end : (p : Passed) (args : List Argument) (vs : List Plain) (i : ℕ) → length args ≤ i → all_passed p (drop i args) (drop i vs) ≡ p
passed_end p args vs i le = rw (drop_all args i le) refl

module _ (sides : Bool) (span : Span) where
  pub writable_next : (args : List Argument) (vs : List Plain) (i : ℕ) (a : Argument) (v : Plain) → i < length args → i < length vs → a ≡ get_or args i a → v ≡ get_or vs i v → is_writable sides a v ≡ true
      → unwritable sides (drop (i + 1) args) (drop (i + 1) vs) span ≡ unwritable sides (drop i args) (drop i vs) span
  writable_next args vs i a v lt more is has e = rw (next_item args i a lt is, next_item vs i v more has, e) refl

  pub writable_wrong : (args : List Argument) (vs : List Plain) (i : ℕ) (a : Argument) (v : Plain) → i < length args → i < length vs → a ≡ get_or args i a → v ≡ get_or vs i v → is_writable sides a v ≡ false
      → unwritable sides (drop i args) (drop i vs) span ≡ a.value.span
  writable_wrong args vs i a v lt more is has e = rw (next_item args i a lt is, next_item vs i v more has, e) refl

  none_unwritable : (args : List Argument) → unwritable sides args [] span ≡ span
  none_unwritable [] = refl
  none_unwritable (a ∷ args) = refl

  pub writable_none : (args : List Argument) (vs : List Plain) (i : ℕ) → length vs ≤ i → unwritable sides (drop i args) (drop i vs) span ≡ span
  writable_none args vs i le = rw (drop_all vs i le) (none_unwritable (drop i args))

  pub writable_end : (args : List Argument) (vs : List Plain) (i : ℕ) → length args ≤ i → unwritable sides (drop i args) (drop i vs) span ≡ span
  writable_end args vs i le = rw (drop_all args i le) refl
