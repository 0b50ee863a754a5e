-- The parameters of a built-in function, one at a time.
use Rattle.std.proofs.Common.{◌≡◌, ℕ, ◌+◌, ◌<◌, ◌≤◌, List, [], ◌∷◌, ◌++◌, length, drop, get_or, Result, Ok, Err, refl, append_assoc, append-nil}
use Rattle.std.specs.Prelude.{IsErr, IsErrAnd}
use Rattle.sw_text.specs.declared.place.Span.{Span}
use Rattle.sw_tree.specs.declared.callable.Param.{Param}
use Rattle.sw_values.specs.declared.plain.Plain.{Plain}
use Rattle.sw_scope.specs.declared.slots.Slot.{Slot}
use Rattle.sw_scope.specs.Frames.{Variable}
use Rattle.sw_eval_literals.specs.declared.refused.Refused.{Refused}
use Rattle.sw_eval_literals.specs.Answers.{Returns}
use Rattle.sw_eval_calls.proofs.Items.{next_item, drop_all}
use Rattle.sw_eval_calls.specs.Passing.{Slots}
use Rattle.sw_eval_built_in_calls.specs.BuiltIns.{filled_with, filled, names_of}
use Rattle.sw_eval_calls.proofs.Answering.{refused_then}

pub slot_next : (done : List Variable) (params : List Param) (slots : Slots) (i : ℕ) (slot : List ℕ × Slot) (v : Plain) (at : Span) → i < length slots → slot ≡ get_or slots i slot → filled_with params slot.1 at ≡ Ok v
    → filled done params (drop i slots) at ≡ filled (done ++ (slot.0, v) ∷ []) params (drop (i + 1) slots) at
slot_next done params slots i slot v at lt is e = rw (next_item slots i slot lt is, e) refl

pub slot_refused : (done : List Variable) (params : List Param) (slots : Slots) (i : ℕ) (slot : List ℕ × Slot) (e : Refused) (r : Result (List Variable) Refused) (at : Span) → i < length slots → slot ≡ get_or slots i slot → Returns {A = Plain} (Err e) (filled_with params slot.1 at)
    → IsErr r × IsErrAnd r (λ x. x ≡ e) → Returns r (filled done params (drop i slots) at)
slot_refused done params slots i slot e r at lt is gave p =
    rw (next_item slots i slot lt is) (refused_then (filled_with params slot.1 at) (λ v. filled (done ++ (slot.0, v) ∷ []) params (drop (i + 1) slots) at) e r gave p)

pub slots_end : (done : List Variable) (params : List Param) (slots : Slots) (i : ℕ) (at : Span) → length slots ≤ i → filled done params (drop i slots) at ≡ Ok done
slots_end done params slots i at le = rw (drop_all slots i le) refl

-- ---- names

pub name_next : (done : List (List ℕ)) (vs : List Variable) (i : ℕ) (v : Variable) → i < length vs → v ≡ get_or vs i v → (done ++ v.0 ∷ []) ++ names_of (drop (i + 1) vs) ≡ done ++ names_of (drop i vs)
name_next done vs i v lt is = rw (next_item vs i v lt is) (append_assoc done (v.0 ∷ []) (names_of (drop (i + 1) vs)))

pub names_end : (done : List (List ℕ)) (vs : List Variable) (i : ℕ) → length vs ≤ i → done ++ names_of (drop i vs) ≡ done
names_end done vs i le = rw (drop_all vs i le) (append-nil done)
