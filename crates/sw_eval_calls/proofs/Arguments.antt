-- The arguments of a call, one at a time.
use Rattle.std.proofs.Common.{◌≡◌, ℕ, ◌+◌, ◌<◌, ◌≤◌, true, false, List, [], ◌∷◌, ◌++◌, length, drop, get_or, Option, Some, None, Result, Ok, Err, refl, sym, ap}
use Rattle.std.specs.Prelude.{IsErr, IsErrAnd, IsSome}
use Rattle.sw_text.specs.declared.place.Span.{Span}
use Rattle.sw_text.specs.declared.fault.FaultCode.TheVariants as C
use Rattle.sw_tree.specs.declared.callable.Params.{Params}
use Rattle.sw_values.specs.declared.plain.Plain.{Plain}
use Rattle.sw_values.specs.Shape.{IsTooLarge}
use Rattle.sw_scope.specs.declared.passed.Passed.{Passed}
use Rattle.sw_scope.specs.Frames.{Variable}
use Rattle.sw_scope.specs.Bind.{accepts, rest_value, IsBound, IsRestWithin}
use Rattle.sw_eval_literals.specs.declared.refused.Refused.{Refused}
use Rattle.sw_eval_literals.specs.Answers.{Returns, refused}
use Rattle.sw_eval_literals.specs.Quotients.{plain_at}
use Rattle.sw_eval_calls.proofs.Items.{next_item, drop_all}
use Rattle.sw_eval_calls.specs.Passing.{Slots, plains, plain_named, rest_within, bound_by}
use Rattle.sw_eval_calls.proofs.Answering.{refused_then}

-- ---- without the sides of quotients

pub plain_next : (done vs : List Plain) (i : ℕ) (v plain : Plain) (at : Span) → i < length vs → v ≡ get_or vs i v → plain_at v at ≡ Ok plain
    → plains done (drop i vs) at ≡ plains (done ++ plain ∷ []) (drop (i + 1) vs) at
plain_next done vs i v plain at lt is e = rw (next_item vs i v lt is, e) refl

pub plain_refused : (done vs : List Plain) (i : ℕ) (v : Plain) (e : Refused) (r : Result (List Plain) Refused) (at : Span) → i < length vs → v ≡ get_or vs i v → Returns {A = Plain} (Err e) (plain_at v at)
    → IsErr r × IsErrAnd r (λ x. x ≡ e) → Returns r (plains done (drop i vs) at)
plain_refused done vs i v e r at lt is gave p =
    rw (next_item vs i v lt is) (refused_then (plain_at v at) (λ plain. plains (done ++ plain ∷ []) (drop (i + 1) vs) at) e r gave p)

pub plains_end : (done vs : List Plain) (i : ℕ) (at : Span) → length vs ≤ i → plains done (drop i vs) at ≡ Ok done
plains_end done vs i at le = rw (drop_all vs i le) refl

pub named_next : (done vs : List Variable) (i : ℕ) (v : Variable) (plain : Plain) (at : Span) → i < length vs → v ≡ get_or vs i v → plain_at v.1 at ≡ Ok plain
    → plain_named done (drop i vs) at ≡ plain_named (done ++ (v.0, plain) ∷ []) (drop (i + 1) vs) at
named_next done vs i v plain at lt is e = rw (next_item vs i v lt is, e) refl

pub named_refused : (done vs : List Variable) (i : ℕ) (v : Variable) (e : Refused) (r : Result (List Variable) Refused) (at : Span) → i < length vs → v ≡ get_or vs i v → Returns {A = Plain} (Err e) (plain_at v.1 at)
    → IsErr r × IsErrAnd r (λ x. x ≡ e) → Returns r (plain_named done (drop i vs) at)
named_refused done vs i v e r at lt is gave p =
    rw (next_item vs i v lt is) (refused_then (plain_at v.1 at) (λ plain. plain_named (done ++ (v.0, plain) ∷ []) (drop (i + 1) vs) at) e r gave p)

pub named_end : (done vs : List Variable) (i : ℕ) (at : Span) → length vs ≤ i → plain_named done (drop i vs) at ≡ Ok done
named_end done vs i at le = rw (drop_all vs i le) refl

-- ---- what parameters are given

within_true : (rest : Option (List ℕ)) (v : Plain) → IsRestWithin rest v → rest_within rest v ≡ true
within_true None v is = refl
within_true (Some name) v is = is

pub bound_ok : (params : Params) (p : Passed) (slots : Slots) (at : Span) → IsBound params p slots → bound_by params p at ≡ Ok slots
unfolding bound_by
bound_ok params p slots at b = rw (b.accepted, within_true params.rest (rest_value params p) b.within) (ap Ok (sym b.each))

pub bound_faulty : (params : Params) (p : Passed) (at : Span) → accepts params p ≡ false → bound_by params p at ≡ refused C.ArgumentFault at
unfolding bound_by
bound_faulty params p at e = rw e refl

within_false : (rest : Option (List ℕ)) (v : Plain) → IsSome rest → IsTooLarge v → rest_within rest v ≡ false
within_false None v some is = absurd cc
within_false (Some name) v some is = is

pub bound_heavy : (params : Params) (p : Passed) (at : Span) → (accepts params p ≡ true) × IsSome params.rest × IsTooLarge (rest_value params p) → bound_by params p at ≡ refused C.TooLarge at
unfolding bound_by
bound_heavy params p at h = rw (h.0, within_false params.rest (rest_value params p) h.1 h.2) refl
