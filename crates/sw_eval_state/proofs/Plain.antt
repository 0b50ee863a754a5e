-- The steps of what asks nothing and has no fault.
use Rattle.std.proofs.Common.{◌≡◌, ℕ, ◌+◌, ◌<◌, ◌≤◌, List, [], ◌∷◌, length, drop, get_or, Result, Err, refl, sym, ◌∙◌, ap}
use Rattle.std.specs.Prelude.{IsErr, IsErrAnd}
use Rattle.sw_values.specs.declared.plain.Plain.{Plain}
use Rattle.sw_eval_questions.specs.Talk.{Talk, Gives}
use Rattle.sw_eval_questions.specs.Did.{IsReturn}
use Rattle.sw_eval_questions.specs.declared.stop.Stop.{Stop}
use Rattle.sw_eval_questions.specs.declared.stop.Stop.TheVariants.{Memory, Fault}
use Rattle.sw_eval_questions.proofs.Steps.{err_of}
use Rattle.sw_eval_questions.proofs.Loops.{next_item, drop_all}
use Rattle.sw_eval_state.specs.Scope.{set_by}
use Rattle.sw_eval_state.specs.Loop_variables.{null_declared, nulls_declared, all_set}
use Rattle.sw_eval_state.specs.declared.state.State.{State}

only_memory : {A S : Type 0} (e : Stop) (u : S) (x : A × S) → IsReturn {A = A} (Err e) u (Gives x) → e ≡ Memory
only_memory Memory u x is = refl
only_memory (Fault code) u x is = absurd cc

-- what it returns where it fails
pub plain_memory : {A B S : Type 0} (t : Talk (B × S)) (s u : S) (r : Result B Stop) (e : Stop) (x : A × S) → IsReturn {A = A} (Err e) u (Gives x) → IsErr r × IsErrAnd r (λ y. y ≡ e) → IsReturn r s t
plain_memory t s u r e x is p = rw (err_of r e p, only_memory e u x is) tt

-- ---- names and values in turn

pub nulls_next : (names : List (List ℕ)) (i : ℕ) (name : List ℕ) (s u : State) → i < length names → name ≡ get_or names i name → null_declared name s ≡ u → nulls_declared (drop (i + 1) names) u ≡ nulls_declared (drop i names) s
nulls_next names i name s u lt is gave =
    ap (nulls_declared (drop (i + 1) names)) (sym gave) ∙ ap (λ (l : List (List ℕ)). nulls_declared l s) (sym (next_item names i name lt is))

pub set_next : (names : List (List ℕ)) (vs : List Plain) (i : ℕ) (name : List ℕ) (v : Plain) (s u : State) → i < length names → i < length vs → name ≡ get_or names i name → v ≡ get_or vs i v → set_by s (name, v) ≡ u
    → all_set (drop (i + 1) names) (drop (i + 1) vs) u ≡ all_set (drop i names) (drop i vs) s
set_next names vs i name v s u lt more is has gave =
    ap (all_set (drop (i + 1) names) (drop (i + 1) vs)) (sym gave)
    ∙ ap (λ (l : List (List ℕ)). all_set l (v ∷ drop (i + 1) vs) s) (sym (next_item names i name lt is))
    ∙ ap (λ (l : List Plain). all_set (drop i names) l s) (sym (next_item vs i v more has))

none_set : (names : List (List ℕ)) (s : State) → all_set names [] s ≡ s
none_set [] s = refl
none_set (name ∷ names) s = refl

pub set_none : (names : List (List ℕ)) (vs : List Plain) (i : ℕ) (s : State) → length vs ≤ i → all_set (drop i names) (drop i vs) s ≡ s
set_none names vs i s le = ap (λ (l : List Plain). all_set (drop i names) l s) (drop_all vs i le) ∙ none_set (drop i names) s

pub set_end : (names : List (List ℕ)) (vs : List Plain) (i : ℕ) (s : State) → length names ≤ i → all_set (drop i names) (drop i vs) s ≡ s
set_end names vs i s le = ap (λ (l : List (List ℕ)). all_set l (drop i vs) s) (drop_all names i le)
