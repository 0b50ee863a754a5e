-- Plain CSS imports, a line at a time.
use Rattle.std.proofs.Common.{◌≡◌, ℕ, ◌+◌, ◌<◌, ◌≤◌, List, length, drop, get_or, Result, Err, refl, sym, ◌∙◌, ap}
use Rattle.std.specs.Prelude.{IsErr, IsErrAnd}
use Rattle.sw_text.specs.declared.place.Span.{Span}
use Rattle.sw_eval_questions.specs.Talk.{Talk, Gives, bind}
use Rattle.sw_eval_questions.specs.Did.{IsReturn}
use Rattle.sw_eval_questions.specs.declared.stop.Stop.{Stop}
use Rattle.sw_eval_questions.proofs.Steps.{plain_err}
use Rattle.sw_eval_questions.proofs.Loops.{next_item, drop_all}
use Rattle.sw_eval_state.specs.AtRules.{imported_one, imported_all}
use Rattle.sw_eval_state.specs.declared.state.State.{State}

pub line_next : (texts : List (List ℕ)) (i : ℕ) (text : List ℕ) (at : Span) (s u : State) → i < length texts → text ≡ get_or texts i text → imported_one text at s ≡ Gives (tt, u)
    → imported_all (drop (i + 1) texts) at u ≡ imported_all (drop i texts) at s
unfolding bind
line_next texts i text at s u lt is gave =
    sym (ap (λ (l : List (List ℕ)). imported_all l at s) (next_item texts i text lt is)
    ∙ ap (λ (t : Talk (Unit {0} × State)). bind t (λ v. imported_all (drop (i + 1) texts) at v.1)) gave)

pub line_err : (texts : List (List ℕ)) (i : ℕ) (text : List ℕ) (at : Span) (s u : State) (e : Stop) (r : Result (Unit {0}) Stop) → i < length texts → text ≡ get_or texts i text
    → IsReturn {A = Unit {0}} (Err e) u (imported_one text at s) → IsErr r × IsErrAnd r (λ x. x ≡ e) → IsReturn r u (imported_all (drop i texts) at s)
line_err texts i text at s u e r lt is gave p =
    rw (next_item texts i text lt is) (plain_err (imported_one text at s) (λ v. imported_all (drop (i + 1) texts) at v.1) e r u u gave p)

pub line_end : (texts : List (List ℕ)) (i : ℕ) (at : Span) (s : State) → length texts ≤ i → imported_all (drop i texts) at s ≡ Gives (tt, s)
line_end texts i at s le = rw (drop_all texts i le) refl
