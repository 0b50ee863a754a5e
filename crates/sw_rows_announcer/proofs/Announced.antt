-- What the turns of a body do.
use Rattle.std.proofs.Common.{◌≡◌, ℕ, ◌<◌, ◌≤◌, Option, None, Some, List, [], ◌∷◌, ◌++◌, length, slice_get, refl, sym, ◌∙◌, ap, subst, append-nil, arith}
use Rattle.sw_text.specs.declared.place.Span.{Span}
use Rattle.sw_text.specs.declared.fault.Fault.{Fault}
use Rattle.sw_text.specs.declared.fault.FaultCode.TheVariants.{UnknownVariable}
use Rattle.sw_tree.specs.declared.statement.Statement.{Statement}
use Rattle.sw_world.specs.declared.question.Question.{Question}
use Rattle.sw_world.specs.declared.answer.Answer.{Answer}
use Rattle.sw_world.specs.declared.end.End.{End}
use Rattle.sw_world.specs.declared.end.End.TheVariants.{Fault as Fault_end, Done as Done_end}
use Rattle.sw_world.specs.declared.end.Finish.{Finish}
use Rattle.sw_world.specs.declared.end.Turn.{Turn}
use Rattle.sw_world.specs.declared.end.Turn.TheVariants.{Load as Turn_Load, Ended as Turn_Ended}
use Rattle.sw_world.specs.Questions.{IsLoad, Fits}
use Rattle.sw_world.specs.Body.{Pair, Next, Asks, Ends, answers}
use Rattle.sw_rows_announcer.specs.Turns.{TurnDid, IsStep}
use Rattle.sw_rows_announcer.specs.Announcing.{begin_of, leaves_nothing, end_by, does_at, asks_at, loaded_at, load_of, message_of, refusal, first_refusal, IsLoaded}

pub did_none : {W : Type 0} (gives : W → Question → Answer → W → Type 0) (next : List Answer → Next) (ps qs : List Pair) (w x : W) → qs ≡ ps → x ≡ w → TurnDid gives next ps w qs x
did_none gives next ps qs w x same stays = record { asked = []; grew = same ∙ sym (append-nil ps); led = stays; goes = tt }

pub waits : (own : End) (path : List ℕ) (qs : List Pair) (op : Question) → qs ≡ [] → op ≡ load_of path → IsStep (asks_at own path) qs (Turn_Load op)
waits own path [] op none is = (ap Asks (sym is), subst (λ (o : Question). IsLoad o) (sym is) tt)
waits own path (q ∷ qs) op none is = absurd cc

-- why the first answer refuses the load, where there is one
pub no_refusal : (ps : List Pair) → None ≡ slice_get ps 0 → None ≡ first_refusal ps
no_refusal [] e = refl
no_refusal (p ∷ ps) e = absurd cc

pub refusal_there : (ps : List Pair) (p : Pair) → Some p ≡ slice_get ps 0 → refusal p.1 ≡ first_refusal ps
refusal_there [] p e = absurd cc
refusal_there (q ∷ ps) p e = let same : p ≡ q = cc in ap (λ (r : Pair). refusal r.1) same

pub is_loaded : (ps : List Pair) → (length ps ≡ 0 → ⊥) → first_refusal ps ≡ None → IsLoaded ps
is_loaded [] some none = absurd (some refl)
is_loaded (p ∷ ps) some none = none

pub is_refused : (own : End) (path : List ℕ) (ps : List Pair) (fault : Fault) → (length ps ≡ 0 → ⊥) → first_refusal ps ≡ Some fault → IsStep (asks_at own path) ps (Turn_Ended (Fault_end fault))
is_refused own path [] fault some is = absurd (some refl)
is_refused own path (p ∷ ps) fault some is = ap (λ (r : Option Fault). loaded_at own path r (answers ps)) is

one_loaded : (own : End) (path : List ℕ) (ps : List Pair) → IsLoaded ps → length ps ≤ 1 → asks_at own path (answers ps) ≡ Asks (message_of path)
one_loaded own path [] loaded few = absurd loaded
one_loaded own path (p ∷ []) loaded few = ap (λ (r : Option Fault). loaded_at own path r []) loaded
one_loaded own path (p ∷ q ∷ ps) loaded few = absurd (omega (arith, few))

pub did_say : {W : Type 0} (gives : W → Question → Answer → W → Type 0) (own : End) (path : List ℕ) (ps qs : List Pair) (op : Question) (a : Answer) (w x : W)
    → op ≡ message_of path → IsLoaded ps → length ps ≤ 1 → qs ≡ ps ++ (op, a) ∷ [] → gives w op a x → Fits op a → TurnDid gives (asks_at own path) ps w qs x
did_say gives own path ps qs op a w x is loaded few grew given fits =
    let plain : IsLoad op → ⊥ = λ l. subst (λ (o : Question). IsLoad o) is l in
    let asks : asks_at own path (answers ps) ≡ Asks op = one_loaded own path ps loaded few ∙ ap Asks (sym is) in
    record { asked = (op, a) ∷ []; grew = grew; led = (plain, (x, given, refl)); goes = (asks, fits, tt) }

pub ends_before : (own : End) (path : List ℕ) (ps : List Pair) → IsLoaded ps → 1 < length ps → asks_at own path (answers ps) ≡ Ends own
ends_before own path [] loaded some = absurd loaded
ends_before own path (p ∷ []) loaded some = absurd (omega (arith, some))
ends_before own path (p ∷ q ∷ ps) loaded some = ap (λ (r : Option Fault). loaded_at own path r (answers (q ∷ ps))) loaded

pub ends_now : (own : End) (path : List ℕ) (ps qs : List Pair) (p : Pair) → IsLoaded ps → qs ≡ ps ++ p ∷ [] → asks_at own path (answers qs) ≡ Ends own
ends_now own path [] qs p loaded grew = absurd loaded
ends_now own path (q ∷ []) qs p loaded grew = ap (λ (l : List Pair). asks_at own path (answers l)) grew ∙ ap (λ (r : Option Fault). loaded_at own path r (p.1 ∷ [])) loaded
ends_now own path (q ∷ r ∷ ps) qs p loaded grew = ap (λ (l : List Pair). asks_at own path (answers l)) grew ∙ ap (λ (o : Option Fault). loaded_at own path o (answers (r ∷ ps ++ p ∷ []))) loaded

-- a body whose sheet has no statement, and one whose sheet has some
pub step_none : (xs : List Statement) (own end : End) (path : List ℕ) (qs : List Pair) → xs ≡ [] → end ≡ own → IsStep (does_at xs own path) qs (Turn_Ended end)
step_none [] own end path qs e is = ap Ends (sym is)
step_none (x ∷ xs) own end path qs e is = absurd cc

pub step_some : (xs : List Statement) (own : End) (path : List ℕ) (qs : List Pair) (t : Turn) → (xs ≡ [] → ⊥) → IsStep (asks_at own path) qs t → IsStep (does_at xs own path) qs t
step_some [] own path qs t some is = absurd (some refl)
step_some (x ∷ xs) own path qs t some is = is

pub did_some : {W : Type 0} (gives : W → Question → Answer → W → Type 0) (xs : List Statement) (own : End) (path : List ℕ) (ps qs : List Pair) (w x : W) → (xs ≡ [] → ⊥)
    → TurnDid gives (asks_at own path) ps w qs x → TurnDid gives (does_at xs own path) ps w qs x
did_some gives [] own path ps qs w x some did = absurd (some refl)
did_some gives (y ∷ ys) own path ps qs w x some did = did

-- how a body ends whose sheet has no variable, and one whose sheet has some
pub end_none : (xs : List (List ℕ)) (path : List ℕ) (finish : Finish) → xs ≡ [] → finish ≡ leaves_nothing → Done_end finish ≡ end_by xs path
end_none [] path finish e is = ap Done_end is
end_none (x ∷ xs) path finish e is = absurd cc

pub end_some : (xs : List (List ℕ)) (path : List ℕ) (span : Span) → (xs ≡ [] → ⊥) → span ≡ begin_of path → Fault_end (record { code = UnknownVariable; span = span }) ≡ end_by xs path
end_some [] path span some is = absurd (some refl)
end_some (x ∷ xs) path span some is = ap (λ (s : Span). Fault_end (record { code = UnknownVariable; span = s })) is
