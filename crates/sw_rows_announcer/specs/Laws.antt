-- The five laws of the bodies of the announcer.
use Rattle.std.proofs.Common.{◌≡◌, ℕ, Option, None, Some, List, [], ◌∷◌, ◌++◌, length, map, refl, subst, arith}
use Rattle.sw_text.specs.declared.fault.Fault.{Fault}
use Rattle.sw_tree.specs.declared.statement.Statement.{Statement}
use Rattle.sw_tree.specs.Globals.{globals}
use Rattle.sw_world.specs.declared.question.Question.{Question}
use Rattle.sw_world.specs.declared.answer.Answer.{Answer}
use Rattle.sw_world.specs.declared.answer.Answer.TheVariants.{Refused}
use Rattle.sw_world.specs.declared.end.End.{End}
use Rattle.sw_world.specs.declared.end.End.TheVariants.{Fault as Fault_end, Done as Done_end}
use Rattle.sw_world.specs.declared.end.Finish.{Finish}
use Rattle.sw_world.specs.Questions.{IsLoad}
use Rattle.sw_world.specs.Body.{Pair, Asks, Ends, answers}
use Rattle.sw_world.specs.Laws.{EndsForGood, EndsInTime, AsksFromSources, HasSource, NamesOnce, EachOnce, EndsRefused, most_asked}
use Rattle.sw_rows_announcer.specs.Announcing.{announces, does_at, asks_at, loaded_at, end_of, end_by, leaves_nothing, load_of, message_of, refusal}

-- ---- a body that ended ends for good

loaded_for_good : (own : End) (path : List ℕ) (r : Option Fault) (later more : List Answer) (end : End)
    → loaded_at own path r later ≡ Ends end → loaded_at own path r (later ++ more) ≡ Ends end
loaded_for_good own path (Some fault) later more end e = e
loaded_for_good own path None [] more end e = absurd cc
loaded_for_good own path None (said ∷ later) more end e = e

asks_for_good : (own : End) (path : List ℕ) (given more : List Answer) (end : End)
    → asks_at own path given ≡ Ends end → asks_at own path (given ++ more) ≡ Ends end
asks_for_good own path [] more end e = absurd cc
asks_for_good own path (answer ∷ later) more end e = loaded_for_good own path (refusal answer) later more end e

does_for_good : (xs : List Statement) (own : End) (path : List ℕ) (given more : List Answer) (end : End)
    → does_at xs own path given ≡ Ends end → does_at xs own path (given ++ more) ≡ Ends end
does_for_good [] own path given more end e = e
does_for_good (x ∷ xs) own path given more end e = asks_for_good own path given more end e

pub ends_for_good : EndsForGood announces
ends_for_good job given more end e =
    does_for_good job.sheet.statements (end_of job.sheet job.path) job.path given more end e

-- ---- it ends in time

loaded_in_time : (own : End) (path : List ℕ) (r : Option Fault) (said : Answer) (later : List Answer)
    → (end : End) × (loaded_at own path r (said ∷ later) ≡ Ends end)
loaded_in_time own path (Some fault) said later = (Fault_end fault, refl)
loaded_in_time own path None said later = (own, refl)

does_in_time : (xs : List Statement) (own : End) (path : List ℕ) (given : List Answer) → length given ≡ most_asked
    → (end : End) × (does_at xs own path given ≡ Ends end)
unfolding most_asked
does_in_time [] own path given e = (own, refl)
does_in_time (x ∷ xs) own path [] e = absurd (omega (arith, e))
does_in_time (x ∷ xs) own path (answer ∷ []) e = absurd (omega (arith, e))
does_in_time (x ∷ xs) own path (answer ∷ said ∷ later) e = loaded_in_time own path (refusal answer) said later

pub ends_in_time : EndsInTime announces
ends_in_time job given e = does_in_time job.sheet.statements (end_of job.sheet job.path) job.path given e

-- ---- what it names is its own path

loaded_sourced : (own : End) (path : List ℕ) (seen : List Pair) (r : Option Fault) (later : List Answer) (op : Question)
    → loaded_at own path r later ≡ Asks op → HasSource path seen op
loaded_sourced own path seen (Some fault) later op e = absurd cc
loaded_sourced own path seen None [] op e =
    let is : message_of path ≡ op = cc in subst (λ (o : Question). HasSource path seen o) is tt
loaded_sourced own path seen None (said ∷ later) op e = absurd cc

does_sourced : (xs : List Statement) (own : End) (path : List ℕ) (seen : List Pair) (op : Question)
    → does_at xs own path (answers seen) ≡ Asks op → HasSource path seen op
does_sourced [] own path seen op e = absurd cc
does_sourced (x ∷ xs) own path [] op e =
    let is : load_of path ≡ op = cc in subst (λ (o : Question). HasSource path [] o) is refl
does_sourced (x ∷ xs) own path (p ∷ ps) op e = loaded_sourced own path (p ∷ ps) (refusal p.1) (answers ps) op e

pub asks_from_sources : AsksFromSources announces
asks_from_sources job seen op goes e =
    does_sourced job.sheet.statements (end_of job.sheet job.path) job.path seen op e

-- ---- it leaves no variable behind, where its sheet has none

end_names : (names : List (List ℕ)) (path : List ℕ) (finish : Finish) → end_by names path ≡ Done_end finish
    → EachOnce names (map (λ v. v.0) finish.variables)
end_names [] path finish e =
    let is : leaves_nothing ≡ finish = cc in
    subst (λ (f : Finish). EachOnce [] (map (λ v. v.0) f.variables)) is (λ name. refl)
end_names (name ∷ names) path finish e = absurd cc

loaded_done : (own : End) (path : List ℕ) (r : Option Fault) (later : List Answer) (finish : Finish)
    → loaded_at own path r later ≡ Ends (Done_end finish) → own ≡ Done_end finish
loaded_done own path (Some fault) later finish e = absurd cc
loaded_done own path None [] finish e = absurd cc
loaded_done own path None (said ∷ later) finish e = cc

does_done : (xs : List Statement) (own : End) (path : List ℕ) (given : List Answer) (finish : Finish)
    → does_at xs own path given ≡ Ends (Done_end finish) → own ≡ Done_end finish
does_done [] own path given finish e = cc
does_done (x ∷ xs) own path [] finish e = absurd cc
does_done (x ∷ xs) own path (answer ∷ later) finish e = loaded_done own path (refusal answer) later finish e

pub names_once : NamesOnce announces
names_once job given finish e =
    end_names (globals job.sheet) job.path finish
    (does_done job.sheet.statements (end_of job.sheet job.path) job.path given finish e)

-- ---- a body to which its load is refused ends with that fault

loaded_asks_no_load : (own : End) (path : List ℕ) (r : Option Fault) (later : List Answer) (op : Question)
    → loaded_at own path r later ≡ Asks op → IsLoad op → ⊥
loaded_asks_no_load own path (Some fault) later op e load = cc
loaded_asks_no_load own path None [] op e load =
    let is : op ≡ message_of path = cc in subst (λ (o : Question). IsLoad o) is load
loaded_asks_no_load own path None (said ∷ later) op e load = cc

does_refused : (xs : List Statement) (own : End) (path : List ℕ) (given : List Answer) (op : Question) (fault : Fault)
    → IsLoad op → does_at xs own path given ≡ Asks op
    → does_at xs own path (given ++ Refused fault ∷ []) ≡ Ends (Fault_end fault)
does_refused [] own path given op fault load e = absurd cc
does_refused (x ∷ xs) own path [] op fault load e = refl
does_refused (x ∷ xs) own path (answer ∷ later) op fault load e =
    absurd (loaded_asks_no_load own path (refusal answer) later op e load)

pub ends_refused : EndsRefused announces
ends_refused job given op fault load e =
    does_refused job.sheet.statements (end_of job.sheet job.path) job.path given op fault load e
