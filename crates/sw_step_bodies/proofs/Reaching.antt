-- How the innermost body goes on from where it is.
use Rattle.std.proofs.Common.{◌≡◌, ◌≤◌, List, [], ◌++◌, length, refl, sym, ◌∙◌, ap, subst, append-nil}
use Rattle.sw_world.specs.declared.question.Question.{Question}
use Rattle.sw_world.specs.Body.{Pair, Job, BodyOf}
use Rattle.sw_world.specs.Progress.{Progress}
use Rattle.sw_world.specs.Laws.{EndsInTime, most_asked}
use Rattle.sw_modules.specs.State.{State}
use Rattle.sw_modules.specs.Fresh.{Setting}
use Rattle.sw_step_bodies.specs.declared.body.Work.{Work}
use Rattle.sw_step_bodies.specs.declared.body.Place.{Place}
use Rattle.sw_step_bodies.specs.declared.body.Place.TheVariants.{Known, Running, Asking}
use Rattle.sw_step_bodies.specs.Bodies.{IsPlace, job_of, pairs_at, standing_of}
use Rattle.sw_step_bodies.specs.Moves.{IsOn, WentOn}
use Rattle.sw_step_bodies.proofs.Pairs.{within}
use Rattle.sw_step_bodies.proofs.Places.{goes_at}

-- it went on, and has these pairs then
went_to : (setting : Setting) (p q : Progress) (work : Work) (s t : State) (pairs : List Pair) → p.job ≡ job_of work → WentOn setting p q s t → q.seen ++ q.left ≡ pairs
    → IsOn setting (record { job = job_of work; count = work.loads; pairs = p.seen ++ p.left }) (record { job = job_of work; count = work.loads; pairs = pairs }) s t
went_to setting p q work s t pairs same went are =
    subst (λ (j : Job). IsOn setting (record { job = j; count = work.loads; pairs = p.seen ++ p.left }) (record { job = j; count = work.loads; pairs = pairs }) s t) same
    (subst (λ (l : List Pair). IsOn setting (record { job = p.job; count = work.loads; pairs = p.seen ++ p.left }) (record { job = p.job; count = work.loads; pairs = l }) s t) are (went.on work.loads))

stopped_pairs : (q : Progress) → q.left ≡ [] → q.seen ++ q.left ≡ q.seen
stopped_pairs q none = ap (λ l. q.seen ++ l) none ∙ append-nil q.seen

module _ {B : Type 0} (setting : Setting) (progress : B → Progress) (work : Work) (old new : B) (s t : State) (place : IsPlace setting.body progress (job_of work) (Running old)) (went : WentOn setting (progress old) (progress new) s t) where
  -- up to a load
  pub asking_on : (op : Question) → (progress new).left ≡ [] → IsOn setting (standing_of progress work (Running old)) (standing_of progress work (Asking new op)) s t
  asking_on op none = went_to setting (progress old) (progress new) work s t (progress new).seen place.0 went (stopped_pairs (progress new) none)

  -- until memory ran out
  pub running_on : IsOn setting (standing_of progress work (Running old)) (standing_of progress work (Running new)) s t
  running_on = went_to setting (progress old) (progress new) work s t ((progress new).seen ++ (progress new).left) place.0 went refl

  -- to its end, and these pairs are kept
  pub known_on : (known : List Pair) → known ≡ (progress new).seen → (progress new).left ≡ [] → IsOn setting (standing_of progress work (Running old)) (standing_of progress work (Known known)) s t
  known_on known kept none = went_to setting (progress old) (progress new) work s t known place.0 went (stopped_pairs (progress new) none ∙ sym kept)

pub few_pairs : {B : Type 0} (body : BodyOf) (progress : B → Progress) (work : Work) (place : Place B) → EndsInTime body → IsPlace body progress (job_of work) place → length (pairs_at progress place) ≤ most_asked
few_pairs body progress work place in_time is = within body (job_of work) (pairs_at progress place) in_time (goes_at body progress (job_of work) place is)
