-- A compile under way, before and after a step.
use Rattle.std.proofs.Common.{◌≡◌, List, [], ◌∷◌, ◌++◌, Option, None, Some, Result, Ok, Err, IfOk, refl, sym, ◌∙◌, ap, subst, append_assoc}
use Rattle.sw_text.specs.declared.Memory.{Memory}
use Rattle.sw_modules.specs.Fresh.{Setting}
use Rattle.sw_step_bodies.specs.declared.begun.Start.{Start}
use Rattle.sw_step_bodies.specs.declared.stepped.StepReply.{StepReply}
use Rattle.sw_step_bodies.specs.declared.stepped.Stepped.{Stepped}
use Rattle.sw_step_bodies.specs.declared.stepped.Stepped.TheVariants as S
use Rattle.sw_step_bodies.specs.Stepping.{Step, Loading, Finished, Ended}
use Rattle.sw_step_bodies.specs.Standing.{Rest, Moment, behind, whole}
use Rattle.sw_step_bodies.specs.Under.{left_of, DidGo}
use Rattle.sw_step.specs.Joint.{UnderWay}
use Rattle.sw_step.specs.Under.{under_way_of, IsStanding, IsNext}

-- nothing has begun
pub none_standing : (setting : Setting) (start : Start) → IsStanding setting start None
none_standing setting start = record { done = []; is = refl }

module _ (setting : Setting) (start : Start) (old : Option Moment) (standing : IsStanding setting start old) where
  -- the last step
  pub ended_next : (reply : StepReply) (now : UnderWay) → left_of setting start old ≡ record { steps = []; reply = reply } → IsNext setting (under_way_of setting start old) (S.Ended reply) now
  ended_next reply now left =
      let same : reply ≡ (whole setting start.folder start.paths start.entry).reply = ap (λ (r : Rest). r.reply) (sym left) ∙ ap (λ (r : Rest). r.reply) standing.is in (
        ap (λ (r : Rest). r.steps ++ Ended ∷ []) left,
        record {
          says = ap (λ (r : StepReply). r.says) same;
          times = ap (λ (r : StepReply). r.times) same;
          outcome = ap (λ (r : StepReply). r.outcome) same;
        },
      )

  -- another one
  next_standing : (step : Step) (m : Moment) → left_of setting start old ≡ behind (step ∷ []) (left_of setting start (Some m)) → IsStanding setting start (Some m)
  next_standing step m left =
      let rest : Rest = left_of setting start (Some m) in
      record {
        done = standing.done ++ step ∷ [];
        is = ap (λ (l : List Step). record rest { steps = l }) (append_assoc standing.done (step ∷ []) rest.steps) ∙ ap (behind standing.done) (sym left) ∙ standing.is;
      }

  same_standing : (now : Option Moment) → left_of setting start now ≡ left_of setting start old → IsStanding setting start now
  same_standing now left = record { done = standing.done; is = ap (behind standing.done) left ∙ standing.is }

-- where a compile has begun and went on
module _ (setting : Setting) (start : Start) (old : Option Moment) (begun : Moment) (standing : IsStanding setting start old) (same : left_of setting start (Some begun) ≡ left_of setting start old) where
  pub went_standing : (now : Option Moment) (answer : Result Stepped Memory) → DidGo setting start.folder begun now answer → IsStanding setting start now
  went_standing now (Ok (S.Loading body opened)) did =
      subst (IsStanding setting start) (sym did.1) (next_standing setting start old standing (Loading body opened) did.0 (sym same ∙ did.2))
  went_standing now (Ok (S.Finished body)) did =
      subst (IsStanding setting start) (sym did.1) (next_standing setting start old standing (Finished body) did.0 (sym same ∙ did.2))
  went_standing now (Ok (S.Ended reply)) did = subst (IsStanding setting start) (sym did.0) (none_standing setting start)
  went_standing now (Err memory) did =
      subst (IsStanding setting start) (sym did.1) (same_standing setting start old standing (Some did.0) (did.2 ∙ same))

  -- what it answers is the first of the steps that were left
  pub went_next : (now : Option Moment) (answer : Result Stepped Memory) → DidGo setting start.folder begun now answer
      → IfOk answer (λ (stepped : Stepped). IsNext setting (under_way_of setting start old) stepped (under_way_of setting start now))
  went_next now (Ok (S.Loading body opened)) did =
      subst (λ (m : Option Moment). IsNext setting (under_way_of setting start old) (S.Loading body opened) (under_way_of setting start m)) (sym did.1)
      (ap (λ (r : Rest). r.steps ++ Ended ∷ []) (sym same ∙ did.2), refl)
  went_next now (Ok (S.Finished body)) did =
      subst (λ (m : Option Moment). IsNext setting (under_way_of setting start old) (S.Finished body) (under_way_of setting start m)) (sym did.1)
      (ap (λ (r : Rest). r.steps ++ Ended ∷ []) (sym same ∙ did.2), refl)
  went_next now (Ok (S.Ended reply)) did =
      ended_next setting start old standing reply (under_way_of setting start now) (sym same ∙ did.1)
  went_next now (Err memory) did = tt
