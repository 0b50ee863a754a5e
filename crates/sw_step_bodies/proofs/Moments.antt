-- The moves of a compile, from moment to moment.
use Rattle.std.proofs.Common.{◌≡◌, ℕ, suc, ◌+◌, List, [], ◌∷◌, ◌++◌, length, reverse, None, Some, refl, sym, ◌∙◌, ap, length-append, arith}
use Rattle.std.proofs.lemmas.List.{length-reverse, reverse-append}
use Rattle.sw_world.specs.declared.question.Question.{Question}
use Rattle.sw_world.specs.declared.answer.Answer.{Answer}
use Rattle.sw_world.specs.declared.end.End.{End}
use Rattle.sw_world.specs.Laws.{EndsInTime}
use Rattle.sw_record.specs.declared.reply.Outcome.{Outcome}
use Rattle.sw_modules.specs.State.{State, path_in}
use Rattle.sw_modules.specs.Loads.{ended_by, left_by}
use Rattle.sw_modules.specs.Fresh.{Setting}
use Rattle.sw_step_bodies.specs.declared.body.Work.{Work}
use Rattle.sw_step_bodies.specs.declared.loading.Loaded.TheVariants.{Opens}
use Rattle.sw_step_bodies.specs.declared.going.Came.TheVariants as C
use Rattle.sw_step_bodies.specs.Compiled.{outcome_of}
use Rattle.sw_step_bodies.specs.Stepping.{Loading, Finished}
use Rattle.sw_step_bodies.specs.Standing.{Standing, Waits, behind, with_answer, resumed, left_above, left_at}
use Rattle.sw_step_bodies.specs.Bodies.{Inner, IsAsking, IsEnding, job_of}
use Rattle.sw_step_bodies.specs.Moves.{IsAnswered, IsDeep, DidLoad, DidAnswer, Comes, moment_of}
use Rattle.sw_step_bodies.proofs.Loads.{open_more}
use Rattle.sw_step_bodies.proofs.Levels.{above_answered, above_opened, above_over, above_closed}

-- the bodies that have ended, and one more
pub ended_more : (times reserved times2 : List (List ℕ × ℕ)) (path named : List ℕ) (count loads : ℕ) → times2 ≡ reserved ++ (named, loads + 1) ∷ [] → reserved ≡ times → named ≡ path → loads ≡ count
    → times2 ≡ times ++ (path, suc count) ∷ []
ended_more times reserved times2 path named count loads is kept same counted =
    let more : loads + 1 ≡ suc count = omega (arith, counted) in
    is
    ∙ ap (λ (l : List (List ℕ × ℕ)). l ++ (named, loads + 1) ∷ []) kept
    ∙ ap (λ (p : List ℕ). times ++ (p, loads + 1) ∷ []) same
    ∙ ap (λ (n : ℕ). times ++ (path, n) ∷ []) more

-- what a load that waits is answered, by the load that it is
pub given_here : (i j : Inner) (op : Question) (a : Answer) → Some op ≡ i.asks → ((o : Question) × (i.asks ≡ Some o) × (j ≡ record { standing = with_answer i.standing o a; asks = None }))
    → j ≡ record { standing = with_answer i.standing op a; asks = None }
given_here i j op a asks gave =
    let same : gave.0 ≡ op = cc (asks, gave.1) in
    gave.2 ∙ ap (λ (o : Question). record { standing = with_answer i.standing o a; asks = None }) same

pub waits_here : (i : Inner) (op : Question) (waits waits2 : List Waits) → Some op ≡ i.asks → ((o : Question) × (i.asks ≡ Some o) × (waits2 ≡ waits ++ (record { body = i.standing; op = o }) ∷ []))
    → waits2 ≡ waits ++ (record { body = i.standing; op = op }) ∷ []
waits_here i op waits waits2 asks gave =
    let same : gave.0 ≡ op = cc (asks, gave.1) in
    gave.2 ∙ ap (λ (o : Question). waits ++ (record { body = i.standing; op = o }) ∷ []) same

module _ (setting : Setting) (in_time : EndsInTime setting.body) (live now : State) (waits : List Waits) (i j : Inner) (times : List (List ℕ × ℕ)) (deep : IsDeep live waits) where
  above_deep : length live.opened ≡ suc (length (reverse waits))
  above_deep = deep ∙ ap suc (sym (length-reverse waits))

  -- its load was answered
  pub moment_answered : (op : Question) (a : Answer) → IsAsking setting.body i.standing op → IsAnswered setting op a live now → j ≡ record { standing = with_answer i.standing op a; asks = None }
      → DidAnswer setting None (moment_of live waits i times) (moment_of now waits j times)
  moment_answered op a asking answered is =
      let len = length-append i.standing.pairs ((op, a) ∷ []) in
      let more : length j.standing.pairs ≡ length (i.standing.pairs ++ (op, a) ∷ []) = ap (λ (k : Inner). length k.standing.pairs) is in (
        ap (λ (k : Inner). left_at setting (moment_of now waits k times)) is
            ∙ above_answered setting in_time (reverse waits) i.standing times live above_deep op a now asking answered,
        omega (arith, len, more),
      )

  -- a body was opened for its load
  module _ (op : Question) (work : Work) (opened : List ℕ) (waits2 : List Waits) (did : DidLoad setting op (Opens work opened) live now)
      (waits_are : waits2 ≡ waits ++ (record { body = i.standing; op = op }) ∷ []) where
    pub opened_deep : IsDeep now waits2
    opened_deep =
        let more = open_more work.path live now did.2.opens in
        let len = length-append waits ((record { body = i.standing; op = op }) ∷ []) in
        let count : length waits2 ≡ length (waits ++ (record { body = i.standing; op = op }) ∷ []) = ap (λ (l : List Waits). length l) waits_are in
        omega (arith, more, len, count, deep)

    pub moment_opened : (body : List ℕ) → IsAsking setting.body i.standing op → body ≡ i.standing.job.path
        → j ≡ record { standing = record { job = job_of work; count = 0; pairs = [] }; asks = None }
        → DidAnswer setting (Some (C.Loading body opened)) (moment_of live waits i times) (moment_of now waits2 j times)
    moment_opened body asking named is =
        let w : Waits = record { body = i.standing; op = op } in
        let c : Standing = record { job = job_of work; count = 0; pairs = [] } in
        let above : reverse waits2 ≡ w ∷ reverse waits = ap reverse waits_are ∙ reverse-append waits (w ∷ []) in (
          above_opened setting in_time (reverse waits) i.standing times live above_deep op work.path work.sheet work.config now asking did.2
              ∙ ap (λ (ws : List Waits). behind (Loading i.standing.job.path work.path ∷ []) (left_above setting ws c times now)) (sym above)
              ∙ ap (λ (k : Inner). behind (Loading i.standing.job.path work.path ∷ []) (left_at setting (moment_of now waits2 k times))) (sym is)
              ∙ ap (λ (p : List ℕ). behind (Loading p work.path ∷ []) (left_at setting (moment_of now waits2 j times))) (sym named)
              ∙ ap (λ (p : List ℕ). behind (Loading body p ∷ []) (left_at setting (moment_of now waits2 j times))) (sym did.1),
          refl,
        )

  -- the body of the entry ended
  pub moment_over : (end : End) (outcome : Outcome) (times2 : List (List ℕ × ℕ)) → waits ≡ [] → IsEnding setting.body i.standing end
      → outcome ≡ outcome_of end (left_by end live).outputs → times2 ≡ times ++ (i.standing.job.path, suc i.standing.count) ∷ []
      → Comes setting (C.Over outcome) (moment_of live waits i times) (moment_of live waits i times2)
  moment_over end outcome times2 none ending given timed =
      above_over setting in_time (reverse waits) i.standing times live above_deep end (ap reverse none) ending
      ∙ ap (λ (o : Outcome). record { steps = []; reply = record { says = live.says; times = times ++ (i.standing.job.path, suc i.standing.count) ∷ []; outcome = o } }) (sym given)
      ∙ ap (λ (t : List (List ℕ × ℕ)). record { steps = []; reply = record { says = live.says; times = t; outcome = outcome } }) (sym timed)

  -- another body ended, and the load was answered that waited for it
  pub moment_closed : (end : End) (w : Waits) (rest : List Waits) (a : Answer) (body : List ℕ) (times2 : List (List ℕ × ℕ)) → waits ≡ rest ++ w ∷ [] → IsEnding setting.body i.standing end
      → ended_by w.op (path_in live.opened) end live ≡ (a, now) → j ≡ record { standing = resumed w a; asks = None } → body ≡ i.standing.job.path
      → times2 ≡ times ++ (i.standing.job.path, suc i.standing.count) ∷ []
      → Comes setting (C.Finished body) (moment_of live waits i times) (moment_of now rest j times2)
  moment_closed end w rest a body times2 are ending ends is named timed =
      above_closed setting in_time (reverse waits) i.standing times live above_deep w (reverse rest) end a now (ap reverse are ∙ reverse-append rest (w ∷ [])) ending ends
      ∙ ap (λ (p : List ℕ). behind (Finished p ∷ []) (left_above setting (reverse rest) (resumed w a) (times ++ (i.standing.job.path, suc i.standing.count) ∷ []) now)) (sym named)
      ∙ ap (λ (t : List (List ℕ × ℕ)). behind (Finished body ∷ []) (left_above setting (reverse rest) (resumed w a) t now)) (sym timed)
      ∙ ap (λ (k : Inner). behind (Finished body ∷ []) (left_at setting (moment_of now rest k times2))) (sym is)
