-- Where the innermost body is.
use Rattle.std.proofs.Common.{◌≡◌, ◌+◌, ◌≤◌, List, [], ◌∷◌, ◌++◌, length, Some, sym, ◌∙◌, ap, subst, length-append, arith}
use Rattle.sw_world.specs.declared.question.Question.{Question}
use Rattle.sw_world.specs.declared.answer.Answer.{Answer}
use Rattle.sw_world.specs.Body.{Pair, Job, BodyOf, Goes}
use Rattle.sw_world.specs.Questions.{Fits}
use Rattle.sw_world.specs.Laws.{EndsInTime}
use Rattle.sw_world.specs.Progress.{Progress, given}
use Rattle.sw_step_bodies.specs.declared.body.Work.{Work}
use Rattle.sw_step_bodies.specs.declared.body.Place.{Place}
use Rattle.sw_step_bodies.specs.declared.body.Place.TheVariants.{Known, Running, Asking}
use Rattle.sw_step_bodies.specs.Standing.{Waits}
use Rattle.sw_step_bodies.specs.Bodies.{Inner, job_of, pairs_at, asks_at, IsPlace, IsInner, IsWaiting, standing_of, waits_of}
use Rattle.sw_step_bodies.proofs.Pairs.{few_asked, goes_seen, IsGiven, same_given, is_body_given, pairs_given}

pub goes_at : {B : Type 0} (body : BodyOf) (progress : B → Progress) (job : Job) (place : Place B) → IsPlace body progress job place → Goes (body job) [] (pairs_at progress place)
goes_at body progress job (Known known) is = is
goes_at body progress job (Running b) is = subst (λ (j : Job). Goes (body j) [] ((progress b).seen ++ (progress b).left)) is.0 is.2.goes
goes_at body progress job (Asking b op) is = subst (λ (j : Job). Goes (body j) [] (progress b).seen) is.0 (goes_seen body (progress b) is.2)

pub few_at : {B : Type 0} (body : BodyOf) (progress : B → Progress) (work : Work) (place : Place B) → EndsInTime body → IsInner body progress work place → work.loads ≤ 1000000
few_at body progress work place in_time is =
    let few = is.few in
    let bound = few_asked body (job_of work) (pairs_at progress place) in_time (goes_at body progress (job_of work) place is.is_place) in
    omega (arith, few, bound)

-- the load is answered
module _ {B : Type 0} (body : BodyOf) (progress : B → Progress) (work : Work) (b c : B) (op : Question) (a : Answer) (is : IsPlace body progress (job_of work) (Asking b op)) (fits : Fits op a) (gave : IsGiven (progress b) (progress c) a) where
  given_is : progress c ≡ given (progress b) op a
  given_is = same_given (progress b) (progress c) op a is.1 gave

  pub given_place : IsPlace body progress (job_of work) (Running c)
  given_place =
      (ap (λ (p : Progress). p.job) given_is ∙ is.0, ap (λ (p : Progress). p.status) given_is, is_body_given body (progress b) (progress c) op a is.2 is.1 fits gave)

  given_pairs : (progress c).seen ++ (progress c).left ≡ (progress b).seen ++ (op, a) ∷ []
  given_pairs = pairs_given body (progress b) (progress c) op a is.2 is.1 gave

  pub given_longer : length ((progress c).seen ++ (progress c).left) ≡ length (progress b).seen + 1
  given_longer = ap (λ (l : List Pair). length l) given_pairs ∙ length-append (progress b).seen ((op, a) ∷ [])

  pub given_inner : IsInner body progress work (Asking b op) → IsInner body progress work (Running c)
  given_inner inner =
      let few = inner.few in
      let longer = given_longer in
      record { is_place = given_place; few = omega (arith, few, longer) }

-- the answer to the load for which the innermost body stands
pub give_inner : {B : Type 0} (body : BodyOf) (progress : B → Progress) (work : Work) (place : Place B) (b c : B) (q : Question) (i : Inner) (a : Answer) → IsInner body progress work place → place ≡ Asking b q
    → record { standing = standing_of progress work place; asks = asks_at place } ≡ i → ((op : Question) × (i.asks ≡ Some op) × Fits op a) → IsGiven (progress b) (progress c) a → IsInner body progress work (Running c)
give_inner {B} body progress work place b c q i a is at view asked gave =
    let inner = subst (λ (p : Place B). IsInner body progress work p) at is in
    let e : Some q ≡ Some asked.0 = ap asks_at (sym at) ∙ ap (λ (j : Inner). j.asks) view ∙ asked.1 in
    let same : asked.0 ≡ q = cc e in
    given_inner body progress work b c q a inner.is_place (subst (λ (o : Question). Fits o a) same asked.2) gave inner

-- a body that waits
pub waiting_place : {B : Type 0} (body : BodyOf) (progress : B → Progress) (work : Work) (b : B) (op : Question) → IsWaiting body (progress b) work op → IsPlace body progress (job_of work) (Asking b op)
waiting_place body progress work b op is = (is.same_job, is.waits, is.is_body)

pub waiting_few : (body : BodyOf) (p : Progress) (work : Work) (op : Question) → EndsInTime body → IsWaiting body p work op → work.loads ≤ 1000000
waiting_few body p work op in_time is =
    let few = is.few in
    let bound = few_asked body p.job p.seen in_time (goes_seen body p is.is_body) in
    omega (arith, few, bound)

-- the answer to the load for which a body waits: it came to one more that opened a body
pub resumed_inner : {B : Type 0} (body : BodyOf) (progress : B → Progress) (work work2 : Work) (b c : B) (op : Question) (w : Waits) (a : Answer) → IsWaiting body (progress b) work op → waits_of work (progress b) op ≡ w
    → job_of work2 ≡ job_of work → work2.loads ≡ work.loads + 1 → Fits w.op a → IsGiven (progress b) (progress c) a → IsInner body progress work2 (Running c)
resumed_inner body progress work work2 b c op w a is view same_job more fits gave =
    let place = waiting_place body progress work b op is in
    let fits2 : Fits op a = subst (λ (v : Waits). Fits v.op a) (sym view) fits in
    let few = is.few in
    let longer = given_longer body progress work b c op a place fits2 gave in
    record {
      is_place = subst (λ (j : Job). IsPlace body progress j (Running c)) (sym same_job) (given_place body progress work b c op a place fits2 gave);
      few = omega (arith, few, longer, more);
    }
