-- Kept questions that were asked again.
use Rattle.std.proofs.Common.{◌≡◌, ℕ, ◌≤◌, Bool, List, [], ◌∷◌, ◌++◌, length, drop, sym, ◌∙◌, ap, subst, append_assoc, arith, slice_get, Some}
use Rattle.std.proofs.lemmas.List.{drop_at}
use Rattle.sw_world.specs.declared.question.Question.{Question}
use Rattle.sw_world.specs.declared.answer.Answer.{Answer}
use Rattle.sw_world.specs.Body.{Pair, Job, Goes, Leads}
use Rattle.sw_world.specs.Laws.{EndsInTime}
use Rattle.sw_modules.specs.Outside.{Outside, plain}
use Rattle.sw_modules.specs.Fresh.{Setting}
use Rattle.sw_record.specs.declared.replay.Replayed.{Replayed}
use Rattle.sw_record.specs.declared.replay.Replayed.TheVariants.{Same, Load, Differs}
use Rattle.sw_record.specs.Kept.{Kept, IsKept, job_of}
use Rattle.sw_record.specs.Together.{IsMarked, Begins, BeginsAt, AreTogether, AskedFrom, IsReplay}
use Rattle.sw_record.proofs.Together.{one_at, prefix_of}
use Rattle.sw_keeper.specs.Steps.{Advances}
use Rattle.sw_keeper.specs.Replays.{AskedTo}
use Rattle.sw_keeper.proofs.Pairs.{goes_first, goes_other}
use Rattle.sw_keeper.proofs.Parts.{advances_asked}

module _ (setting : Setting) (runs : List Kept) (marks : List Bool) (from : ℕ) (on : AreTogether setting.body runs marks from) where
  -- what is known of a marked run
  pub known_of : (place : ℕ) (k : Kept) → IsMarked marks place → slice_get runs place ≡ Some k → IsKept setting.body k × (job_of k ≡ on.job) × Begins on.first k.run.seen
  known_of place k m here =
      let of = on.each place m in
      let same : of.kept ≡ k = one_at runs place of.kept k of.here here in
      (subst (λ (x : Kept). IsKept setting.body x) same of.is_kept, subst (λ (x : Kept). job_of x ≡ on.job) same of.same_job, subst (λ (x : Kept). Begins on.first x.run.seen) same of.begins)

  -- its body goes through its pairs
  pub goes_of : (place : ℕ) (k : Kept) → IsMarked marks place → slice_get runs place ≡ Some k → Goes (setting.body on.job) [] k.run.seen
  goes_of place k m here =
      let known = known_of place k m here in
      subst (λ (j : Job). Goes (setting.body j) [] k.run.seen) known.1 known.0.goes

  -- and through its first pairs
  pub goes_begun : (place : ℕ) (pairs : List Pair) → IsMarked marks place → BeginsAt runs place pairs → Goes (setting.body on.job) [] pairs
  goes_begun place pairs m b =
      goes_first (setting.body on.job) [] pairs b.2.0 (subst (λ (l : List Pair). Goes (setting.body on.job) [] l) b.2.1 (goes_of place b.0 m b.1))

  -- these go on from those with which all begin
  pub begun_on : (place : ℕ) (pairs : List Pair) → IsMarked marks place → BeginsAt runs place pairs → from ≤ length pairs → (more : List Pair) × (pairs ≡ on.first ++ more)
  begun_on place pairs m b le =
      prefix_of on.first pairs b.0.run.seen (known_of place b.0 m b.1).2 b.2 (omega (arith, on.count, le))

  module _ {W : Type 0} (gives : W → Question → Answer → W → Type 0) (view : W → Outside) (is : (w : W) (op : Question) (a : Answer) (t : W) → gives w op a t → plain setting.functions op (view w) ≡ (a, view t)) (in_time : EndsInTime setting.body) where
    pub asked_advances : (pairs more : List Pair) (w t : W) → pairs ≡ on.first ++ more → Goes (setting.body on.job) [] pairs → AskedFrom gives pairs from w t → Advances setting on.job on.first pairs [] (view w) (view t)
    asked_advances pairs more w t e goes asked =
        let rest : drop from pairs ≡ more = ap (λ (l : List Pair). drop from l) e ∙ drop_at on.first more from on.count in
        let all : Goes (setting.body on.job) [] (on.first ++ more) = subst (λ (l : List Pair). Goes (setting.body on.job) [] l) e goes in
        let led : Leads gives w more t = subst (λ (l : List Pair). Leads gives w l t) rest asked.1 in
        subst (λ (l : List Pair). Advances setting on.job on.first l [] (view w) (view t)) (sym e)
        (advances_asked gives view setting is on.job on.first more w t in_time all led)

    pub begun_advances : (place : ℕ) (pairs : List Pair) (w t : W) → IsMarked marks place → BeginsAt runs place pairs → AskedFrom gives pairs from w t → Advances setting on.job on.first pairs [] (view w) (view t)
    begun_advances place pairs w t m b asked =
        let more = begun_on place pairs m b asked.0 in
        asked_advances pairs more.0 w t more.1 (goes_begun place pairs m b) asked

    pub asked_to : (r : Replayed) (w t : W) → IsReplay gives runs marks from r w t → AskedTo setting on.job runs marks on.first r (view w) (view t)
    asked_to (Same place) w t r =
        let known = known_of place r.0 r.1 r.2 in
        (r.0, r.1, r.2, asked_advances r.0.run.seen known.2.0 w t known.2.1 (goes_of place r.0 r.1 r.2) r.3)
    asked_to (Load alive at) w t r =
        let here = (r.3 r.4.0).0 r.4.1 in
        (r.0, r.1, omega (arith, on.count, r.1, r.2.0), begun_advances r.4.0 r.0 w t here.0 here.1 r.2, r.3, r.4, r.5)
    asked_to (Differs near at answer) w t r =
        let departs = r.6 in
        let b : BeginsAt runs near r.0 = (departs.kept, departs.here, ((r.1, departs.old) ∷ departs.rest, departs.seen)) in
        let more = begun_on near r.0 r.5 b (omega (arith, r.2, r.3)) in
        let all : List Pair = r.0 ++ (r.1, answer) ∷ [] in
        let e : all ≡ on.first ++ (more.0 ++ (r.1, answer) ∷ []) = ap (λ (l : List Pair). l ++ (r.1, answer) ∷ []) more.1 ∙ append_assoc on.first more.0 ((r.1, answer) ∷ []) in
        let whole : Goes (setting.body on.job) [] (r.0 ++ (r.1, departs.old) ∷ departs.rest) = subst (λ (l : List Pair). Goes (setting.body on.job) [] l) departs.seen (goes_of near departs.kept r.5 departs.here) in
        let goes : Goes (setting.body on.job) [] all = goes_other (setting.body on.job) r.0 r.1 departs.old answer departs.rest whole departs.fits in
        (r.0, r.1, r.2, omega (arith, on.count, r.2, r.3), asked_advances all (more.0 ++ (r.1, answer) ∷ []) w t e goes r.4, r.5, departs, r.7)

-- what they leave alone
pub replay_keeps : {W N : Type 0} (gives : W → Question → Answer → W → Type 0) (name : W → N)
    (led_name : (w : W) (ps : List Pair) (t : W) → Leads gives w ps t → name t ≡ name w)
    (runs : List Kept) (marks : List Bool) (from : ℕ) (r : Replayed) (w t : W) → IsReplay gives runs marks from r w t → name t ≡ name w
replay_keeps gives name led_name runs marks from (Same place) w t r = led_name w (drop from r.0.run.seen) t r.3.1
replay_keeps gives name led_name runs marks from (Load alive at) w t r = led_name w (drop from r.0) t r.2.1
replay_keeps gives name led_name runs marks from (Differs near at answer) w t r = led_name w (drop from (r.0 ++ (r.1, answer) ∷ [])) t r.4.1

-- and as many modules are open then
pub asked_depth : (setting : Setting) (job : Job) (runs : List Kept) (marks : List Bool) (first : List Pair) (r : Replayed) (o m : Outside) → AskedTo setting job runs marks first r o m → length m.live.opened ≡ length o.live.opened
asked_depth setting job runs marks first (Same place) o m to = to.3.same_depth
asked_depth setting job runs marks first (Load alive at) o m to = to.3.same_depth
asked_depth setting job runs marks first (Differs near at answer) o m to = to.4.same_depth
