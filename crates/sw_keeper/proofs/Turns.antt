-- The turns of a body.
use Rattle.std.proofs.Common.{◌≡◌, ℕ, suc, ◌-◌, ◌<◌, ◌≤◌, List, [], ◌∷◌, ◌++◌, length, refl, sym, ◌∙◌, ap, subst, append_assoc, append-nil, length-append, arith, Option, Some, None, inr}
use Rattle.sw_world.specs.declared.question.Question.{Question}
use Rattle.sw_world.specs.declared.answer.Answer.{Answer}
use Rattle.sw_world.specs.declared.end.End.{End}
use Rattle.sw_world.specs.Body.{Pair, Job, Run, Ends, BodyOf, Goes, answers}
use Rattle.sw_world.specs.Questions.{Fits}
use Rattle.sw_world.specs.Laws.{EndsInTime, most_asked}
use Rattle.sw_world.specs.Progress.{Progress, Status, Waiting, Ended, IsBody, IsAt, begun, given}
use Rattle.sw_modules.specs.Outside.{Outside}
use Rattle.sw_modules.specs.Fresh.{Setting, responds, fresh, room, ended, rest_of}
use Rattle.sw_record.specs.declared.reply.Cause.{Cause}
use Rattle.sw_record.specs.Kept.{Kept}
use Rattle.sw_record.specs.Ran.{Ran, IsCause}
use Rattle.sw_keeper.specs.Keeping.{Table, kept_in}
use Rattle.sw_keeper.specs.Compile.{paths_of}
use Rattle.sw_keeper.specs.Results.{Results}
use Rattle.sw_keeper.specs.Steps.{Moment, Grown, Advances, DidRespond, DidEnd, WentOn, Turned, IsTurned, ran_at, RunsOn, DiffersBy, run_of}
use Rattle.sw_keeper.proofs.Pairs.{goes_join, goes_first, within}
use Rattle.sw_keeper.proofs.Rest.{rest_ends}
use Rattle.sw_keeper.proofs.Parts.{advances_none, advances_join, advances_load, paths_of-append, ran_join, grown_none, grown_join}

pub at_status : (body : BodyOf) (q : Progress) (s : Status) → IsBody body q → q.status ≡ s → IsAt (body q.job) (answers q.seen) q.left s
at_status body q s is_q e = subst (λ (v : Status). IsAt (body q.job) (answers q.seen) q.left v) e is_q.place

pub goes_seen : (body : BodyOf) (q : Progress) → IsBody body q → Goes (body q.job) [] q.seen
goes_seen body q is_q = goes_first (body q.job) [] q.seen q.left is_q.goes

goes_given : (body : BodyOf) (q : Progress) (op : Question) (a : Answer) → IsBody body q → q.status ≡ Waiting op → Fits op a → Goes (body q.job) [] (q.seen ++ (op, a) ∷ [])
goes_given body q op a is_q waits fits =
    let here = at_status body q (Waiting op) is_q waits in
    goes_join (body q.job) [] q.seen ((op, a) ∷ []) (goes_seen body q is_q) (here.0, fits, tt)

is_given : (body : BodyOf) (q : Progress) (op : Question) (a : Answer) → IsBody body q → q.status ≡ Waiting op → Fits op a → IsBody body (given q op a)
is_given body q op a is_q waits fits =
    let here = at_status body q (Waiting op) is_q waits in
    let goes : Goes (body q.job) [] ((q.seen ++ (op, a) ∷ []) ++ q.left) =
    subst (λ (l : List Pair). Goes (body q.job) [] l) (sym (ap (λ l. (q.seen ++ (op, a) ∷ []) ++ l) here.2 ∙ append-nil (q.seen ++ (op, a) ∷ []))) (goes_given body q op a is_q waits fits) in
    record { goes = goes; place = tt }

abbrev IsGiven : Progress → Progress → Answer → Type 0
IsGiven q q2 a = (o : Question) × (q.status ≡ Waiting o) × (q2 ≡ given q o a)

same_given : (q q2 : Progress) (op : Question) (a : Answer) → q.status ≡ Waiting op → IsGiven q q2 a → q2 ≡ given q op a
same_given q q2 op a waits gave = let e : gave.0 ≡ op = cc in gave.2 ∙ ap (λ o. given q o a) e

-- a body that was given the answer to its load
pub is_body_given : (body : BodyOf) (q q2 : Progress) (op : Question) (a : Answer) → IsBody body q → q.status ≡ Waiting op → Fits op a
    → ((o : Question) × (q.status ≡ Waiting o) × (q2 ≡ given q o a)) → IsBody body q2
is_body_given body q q2 op a is_q waits fits gave =
    subst (λ (x : Progress). IsBody body x) (sym (same_given q q2 op a waits gave)) (is_given body q op a is_q waits fits)

-- a turn that answered a load
pub turned_load : (setting : Setting) (table : Table) (p q q2 : Progress) (op : Question) (a : Answer) (o m t : Moment)
    → EndsInTime setting.body → WentOn setting p q o.outside m.outside → IsBody setting.body q → q.status ≡ Waiting op → q.left ≡ [] → m.results ≡ o.results → m.told ≡ o.told ++ []
    → DidRespond table (responds setting.functions (fresh setting (room m.outside.live)) op m.outside) a m t → Fits op a
    → ((o' : Question) × (q.status ≡ Waiting o') × (q2 ≡ given q o' a))
    → Turned setting table p q2 None o t
turned_load setting table p q q2 op a o m t in_time went is_q waits none results told did fits gave =
    let goes : Goes (setting.body p.job) [] (q.seen ++ (op, a) ∷ []) =
    subst (λ (j : Job). Goes (setting.body j) [] (q.seen ++ (op, a) ∷ [])) went.same_job (goes_given setting.body q op a is_q waits fits) in
    let r = responds setting.functions (fresh setting (room m.outside.live)) op m.outside in
    let load = advances_load setting table p.job q.seen op a m t in_time goes did in
    let grown = grown_join table [] r.runs o m t (grown_none table o m results (told ∙ append-nil o.told)) did.grown in
    let len = length-append q.seen ((op, a) ∷ []) in
    let longer : length p.seen ≤ length q.seen = omega (arith, ap length went.seen, length-append (p.seen ++ p.left) went.asked, length-append p.seen p.left) in
    subst (λ (x : Progress). Turned setting table p x None o t) (sym (same_given q q2 op a waits gave))
    (record {
      same_job = went.same_job;
      left = none;
      more = went.asked ++ (op, a) ∷ [];
      extends = ap (λ l. l ++ (op, a) ∷ []) went.seen ∙ append_assoc (p.seen ++ p.left) went.asked ((op, a) ∷ []);
      new = r.runs;
      advances = advances_join setting p.job (p.seen ++ p.left) q.seen (q.seen ++ (op, a) ∷ []) [] r.runs o.outside m.outside t.outside went.advances load;
      runs = grown.runs;
      grown = grown.grown;
      is = grown.is;
      ran = grown.ran;
      told = grown.told ∙ ap (λ l. o.told ++ l) (sym (append-nil (paths_of grown.grown)));
      place = (refl, omega (arith, len, longer));
    })

-- a turn in which the body ended
pub turned_end : (setting : Setting) (table : Table) (p q : Progress) (end : End) (o t : Moment)
    → WentOn setting p q o.outside t.outside → q.status ≡ Ended end → q.left ≡ [] → t.results ≡ o.results → t.told ≡ o.told ++ q.job.path ∷ []
    → Turned setting table p q (Some end) o t
turned_end setting table p q end o t went is_ended none results told =
    record {
      same_job = went.same_job;
      left = none;
      more = went.asked;
      extends = went.seen;
      new = [];
      advances = went.advances;
      runs = ap (λ (r : Results). r.runs) results ∙ sym (append-nil o.results.runs);
      grown = [];
      is = refl;
      ran = ap (λ (r : Results). r.ran) results ∙ sym (append-nil o.results.ran);
      told = told;
      place = is_ended;
    }

-- the loop over the turns of a body, at its start
pub runs_none : (setting : Setting) (table : Table) (job : Job) (known : List Pair) (p : Progress) (o : Moment) → Goes (setting.body job) [] known → p ≡ begun job known → RunsOn setting table job known p o o
runs_none setting table job known p o goes begins =
    subst (λ (q : Progress). RunsOn setting table job known q o o) (sym begins)
    (record {
      running = refl;
      is_body = record { goes = goes; place = tt };
      same_job = refl;
      more = [];
      extends = sym (append-nil known);
      new = [];
      advances = advances_none setting job known o.outside;
      grown = grown_none table o o refl refl;
    })

module _ (setting : Setting) (table : Table) (job : Job) (known : List Pair) (p q : Progress) (r : Option End) (o m t : Moment)
    (on : RunsOn setting table job known p o m) (turned : Turned setting table p q r m t) where
  turn_advances : Advances setting job (p.seen ++ p.left) q.seen turned.new m.outside t.outside
  turn_advances = subst (λ (j : Job). Advances setting j (p.seen ++ p.left) q.seen turned.new m.outside t.outside) on.same_job turned.advances

  all_advances : Advances setting job known q.seen (on.new ++ turned.new) o.outside t.outside
  all_advances = advances_join setting job known (p.seen ++ p.left) q.seen on.new turned.new o.outside m.outside t.outside on.advances turn_advances

  all_extends : q.seen ≡ known ++ (on.more ++ turned.more)
  all_extends = turned.extends ∙ ap (λ l. l ++ turned.more) on.extends ∙ append_assoc known on.more turned.more

  pub runs_on : r ≡ None → IsBody setting.body q → RunsOn setting table job known q o t
  runs_on is is_q =
      let place = subst (λ (x : Option End). IsTurned x p q) is turned.place in
      let pairs : q.seen ++ q.left ≡ q.seen = ap (λ l. q.seen ++ l) turned.left ∙ append-nil q.seen in
      let step : Grown table turned.new m t =
      record {
        runs = turned.runs;
        grown = turned.grown;
        is = turned.is;
        ran = turned.ran;
        told = turned.told ∙ ap (λ x. m.told ++ (paths_of turned.grown ++ ran_at x q.job.path)) is ∙ ap (λ l. m.told ++ l) (append-nil (paths_of turned.grown));
      } in
      record {
        running = place.0;
        is_body = is_q;
        same_job = turned.same_job ∙ on.same_job;
        more = on.more ++ turned.more;
        extends = pairs ∙ all_extends;
        new = on.new ++ turned.new;
        advances = subst (λ (l : List Pair). Advances setting job known l (on.new ++ turned.new) o.outside t.outside) (sym pairs) all_advances;
        grown = grown_join table on.new turned.new o m t on.grown step;
      }

  pub runs_shorter : r ≡ None → EndsInTime setting.body → IsBody setting.body q → suc most_asked - length q.seen < suc most_asked - length p.seen
  runs_shorter is in_time is_q =
      let place = subst (λ (x : Option End). IsTurned x p q) is turned.place in
      let few : length q.seen ≤ most_asked = within setting.body q.job q.seen in_time (goes_seen setting.body q is_q) in
      omega (arith, place.1, few)

  -- what the run of the body is
  pub ended_goes : IsBody setting.body q → Goes (setting.body job) [] q.seen
  ended_goes is_q = subst (λ (j : Job). Goes (setting.body j) [] q.seen) (turned.same_job ∙ on.same_job) (goes_seen setting.body q is_q)

  pub ended_ends : (end : End) → r ≡ Some end → IsBody setting.body q → setting.body job (answers q.seen) ≡ Ends end
  ended_ends end is is_q =
      let place = subst (λ (x : Option End). IsTurned x p q) is turned.place in
      let here = at_status setting.body q (Ended end) is_q place in
      subst (λ (j : Job). setting.body j (answers q.seen) ≡ Ends end) (turned.same_job ∙ on.same_job) here.0

  -- once that is among the results
  pub runs_end : (text : List ℕ) (cause : Cause) (end : End) (u : Moment) → r ≡ Some end → EndsInTime setting.body → IsBody setting.body q
      → DiffersBy table job.path text job.config known cause → u.outside ≡ t.outside → u.told ≡ t.told
      → u.results ≡ record { runs = t.results.runs ++ run_of job text q.seen end ∷ []; ran = t.results.ran ++ (job.path, cause) ∷ [] }
      → DidEnd setting table job text known end o u
  runs_end text cause end u is in_time is_q differs outside told results =
      let this : Run = run_of job text q.seen end in
      let why : IsCause (kept_in table job.path) this cause =
      subst (λ (l : List Pair). IsCause (kept_in table job.path) (run_of job text l end) cause) (sym all_extends) (differs (on.more ++ turned.more) end) in
      let ran_this : Ran (kept_in table) (this ∷ []) ((job.path, cause) ∷ []) = inr (cause, why, ([], refl, refl)) in
      let path_is : q.job.path ≡ job.path = ap (λ (j : Job). j.path) (turned.same_job ∙ on.same_job) in
      let grown : List (List ℕ × Cause) = turned.grown ++ (job.path, cause) ∷ [] in
      let step : Grown table (turned.new ++ this ∷ []) m u =
      record {
        runs = ap (λ (x : Results). x.runs) results ∙ ap (λ l. l ++ this ∷ []) turned.runs ∙ append_assoc m.results.runs turned.new (this ∷ []);
        grown = grown;
        is = ran_join (kept_in table) turned.new (this ∷ []) turned.grown ((job.path, cause) ∷ []) turned.is ran_this;
        ran = ap (λ (x : Results). x.ran) results ∙ ap (λ l. l ++ (job.path, cause) ∷ []) turned.ran ∙ append_assoc m.results.ran turned.grown ((job.path, cause) ∷ []);
        told = told ∙ turned.told ∙ ap (λ x. m.told ++ (paths_of turned.grown ++ ran_at x q.job.path)) is ∙ ap (λ n. m.told ++ (paths_of turned.grown ++ n ∷ [])) path_is
            ∙ ap (λ l. m.told ++ l) (sym (paths_of-append turned.grown ((job.path, cause) ∷ [])));
      } in
      let to : (runs : List Run) → rest_of setting job text known runs o.outside ≡ ended job text q.seen (runs ++ (on.new ++ turned.new)) t.outside end =
      λ runs. all_advances.rest text runs ∙ rest_ends setting job text q.seen (runs ++ (on.new ++ turned.new)) t.outside end in_time (ended_goes is_q) (ended_ends end is is_q) in
      record {
        seen = q.seen;
        new = on.new ++ turned.new;
        ends = λ runs. to runs ∙ ap (λ (x : Outside). ended job text q.seen (runs ++ (on.new ++ turned.new)) x end) (sym outside);
        same_depth = ap (λ (x : Outside). length x.live.opened) outside ∙ all_advances.same_depth;
        grown = subst (λ (l : List Run). Grown table l o u) (sym (append_assoc on.new turned.new (this ∷ []))) (grown_join table on.new (turned.new ++ this ∷ []) o m u on.grown step);
      }

-- the results after the run of a body that ended
pub added : (job : Job) (text : List ℕ) (seen pairs : List Pair) (given end : End) (name : List ℕ) (cause : Cause) (r now : Results) (kept : Kept)
    → now.runs ≡ r.runs ++ kept.run ∷ [] → now.ran ≡ r.ran ++ (name, cause) ∷ [] → name ≡ job.path
    → kept ≡ record { sheet = job.sheet; run = record { path = job.path; text = text; config = job.config; seen = pairs; end = given } } → pairs ≡ seen → given ≡ end
    → now ≡ record { runs = r.runs ++ run_of job text seen end ∷ []; ran = r.ran ++ (job.path, cause) ∷ [] }
added job text seen pairs given end name cause r now kept adds tells named is same ends =
    let D : List Run → Results = λ l. record { runs = l; ran = now.ran } in
    let E : List (List ℕ × Cause) → Results = λ l. record { runs = r.runs ++ kept.run ∷ []; ran = l } in
    let A : Kept → Results = λ k. record { runs = r.runs ++ k.run ∷ []; ran = r.ran ++ (job.path, cause) ∷ [] } in
    let B : List Pair → Results = λ l. record { runs = r.runs ++ run_of job text l given ∷ []; ran = r.ran ++ (job.path, cause) ∷ [] } in
    let C : End → Results = λ e. record { runs = r.runs ++ run_of job text seen e ∷ []; ran = r.ran ++ (job.path, cause) ∷ [] } in
    ap D adds ∙ ap E (tells ∙ ap (λ n. r.ran ++ (n, cause) ∷ []) named) ∙ ap A is ∙ ap B same ∙ ap C ends
