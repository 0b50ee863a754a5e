-- How the parts of a compile join.
use Rattle.std.proofs.Common.{◌≡◌, ℕ, List, [], ◌∷◌, ◌++◌, refl, sym, ◌∙◌, ap, subst, append_assoc, append-nil, inl, inr}
use Rattle.std.proofs.lemmas.List.{map-append}
use Rattle.sw_world.specs.declared.question.Question.{Question}
use Rattle.sw_world.specs.declared.answer.Answer.{Answer}
use Rattle.sw_world.specs.Body.{Pair, Job, Run, Goes, Leads}
use Rattle.sw_world.specs.Laws.{EndsInTime}
use Rattle.sw_world.specs.Progress.{Progress, IsBody, Went}
use Rattle.sw_modules.specs.Outside.{Outside, plain}
use Rattle.sw_modules.specs.Fresh.{Setting, responds, fresh, room, rest_of}
use Rattle.sw_modules.specs.Calls.{HostCall, after_calls, calls_within, calls_left}
use Rattle.sw_modules.proofs.Calls.{calls_along, after_calls-append}
use Rattle.sw_record.specs.declared.reply.Cause.{Cause}
use Rattle.sw_record.specs.Ran.{KeptRuns, Ran}
use Rattle.sw_keeper.specs.Keeping.{Table, kept_in}
use Rattle.sw_keeper.specs.Compile.{paths_of}
use Rattle.sw_keeper.specs.Results.{Results}
use Rattle.sw_keeper.specs.Steps.{Moment, Grown, Advances, DidRespond, WentOn}
use Rattle.sw_keeper.proofs.Rest.{rest_more, calls_more, hosts_more, led, led_opened}

pub paths_of-append : (xs ys : List (List ℕ × Cause)) → paths_of (xs ++ ys) ≡ paths_of xs ++ paths_of ys
paths_of-append xs ys = map-append (λ (one : List ℕ × Cause). one.0) xs ys

pub ran_join : (kept : KeptRuns) (new more : List Run) (xs ys : List (List ℕ × Cause)) → Ran kept new xs → Ran kept more ys → Ran kept (new ++ more) (xs ++ ys)
ran_join kept [] more xs ys e b = rw e b
ran_join kept (r ∷ rs) more xs ys (inl a) b = inl (a.0, ran_join kept rs more xs ys a.1 b)
ran_join kept (r ∷ rs) more xs ys (inr a) b = inr (a.0, a.1, (a.2.0 ++ ys, ap (λ l. l ++ ys) a.2.1, ran_join kept rs more a.2.0 ys a.2.2 b))

pub grown_none : (table : Table) (o t : Moment) → t.results ≡ o.results → t.told ≡ o.told → Grown table [] o t
grown_none table o t results told =
    record {
      runs = ap (λ (r : Results). r.runs) results ∙ sym (append-nil o.results.runs);
      grown = [];
      is = refl;
      ran = ap (λ (r : Results). r.ran) results ∙ sym (append-nil o.results.ran);
      told = told ∙ sym (append-nil o.told);
    }

pub grown_join : (table : Table) (new more : List Run) (o m t : Moment) → Grown table new o m → Grown table more m t → Grown table (new ++ more) o t
grown_join table new more o m t a b =
    record {
      runs = b.runs ∙ ap (λ l. l ++ more) a.runs ∙ append_assoc o.results.runs new more;
      grown = a.grown ++ b.grown;
      is = ran_join (kept_in table) new more a.grown b.grown a.is b.is;
      ran = b.ran ∙ ap (λ l. l ++ b.grown) a.ran ∙ append_assoc o.results.ran a.grown b.grown;
      told = b.told ∙ ap (λ l. l ++ paths_of b.grown) a.told ∙ append_assoc o.told (paths_of a.grown) (paths_of b.grown) ∙ ap (λ l. o.told ++ l) (sym (paths_of-append a.grown b.grown));
    }

pub advances_none : (setting : Setting) (job : Job) (pairs : List Pair) (o : Outside) → Advances setting job pairs pairs [] o o
advances_none setting job pairs o =
    record {
      rest = λ text runs. ap (λ (l : List Run). rest_of setting job text pairs l o) (sym (append-nil runs));
      same_depth = refl;
      made = [];
      calls = refl;
      hosts = refl;
    }

pub advances_join : (setting : Setting) (job : Job) (ps qs rs : List Pair) (new more : List Run) (o t u : Outside)
    → Advances setting job ps qs new o t → Advances setting job qs rs more t u → Advances setting job ps rs (new ++ more) o u
advances_join setting job ps qs rs new more o t u a b =
    record {
      rest = λ text runs. a.rest text runs ∙ b.rest text (runs ++ new) ∙ ap (λ (l : List Run). rest_of setting job text rs l u) (append_assoc runs new more);
      same_depth = b.same_depth ∙ a.same_depth;
      made = a.made ++ b.made;
      calls = a.calls ∙ ap (λ (l : List HostCall). a.made ++ l) b.calls ∙ sym (append_assoc a.made b.made (calls_left setting job rs u));
      hosts = b.hosts ∙ ap (after_calls setting.functions b.made) a.hosts ∙ sym (after_calls-append setting.functions a.made b.made o.hosts);
    }

-- a load that was answered
pub advances_load : (setting : Setting) (table : Table) (job : Job) (pairs : List Pair) (op : Question) (a : Answer) (o t : Moment)
    → EndsInTime setting.body → Goes (setting.body job) [] (pairs ++ (op, a) ∷ []) → DidRespond table (responds setting.functions (fresh setting (room o.outside.live)) op o.outside) a o t
    → Advances setting job pairs (pairs ++ (op, a) ∷ []) (responds setting.functions (fresh setting (room o.outside.live)) op o.outside).runs o.outside t.outside
advances_load setting table job pairs op a o t in_time goes did =
    let inner = fresh setting (room o.outside.live) in
    let r = responds setting.functions inner op o.outside in
    record {
      rest = λ text runs. rest_more setting job text pairs ((op, a) ∷ []) runs o.outside t.outside r.runs in_time goes (sym did.answered, tt) (sym did.outside) (append-nil r.runs) did.same_depth;
      same_depth = did.same_depth;
      made = calls_along setting.functions inner (calls_within setting (room o.outside.live)) o.outside ((op, a) ∷ []);
      calls = calls_more setting job pairs ((op, a) ∷ []) o.outside t.outside in_time goes (sym did.answered, tt) (sym did.outside) did.same_depth;
      hosts = hosts_more setting ((op, a) ∷ []) o.outside t.outside (sym did.outside);
    }

module _ {W : Type 0} (gives : W → Question → Answer → W → Type 0) (view : W → Outside) (setting : Setting) (is : (w : W) (op : Question) (a : Answer) (t : W) → gives w op a t → plain setting.functions op (view w) ≡ (a, view t)) where
  -- questions that were asked
  pub advances_asked : (job : Job) (pairs asked : List Pair) (w t : W)
      → EndsInTime setting.body → Goes (setting.body job) [] (pairs ++ asked) → Leads gives w asked t
      → Advances setting job pairs (pairs ++ asked) [] (view w) (view t)
  advances_asked job pairs asked w t in_time goes leads =
      let opened = led_opened gives view setting.functions is w asked t leads in
      let by = led gives view setting.functions is (fresh setting (room (view w).live)) w asked t leads in
      record {
        rest = λ text runs. rest_more setting job text pairs asked runs (view w) (view t) [] in_time goes by.0 by.1 by.2 opened;
        same_depth = opened;
        made = calls_along setting.functions (fresh setting (room (view w).live)) (calls_within setting (room (view w).live)) (view w) asked;
        calls = calls_more setting job pairs asked (view w) (view t) in_time goes by.0 by.1 opened;
        hosts = hosts_more setting asked (view w) (view t) by.1;
      }

  -- a body that went on
  pub went_on : (p q : Progress) (w t : W) (taken asked : List Pair)
      → EndsInTime setting.body → IsBody setting.body q → q.left ≡ [] → Went gives p q taken asked w t → WentOn setting p q (view w) (view t)
  went_on p q w t taken asked in_time is_body none went =
      let all : taken ≡ p.left = sym (append-nil taken) ∙ ap (λ l. taken ++ l) (sym none) ∙ sym went.left in
      let seen : q.seen ≡ (p.seen ++ p.left) ++ asked =
      went.seen ∙ ap (λ l. p.seen ++ (l ++ asked)) all ∙ sym (append_assoc p.seen p.left asked) in
      let pairs : q.seen ++ q.left ≡ (p.seen ++ p.left) ++ asked = ap (λ l. q.seen ++ l) none ∙ append-nil q.seen ∙ seen in
      let goes : Goes (setting.body p.job) [] ((p.seen ++ p.left) ++ asked) =
      subst (λ (l : List Pair). Goes (setting.body p.job) [] l) pairs (subst (λ (j : Job). Goes (setting.body j) [] (q.seen ++ q.left)) went.same_job is_body.goes) in
      let to = advances_asked p.job (p.seen ++ p.left) asked w t in_time goes went.led in
      record {
        same_job = went.same_job;
        asked = asked;
        seen = seen;
        advances = subst (λ (l : List Pair). Advances setting p.job (p.seen ++ p.left) l [] (view w) (view t)) (sym seen) to;
      }

-- what the questions leave alone
pub led_keeps : {W N : Type 0} (gives : W → Question → Answer → W → Type 0) (name : W → N) (keeps : (w : W) (op : Question) (a : Answer) (t : W) → gives w op a t → name t ≡ name w)
    (w : W) (ps : List Pair) (t : W) → Leads gives w ps t → name t ≡ name w
led_keeps gives name keeps w [] t leads = ap name leads
led_keeps gives name keeps w (p ∷ ps) t leads = led_keeps gives name keeps leads.1.0 ps t leads.1.2 ∙ keeps w p.0 p.1 leads.1.0 leads.1.1
