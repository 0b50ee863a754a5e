-- Evaluations that were cut off for want of memory.
use Rattle.std.proofs.Common.{◌≡◌, ℕ, ◌+◌, ◌<◌, Bool, List, [], ◌∷◌, ◌++◌, length, take, ◌⊎◌, Option, Some, None, Ok, refl, sym, ◌∙◌, ap, subst, append_assoc, append-nil, length-append, arith, inl, inr}
use Rattle.std.proofs.Math.Seq.{take-append_seam}
use Rattle.sw_tree.specs.declared.sheet.Sheet.{Sheet}
use Rattle.sw_values.specs.declared.plain.Plain.{Plain}
use Rattle.sw_folder.specs.Files.{Files}
use Rattle.sw_world.specs.Hosts.{HostState}
use Rattle.sw_world.specs.declared.question.Question.{Question}
use Rattle.sw_world.specs.declared.question.Question.TheVariants.{Load, Find, Get, Put, Say, Call}
use Rattle.sw_world.specs.declared.answer.Answer.{Answer}
use Rattle.sw_world.specs.declared.end.End.{End}
use Rattle.sw_world.specs.Body.{Pair, Job, Run, Asks, Goes, Leads, answers}
use Rattle.sw_world.specs.Questions.{IsLoad, Fits}
use Rattle.sw_world.specs.Laws.{EndsInTime}
use Rattle.sw_world.specs.Progress.{Progress, Waiting, IsBody, Went}
use Rattle.sw_modules.specs.declared.live.Begin.{Begin}
use Rattle.sw_modules.specs.declared.live.Begin.TheVariants.{Open}
use Rattle.sw_modules.specs.declared.live.Enter.{Enter}
use Rattle.sw_modules.specs.declared.live.Enter.TheVariants.{Open as Open_entry}
use Rattle.sw_modules.specs.Uses.{no_uses}
use Rattle.sw_modules.specs.State.{State, open_at, nothing_loaded}
use Rattle.sw_modules.specs.Loads.{begun, entered, entry_text}
use Rattle.sw_modules.specs.Outside.{Outside, plain}
use Rattle.sw_modules.specs.Fresh.{Setting, Outcome, responds, fresh, room}
use Rattle.sw_modules.specs.Calls.{HostCall, CallsIn, after_calls, calls_begun, calls_for, calls_read, calls_within, calls_left, calls_open}
use Rattle.sw_modules.proofs.Calls.{after_calls-append, calls_lead}
use Rattle.sw_record.specs.declared.replay.Replayed.{Replayed}
use Rattle.sw_record.specs.declared.replay.Replayed.TheVariants as again
use Rattle.sw_record.specs.declared.reply.Reply.{Reply}
use Rattle.sw_record.specs.Kept.{Kept}
use Rattle.sw_record.specs.Ran.{Ran}
use Rattle.sw_record.specs.Together.{AreTogether, BrokeOff}
use Rattle.sw_record.proofs.Together.{asks_at}
use Rattle.sw_keeper.specs.declared.departure.Departure.{Departure}
use Rattle.sw_keeper.specs.Compile.{Compile, compiled, compile_by, from_entry, paths_of, CompilesTo, BreaksOff}
use Rattle.sw_keeper.specs.Keeping.{Table, Keeping, kept_in, AreKept}
use Rattle.sw_keeper.specs.Steps.{Moment, Grown, Advances, DidRespond, DidEvaluate, WentOn, Turned, RunsOn, ran_at}
use Rattle.sw_keeper.specs.Cuts.{RanMore, CutOff}
use Rattle.sw_keeper.specs.Replays.{AskedTo, GoneTo, DidAgree, DidDepart}
use Rattle.sw_keeper.specs.Loading.{IsLoadOf}
use Rattle.sw_keeper.specs.Whole.{IsCompiled}
use Rattle.sw_keeper.proofs.More.{ran_none}
use Rattle.sw_keeper.proofs.Rest.{calls_next, calls_opens}
use Rattle.sw_keeper.proofs.Parts.{went_on}
use Rattle.sw_keeper.proofs.Turns.{at_status, goes_seen}
use Rattle.sw_keeper.proofs.Again.{known_of, goes_begun, begun_advances}
use Rattle.sw_keeper.proofs.Replays.{advances_with}
use Rattle.sw_keeper.proofs.Whole.{compiled_by}

pub ran_join : (old mid now : List (List ℕ)) → RanMore old mid → RanMore mid now → RanMore old now
ran_join old mid now a b = (a.0 ++ b.0, b.1 ∙ ap (λ l. l ++ b.0) a.1 ∙ append_assoc old a.0 b.0)

-- nothing was done
pub cut_none : (setting : Setting) (calls : List HostCall) (h now : HostState) (told told_now : List (List ℕ)) → now ≡ h → told_now ≡ told → CutOff setting calls h now told told_now
cut_none setting calls h now told told_now same ran = record { made = []; left = calls; order = refl; hosts = same; told = ran_none told told_now ran }

-- all calls were made
pub cut_all : (setting : Setting) (calls : List HostCall) (h now : HostState) (told told_now : List (List ℕ)) → now ≡ after_calls setting.functions calls h → RanMore told told_now
    → CutOff setting calls h now told told_now
cut_all setting calls h now told told_now all more = record { made = calls; left = []; order = sym (append-nil calls); hosts = all; told = more }

pub cut_at : (setting : Setting) (calls same : List HostCall) (h now : HostState) (told told_now : List (List ℕ)) → calls ≡ same → CutOff setting same h now told told_now → CutOff setting calls h now told told_now
cut_at setting calls same h now told told_now e cut = record { made = cut.made; left = cut.left; order = e ∙ cut.order; hosts = cut.hosts; told = cut.told }

-- in the first of these calls
pub cut_front : (setting : Setting) (calls first rest : List HostCall) (h now : HostState) (told told_now : List (List ℕ)) → calls ≡ first ++ rest → CutOff setting first h now told told_now
    → CutOff setting calls h now told told_now
cut_front setting calls first rest h now told told_now e cut =
    record { made = cut.made; left = cut.left ++ rest; order = e ∙ ap (λ l. l ++ rest) cut.order ∙ append_assoc cut.made cut.left rest; hosts = cut.hosts; told = cut.told }

-- behind what an evaluation did before
pub cut_behind : (setting : Setting) (job : Job) (ps qs : List Pair) (new : List Run) (o t : Outside) (now : HostState) (told mid told_now : List (List ℕ))
    → Advances setting job ps qs new o t → RanMore told mid → CutOff setting (calls_left setting job qs t) t.hosts now mid told_now
    → CutOff setting (calls_left setting job ps o) o.hosts now told told_now
cut_behind setting job ps qs new o t now told mid told_now adv more cut =
    record {
      made = adv.made ++ cut.made;
      left = cut.left;
      order = adv.calls ∙ ap (λ (l : List HostCall). adv.made ++ l) cut.order ∙ sym (append_assoc adv.made cut.made cut.left);
      hosts = cut.hosts ∙ ap (after_calls setting.functions cut.made) adv.hosts ∙ sym (after_calls-append setting.functions adv.made cut.made o.hosts);
      told = ran_join told mid told_now more cut.told;
    }

-- directly behind it
pub cut_after : (setting : Setting) (job : Job) (ps qs : List Pair) (new : List Run) (o t : Outside) (told told_now : List (List ℕ))
    → Advances setting job ps qs new o t → RanMore told told_now → CutOff setting (calls_left setting job ps o) o.hosts t.hosts told told_now
cut_after setting job ps qs new o t told told_now adv more =
    cut_behind setting job ps qs new o t t.hosts told told_now told_now adv more (cut_none setting (calls_left setting job qs t) t.hosts t.hosts told_now told_now refl refl)

told_more : (table : Table) (new : List Run) (o t : Moment) → Grown table new o t → RanMore o.told t.told
told_more table new o t grown = (paths_of grown.grown, grown.told)

-- Questions

-- a body that went on
module _ {W : Type 0} (gives : W → Question → Answer → W → Type 0) (view : W → Outside) (setting : Setting) (is : (w : W) (op : Question) (a : Answer) (t : W) → gives w op a t → plain setting.functions op (view w) ≡ (a, view t)) where
  pub go_cut : (p q : Progress) (w t : W) (taken asked : List Pair) (told told_now : List (List ℕ))
      → EndsInTime setting.body → IsBody setting.body q → Went gives p q taken asked w t → told_now ≡ told
      → CutOff setting (calls_left setting p.job (p.seen ++ p.left) (view w)) (view w).hosts (view t).hosts told told_now
  go_cut p q w t taken asked told told_now in_time is_body went ran = by went.first
    where
      by : (asked ≡ []) ⊎ (q.left ≡ []) → CutOff setting (calls_left setting p.job (p.seen ++ p.left) (view w)) (view w).hosts (view t).hosts told told_now
      by (inl none) =
          let same : t ≡ w = subst (λ (l : List Pair). Leads gives w l t) none went.led in
          cut_none setting (calls_left setting p.job (p.seen ++ p.left) (view w)) (view w).hosts (view t).hosts told told_now (ap (λ (u : W). (view u).hosts) same) ran
      by (inr none) =
          let on = went_on gives view setting is p q w t taken asked in_time is_body none went in
          cut_after setting p.job (p.seen ++ p.left) q.seen [] (view w) (view t) told told_now on.advances (ran_none told told_now ran)

-- kept questions that were asked again
pub again_cut : (setting : Setting) (runs : List Kept) (marks : List Bool) (from : ℕ) (on : AreTogether setting.body runs marks from) {W : Type 0} (gives : W → Question → Answer → W → Type 0) (view : W → Outside) (is : (w : W) (op : Question) (a : Answer) (t : W) → gives w op a t → plain setting.functions op (view w) ≡ (a, view t))
    (w t : W) (told : List (List ℕ)) → EndsInTime setting.body → BrokeOff gives runs marks from w t
    → CutOff setting (calls_left setting on.job on.first (view w)) (view w).hosts (view t).hosts told told
again_cut setting runs marks from on gives view is w t told in_time broke =
    cut_after setting on.job on.first broke.0 [] (view w) (view t) told told
    (begun_advances setting runs marks from on gives view is in_time broke.1 broke.0 w t broke.2 broke.3 broke.4) (ran_none told told refl)

-- Loads

calls_load : (inside : CallsIn) (op : Question) (o : Outside) → IsLoad op → calls_for inside op o ≡ calls_begun inside (begun op o.live).0 (begun op o.live).1 o
calls_load inside (Load site url span how config) o is = refl
calls_load inside (Find site space kind name) o is = absurd is
calls_load inside (Get owner name) o is = absurd is
calls_load inside (Put owner name value) o is = absurd is
calls_load inside (Say kind span text) o is = absurd is
calls_load inside (Call name args) o is = absurd is

-- the calls for a load that opens a module are those of its evaluation
pub load_calls : (setting : Setting) (op : Question) (path text : List ℕ) (config : List (List ℕ × Plain)) (m : State) (o : Outside)
    → IsLoad op → begun op o.live ≡ (Open path text config, m) → length o.live.opened < 64 → m ≡ open_at path o.live
    → calls_for (calls_within setting (room o.live)) op o ≡ calls_open setting (record { live = m; hosts = o.hosts }) path text config
load_calls setting op path text config m o is begins few opens =
    let one_more : length m.opened ≡ length o.live.opened + 1 = ap (λ (s : State). length s.opened) opens ∙ length-append o.live.opened (record { path = path; uses = no_uses } ∷ []) in
    calls_load (calls_within setting (room o.live)) op o is
    ∙ ap (λ (p : Begin × State). calls_begun (calls_within setting (room o.live)) p.0 p.1 o) begins
    ∙ calls_opens setting o.live (record { live = m; hosts = o.hosts }) path text config few (one_more ∙ omega arith)

-- a whole evaluation
pub evaluated_all : (setting : Setting) (table : Table) (path text : List ℕ) (config : List (List ℕ × Plain)) (end : End) (o t : Moment) → DidEvaluate setting table path text config end o t
    → CutOff setting (calls_open setting o.outside path text config) o.outside.hosts t.outside.hosts o.told t.told
evaluated_all setting table path text config end o t did =
    cut_all setting (calls_open setting o.outside path text config) o.outside.hosts t.outside.hosts o.told t.told
    (sym (ap (λ (c : Outcome). c.outside.hosts) did.gives) ∙ calls_lead setting o.outside path text config) (told_more table did.runs o t did.grown)

-- Turns of a body

pub turn_cut : (setting : Setting) (p q : Progress) (op : Question) (o m : Outside) (now : HostState) (told mid told_now : List (List ℕ))
    → EndsInTime setting.body → WentOn setting p q o m → IsBody setting.body q → q.status ≡ Waiting op → RanMore told mid
    → CutOff setting (calls_for (calls_within setting (room m.live)) op m) m.hosts now mid told_now
    → CutOff setting (calls_left setting p.job (p.seen ++ p.left) o) o.hosts now told told_now
turn_cut setting p q op o m now told mid told_now in_time went is_q waits more cut =
    let here = at_status setting.body q (Waiting op) is_q waits in
    let goes : Goes (setting.body p.job) [] q.seen = subst (λ (j : Job). Goes (setting.body j) [] q.seen) went.same_job (goes_seen setting.body q is_q) in
    let asks : setting.body p.job (answers q.seen) ≡ Asks op = subst (λ (j : Job). setting.body j (answers q.seen) ≡ Asks op) went.same_job here.0 in
    let next = calls_next setting p.job q.seen m op in_time goes asks in
    cut_behind setting p.job (p.seen ++ p.left) q.seen [] o m now told mid told_now went.advances more
    (cut_front setting (calls_left setting p.job q.seen m) (calls_for (calls_within setting (room m.live)) op m) next.0 m.hosts now mid told_now next.1 cut)

module _ (setting : Setting) (table : Table) (job : Job) (known : List Pair) (p : Progress) (o m : Moment) (on : RunsOn setting table job known p o m) where
  pub run_cut : (now : HostState) (told_now : List (List ℕ)) → CutOff setting (calls_left setting p.job (p.seen ++ p.left) m.outside) m.outside.hosts now m.told told_now
      → CutOff setting (calls_left setting job known o.outside) o.outside.hosts now o.told told_now
  run_cut now told_now cut =
      cut_behind setting job known (p.seen ++ p.left) on.new o.outside m.outside now o.told m.told told_now on.advances (told_more table on.new o m on.grown)
      (subst (λ (j : Job). CutOff setting (calls_left setting j (p.seen ++ p.left) m.outside) m.outside.hosts now m.told told_now) on.same_job cut)

  -- behind a turn
  pub ended_cut : (q : Progress) (r : Option End) (t : Moment) → Turned setting table p q r m t → CutOff setting (calls_left setting job known o.outside) o.outside.hosts t.outside.hosts o.told t.told
  ended_cut q r t turned =
      run_cut t.outside.hosts t.told
      (cut_after setting p.job (p.seen ++ p.left) q.seen turned.new m.outside t.outside m.told t.told turned.advances (paths_of turned.grown ++ ran_at r q.job.path, turned.told))

-- Turns of a replay

module _ (setting : Setting) (table : Table) (job : Job) (runs : List Kept) (marks : List Bool) (first : List Pair) (left : List Bool) (at : ℕ) (o m : Moment) (gone : GoneTo setting table job runs marks first left at o m) where
  -- behind what went on
  pub gone_cut : (now : HostState) (told_now : List (List ℕ)) → CutOff setting (calls_left setting job gone.pairs m.outside) m.outside.hosts now m.told told_now
      → CutOff setting (calls_left setting job first o.outside) o.outside.hosts now o.told told_now
  gone_cut now told_now cut =
      cut_behind setting job first gone.pairs gone.new o.outside m.outside now o.told m.told told_now gone.advances (told_more table gone.new o m gone.grown) cut

-- where a question was answered as in none
pub differs_cut : (setting : Setting) (job : Job) (runs : List Kept) (marks : List Bool) (first : List Pair) (near at : ℕ) (answer : Answer) (r : Replayed) (o m : Outside) (told : List (List ℕ))
    → r ≡ again.Differs near at answer → AskedTo setting job runs marks first r o m → CutOff setting (calls_left setting job first o) o.hosts m.hosts told told
differs_cut setting job runs marks first near at answer r o m told is to =
    let asked : AskedTo setting job runs marks first (again.Differs near at answer) o m = subst (λ (x : Replayed). AskedTo setting job runs marks first x o m) is to in
    cut_after setting job first (asked.0 ++ (asked.1, answer) ∷ []) [] o m told told asked.4 (ran_none told told refl)

-- at a load
module _ (setting : Setting) (runs : List Kept) (marks : List Bool) (at : ℕ) (on : AreTogether setting.body runs marks at) (op : Question) (o : Moment) (in_time : EndsInTime setting.body) (l : IsLoadOf runs marks at op) where
  pub load_cut : (now : HostState) (told_now : List (List ℕ)) → CutOff setting (calls_for (calls_within setting (room o.outside.live)) op o.outside) o.outside.hosts now o.told told_now
      → CutOff setting (calls_left setting on.job on.first o.outside) o.outside.hosts now o.told told_now
  load_cut now told_now cut =
      let asks : setting.body on.job (answers on.first) ≡ Asks op =
      (asks_at setting.body runs marks at on l.near l.kept l.pair l.marked l.here l.there).1 ∙ ap Asks (sym l.op_is) in
      let goes = goes_begun setting runs marks at on l.near on.first l.marked (l.kept, l.here, (known_of setting runs marks at on l.near l.kept l.marked l.here).2) in
      let next = calls_next setting on.job on.first o.outside op in_time goes asks in
      cut_front setting (calls_left setting on.job on.first o.outside) (calls_for (calls_within setting (room o.outside.live)) op o.outside) next.0 o.outside.hosts now o.told told_now next.1 cut

  pub after_load_cut : (table : Table) (a : Answer) (t : Moment) → DidRespond table (responds setting.functions (fresh setting (room o.outside.live)) op o.outside) a o t → Fits op a
      → CutOff setting (calls_left setting on.job on.first o.outside) o.outside.hosts t.outside.hosts o.told t.told
  after_load_cut table a t did fits =
      let p : Pair = l.pair in
      let new = (responds setting.functions (fresh setting (room o.outside.live)) p.0 o.outside).runs in
      let here : DidRespond table (responds setting.functions (fresh setting (room o.outside.live)) p.0 o.outside) a o t = subst (λ (q : Question). DidRespond table (responds setting.functions (fresh setting (room o.outside.live)) q o.outside) a o t) l.op_is did in
      let there : Fits p.0 a = subst (λ (q : Question). Fits q a) l.op_is fits in
      cut_after setting on.job on.first (on.first ++ (p.0, a) ∷ []) new o.outside t.outside o.told t.told
      (advances_with setting table runs marks marks at on l.near l.kept p a o t in_time l.marked l.here l.there here there) (told_more table new o t here.grown)

-- Evaluations

pub read_cut : (setting : Setting) (path text : List ℕ) (config : List (List ℕ × Plain)) (sheet : Sheet) (o : Outside) (now : HostState) (told told_now : List (List ℕ)) → setting.read path text ≡ Ok sheet
    → CutOff setting (calls_left setting (record { sheet = sheet; config = config; path = path }) [] o) o.hosts now told told_now
    → CutOff setting (calls_open setting o path text config) o.hosts now told told_now
read_cut setting path text config sheet o now told told_now reads cut =
    cut_at setting (calls_open setting o path text config) (calls_left setting (record { sheet = sheet; config = config; path = path }) [] o) o.hosts now told told_now
    (ap (calls_read (λ s. calls_left setting (record { sheet = s; config = config; path = path }) [] o)) reads) cut

-- behind a replay
pub agreed_cut : (setting : Setting) (table : Table) (job : Job) (runs : List Kept) (marks : List Bool) (first : List Pair) (place : ℕ) (o m : Moment) → DidAgree setting table job runs marks first place o m
    → CutOff setting (calls_left setting job first o.outside) o.outside.hosts m.outside.hosts o.told m.told
agreed_cut setting table job runs marks first place o m did =
    cut_after setting job first did.kept.run.seen did.new o.outside m.outside o.told m.told did.advances (told_more table did.new o m did.grown)

-- in the body that goes on from where it departs
pub departed_cut : (setting : Setting) (table : Table) (job : Job) (runs : List Kept) (marks : List Bool) (first : List Pair) (d : Departure) (o m : Moment) (now : HostState) (told_now : List (List ℕ)) → DidDepart setting table job runs marks first d o m
    → CutOff setting (calls_left setting job d.known m.outside) m.outside.hosts now m.told told_now
    → CutOff setting (calls_left setting job first o.outside) o.outside.hosts now o.told told_now
departed_cut setting table job runs marks first d o m now told_now did cut =
    cut_behind setting job first d.known did.new o.outside m.outside now o.told m.told told_now did.advances (told_more table did.new o m did.grown) cut

-- Compiles

pub compile_cut : (setting : Setting) (folder : Files) (paths : List (List ℕ)) (entry : List ℕ) (hosts now : HostState) (told told_now : List (List ℕ)) (enter : Enter) (path text : List ℕ) (config : List (List ℕ × Plain)) (s m : State)
    → s ≡ nothing_loaded folder paths → entered entry (entry_text s.folder entry) s ≡ (enter, m) → enter ≡ Open_entry path text → config ≡ []
    → CutOff setting (calls_open setting (record { live = m; hosts = hosts }) path text config) hosts now told told_now
    → CutOff setting (compiled setting folder paths entry hosts).calls hosts now told told_now
compile_cut setting folder paths entry hosts now told told_now enter path text config s m starts enters is none_given cut =
    let all : compiled setting folder paths entry hosts ≡ from_entry setting hosts (Open_entry path text) m =
    compiled_by setting folder paths entry hosts enter s m starts enters ∙ ap (λ (e : Enter). from_entry setting hosts e m) is in
    cut_at setting (compiled setting folder paths entry hosts).calls (calls_open setting (record { live = m; hosts = hosts }) path text config) hosts now told told_now
    (ap (λ (c : Compile). c.calls) all ∙ ap (λ c. calls_open setting (record { live = m; hosts = hosts }) path text c) (sym none_given)) cut

-- a compile leaves the host's functions as they are after its calls
entry_leads : (setting : Setting) (folder : Files) (paths : List (List ℕ)) (entry : List ℕ) (hosts : HostState) (text : Option (List ℕ))
    → (compile_by setting hosts (entered entry text (nothing_loaded folder paths))).hosts
    ≡ after_calls setting.functions (compile_by setting hosts (entered entry text (nothing_loaded folder paths))).calls hosts
entry_leads setting folder paths entry hosts None = refl
entry_leads setting folder paths entry hosts (Some text) = calls_lead setting (record { live = open_at entry (nothing_loaded folder paths); hosts = hosts }) entry text []

pub compile_leads : (setting : Setting) (folder : Files) (paths : List (List ℕ)) (entry : List ℕ) (hosts : HostState)
    → (compiled setting folder paths entry hosts).hosts ≡ after_calls setting.functions (compiled setting folder paths entry hosts).calls hosts
compile_leads setting folder paths entry hosts = entry_leads setting folder paths entry hosts (entry_text folder entry)

pub compiled_cut : (setting : Setting) (folder : Files) (paths : List (List ℕ)) (entry : List ℕ) (hosts now : HostState) (told told_now : List (List ℕ)) (table : Table) (reply : Reply) (runs : List Run)
    → IsCompiled (compiled setting folder paths entry hosts) table reply runs now told told_now → CutOff setting (compiled setting folder paths entry hosts).calls hosts now told told_now
compiled_cut setting folder paths entry hosts now told told_now table reply runs did =
    cut_all setting (compiled setting folder paths entry hosts).calls hosts now told told_now (did.same_hosts ∙ compile_leads setting folder paths entry hosts) (paths_of reply.ran, did.told)

pub breaks_off : (setting : Setting) (folder : Files) (paths : List (List ℕ)) (entry : List ℕ) (h now : HostState) (told told_now : List (List ℕ))
    → CutOff setting (compiled setting folder paths entry h).calls h now told told_now → BreaksOff setting folder paths entry h now told told_now
breaks_off setting folder paths entry h now told told_now cut =
    let calls : List HostCall = (compiled setting folder paths entry h).calls in
    let first : take (length cut.made) calls ≡ cut.made = ap (λ (l : List HostCall). take (length cut.made) l) cut.order ∙ take-append_seam cut.made cut.left in
    record {
      count = length cut.made;
      few = omega (arith, ap (λ (l : List HostCall). length l) cut.order, length-append cut.made cut.left);
      hosts = cut.hosts ∙ ap (λ (l : List HostCall). after_calls setting.functions l h) (sym first);
      more = cut.told.0;
      told = cut.told.1;
    }

-- a compile whose runs are kept
pub compiles_to : (c : Compile) (table : Table) (reply : Reply) (runs : List Run) (old new : Keeping) (hosts : HostState) (told told_now : List (List ℕ))
    → IsCompiled c table reply runs hosts told told_now → table ≡ old.kept → AreKept old.kept runs new.kept → new.folder ≡ old.folder
    → CompilesTo c reply old new hosts told told_now
compiles_to c table reply runs old new hosts told told_now did is kept folder =
    record {
      says = did.says;
      outcome = did.outcome;
      ran = subst (λ (t : Table). Ran (kept_in t) c.runs reply.ran) is did.ran;
      told = did.told;
      hosts = did.same_hosts;
      kept = subst (λ (l : List Run). AreKept old.kept l new.kept) did.same_runs kept;
      folder = folder;
    }
