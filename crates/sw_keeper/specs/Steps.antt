-- What the steps of a compile do.
use Rattle.std.specs.Prelude.{◌≡◌, ◌↔◌, ℕ, ◌<◌, Bool, List, [], ◌∷◌, ◌++◌, length, slice_get, Option, None, Some}
use Rattle.std.specs.List.{Contains}
use Rattle.sw_values.specs.declared.plain.Plain.{Plain}
use Rattle.sw_world.specs.Hosts.{HostState}
use Rattle.sw_tree.specs.declared.sheet.Sheet.{Sheet}
use Rattle.sw_world.specs.declared.question.Question.{Question}
use Rattle.sw_world.specs.declared.answer.Answer.{Answer}
use Rattle.sw_world.specs.declared.end.End.{End}
use Rattle.sw_world.specs.Body.{Pair, Job, Run}
use Rattle.sw_world.specs.Progress.{Progress, Running, Ended, IsBody}
use Rattle.sw_modules.specs.State.{State}
use Rattle.sw_modules.specs.Outside.{Outside}
use Rattle.sw_modules.specs.Calls.{HostCall, after_calls, calls_left}
use Rattle.sw_modules.specs.Fresh.{Setting, Response, responds, fresh, room, rest_of, ended, from_open}
use Rattle.sw_record.specs.declared.reply.Cause.{Cause}
use Rattle.sw_record.specs.Kept.{Kept}
use Rattle.sw_record.specs.Ran.{Ran, IsCause}
use Rattle.sw_record.specs.Together.{IsMarked}
use Rattle.sw_keeper.specs.declared.context.Opening.{Opening}
use Rattle.sw_keeper.specs.Keeping.{Table, kept_in}
use Rattle.sw_keeper.specs.Compile.{paths_of}
use Rattle.sw_keeper.specs.Results.{Results}

-- a moment of a compile: what is outside the bodies, the results so far, and of which bodies the engine has told
pub record Moment : Type 0 where
  pub outside : Outside
  pub results : Results
  pub told : List (List ℕ)

abbrev pub moment_of : State → HostState → Results → List (List ℕ) → Moment
moment_of live hosts results told =
    record { outside = record { live = live; hosts = hosts }; results = results; told = told }

-- what the body of a module that is open runs
abbrev pub job_at : Sheet → Opening → Job
job_at sheet opening = record { sheet = sheet; config = opening.config; path = opening.path }

-- a body that ended
abbrev pub run_of : Job → List ℕ → List Pair → End → Run
run_of job text seen end = record { path = job.path; text = text; config = job.config; seen = seen; end = end }

-- these runs ended, and of those of them that are none of the kept ones the bodies ran and the engine told
pub record Grown (table : Table) (new : List Run) (old now : Moment) : Type 0 where
  pub runs : now.results.runs ≡ old.results.runs ++ new
  pub grown : List (List ℕ × Cause)
  pub is : Ran (kept_in table) new grown
  pub ran : now.results.ran ≡ old.results.ran ++ grown
  pub told : now.told ≡ old.told ++ paths_of grown

-- a body that had these pairs behind it has those now, as the evaluation goes, and these calls were made
pub record Advances (setting : Setting) (job : Job) (before after : List Pair) (new : List Run) (old now : Outside) :
    Type 0 where
  pub rest : (text : List ℕ) (runs : List Run) → rest_of setting job text before runs old
      ≡ rest_of setting job text after (runs ++ new) now
  pub same_depth : length now.live.opened ≡ length old.live.opened
  pub made : List HostCall
  pub calls : calls_left setting job before old ≡ made ++ calls_left setting job after now
  pub hosts : now.hosts ≡ after_calls setting.functions made old.hosts

-- a question was answered so
pub record DidRespond (table : Table) (response : Response) (answer : Answer) (old now : Moment) : Type 0 where
  pub answered : answer ≡ response.answer
  pub outside : now.outside ≡ response.outside
  pub same_depth : length now.outside.live.opened ≡ length old.outside.live.opened
  pub grown : Grown table response.runs old now

-- an answered load
abbrev pub DidLoad : Setting → Table → Question → Answer → Moment → Moment → Type 0
DidLoad setting table op answer old now =
    DidRespond table (responds setting.functions (fresh setting (room old.outside.live)) op old.outside) answer old now

-- a body that went to its end, from where it had these pairs behind it
pub record DidEnd (setting : Setting) (table : Table) (job : Job) (text : List ℕ) (known : List Pair) (end : End)
    (old now : Moment) : Type 0 where
  pub seen : List Pair
  pub new : List Run
  pub ends : (runs : List Run)
      → rest_of setting job text known runs old.outside ≡ ended job text seen (runs ++ new) now.outside end
  pub same_depth : length now.outside.live.opened ≡ length old.outside.live.opened
  pub grown : Grown table (new ++ run_of job text seen end ∷ []) old now

-- a text that was evaluated at an open path
pub record DidEvaluate (setting : Setting) (table : Table) (path text : List ℕ) (config : List (List ℕ × Plain))
    (end : End) (old now : Moment) : Type 0 where
  pub runs : List Run
  pub gives : from_open setting old.outside path text config ≡ record { outside = now.outside; runs = runs; end = end }
  pub same_depth : length now.outside.live.opened ≡ length old.outside.live.opened
  pub grown : Grown table runs old now

-- a body went on, up to a load or its end
pub record WentOn (setting : Setting) (p q : Progress) (old now : Outside) : Type 0 where
  pub same_job : q.job ≡ p.job
  pub asked : List Pair
  pub seen : q.seen ≡ (p.seen ++ p.left) ++ asked
  pub advances : Advances setting p.job (p.seen ++ p.left) q.seen [] old now

-- one turn of a body: it was answered a load, or it ended
abbrev pub IsTurned : Option End → Progress → Progress → Type 0
IsTurned None p q = (q.status ≡ Running) × (length p.seen < length q.seen)
IsTurned (Some end) p q = q.status ≡ Ended end

abbrev pub ran_at : Option End → List ℕ → List (List ℕ)
ran_at None path = []
ran_at (Some end) path = path ∷ []

pub record Turned (setting : Setting) (table : Table) (p q : Progress) (end : Option End) (old now : Moment) : Type 0
  where
    pub same_job : q.job ≡ p.job
    pub left : q.left ≡ []
    pub more : List Pair
    pub extends : q.seen ≡ (p.seen ++ p.left) ++ more
    pub new : List Run
    pub advances : Advances setting p.job (p.seen ++ p.left) q.seen new old.outside now.outside
    pub runs : now.results.runs ≡ old.results.runs ++ new
    pub grown : List (List ℕ × Cause)
    pub is : Ran (kept_in table) new grown
    pub ran : now.results.ran ≡ old.results.ran ++ grown
    pub told : now.told ≡ old.told ++ (paths_of grown ++ ran_at end q.job.path)
    pub place : IsTurned end p q

-- a body on its way, from where it had the known pairs behind it
pub record RunsOn (setting : Setting) (table : Table) (job : Job) (known : List Pair) (p : Progress)
    (old now : Moment) : Type 0 where
  pub running : p.status ≡ Running
  pub is_body : IsBody setting.body p
  pub same_job : p.job ≡ job
  pub more : List Pair
  pub extends : p.seen ++ p.left ≡ known ++ more
  pub new : List Run
  pub advances : Advances setting job known (p.seen ++ p.left) new old.outside now.outside
  pub grown : Grown table new old now

-- the run at a place is of this text and this configuration
abbrev pub IsAlikeAt : List Kept → ℕ → List ℕ → List (List ℕ × Plain) → Type 0
IsAlikeAt runs place text config =
    (kept : Kept) × (slice_get runs place ≡ Some kept) × (kept.run.text ≡ text) × (kept.run.config ≡ config)

-- no kept run of the path is of this text and this configuration
abbrev pub NoneAlike : Table → List ℕ → List ℕ → List (List ℕ × Plain) → Type 0
NoneAlike table path text config =
    (run : Run) → Contains (kept_in table path) run → run.text ≡ text → run.config ≡ config → ⊥

-- one of these runs, which has this text
pub record IsWith (runs : List Kept) (text : List ℕ) (kept : Kept) : Type 0 where
  pub among : Contains runs kept
  pub text_is : kept.run.text ≡ text

-- just the runs that are alike are marked
abbrev pub AreAlike : List Kept → List ℕ → List (List ℕ × Plain) → List Bool → Type 0
AreAlike runs text config marks = (place : ℕ) → IsMarked marks place ↔ IsAlikeAt runs place text config

-- however the body ends that has these pairs behind it, this is why it ran
abbrev pub DiffersBy : Table → List ℕ → List ℕ → List (List ℕ × Plain) → List Pair → Cause → Type 0
DiffersBy table path text config known cause =
    (more : List Pair) (end : End)
    → IsCause (kept_in table path) (record
    { path = path; text = text; config = config; seen = known ++ more; end = end }) cause
