-- The evaluation of a module from nothing (this project's own rule: what a compile has to give is what this gives).
use Rattle.std.specs.Prelude.{ℕ, zero, suc, ◌-◌, List, [], ◌∷◌, ◌++◌, length, Option, Result, Ok, Err}
use Rattle.sw_text.specs.Starts.{start_of}
use Rattle.sw_text.specs.declared.fault.Fault.{Fault}
use Rattle.sw_text.specs.declared.fault.FaultCode.TheVariants.{Turns}
use Rattle.sw_tree.specs.declared.sheet.Sheet.{Sheet}
use Rattle.sw_values.specs.declared.plain.Plain.{Plain}
use Rattle.sw_world.specs.Hosts.{HostState}
use Rattle.sw_world.specs.declared.question.Question.{Question}
use Rattle.sw_world.specs.declared.question.Question.TheVariants.{Load, Find, Get, Put, Say, Call}
use Rattle.sw_world.specs.declared.answer.Answer.{Answer}
use Rattle.sw_world.specs.declared.end.End.{End}
use Rattle.sw_world.specs.declared.end.End.TheVariants.{Fault as Fault_end}
use Rattle.sw_world.specs.Body.{Pair, Run, Job, Next, Asks, Ends, BodyOf, answers}
use Rattle.sw_world.specs.Laws.{most_asked}
use Rattle.sw_modules.specs.declared.live.Begin.{Begin}
use Rattle.sw_modules.specs.declared.live.Begin.TheVariants.{Answered, Open}
use Rattle.sw_modules.specs.State.{State, path_in}
use Rattle.sw_modules.specs.Loads.{begun, ended_by}
use Rattle.sw_modules.specs.Outside.{Functions, Outside, plain}

-- what an evaluation rests on: the host's functions, how a path and a text are read, and what bodies do
pub record Setting : Type 0 where
  pub functions : Functions
  pub read : List ℕ → List ℕ → Result Sheet Fault
  pub body : BodyOf

abbrev pub setting_of : (HostState → List ℕ → List Plain → Option Plain)
    → (HostState → List ℕ → List Plain → HostState) → (List ℕ → List ℕ → Result Sheet Fault) → BodyOf → Setting
setting_of answer after read body =
    record { functions = record { answer = answer; after = after }; read = read; body = body }

-- what is outside when a body has ended, the runs that ended until then, and how it ended
pub record Outcome : Type 0 where
  pub outside : Outside
  pub runs : List Run
  pub end : End

-- an evaluation of a text at a path, which is open, with a configuration
abbrev pub Evaluation : Type 0
Evaluation = Outside → List ℕ → List ℕ → List (List ℕ × Plain) → Outcome

-- an answer, what is outside then, and the runs that ended for it
pub record Response : Type 0 where
  pub answer : Answer
  pub outside : Outside
  pub runs : List Run

abbrev pub at_once : Outside → List Run → Answer × State → Response
at_once o runs p = record { answer = p.0; outside = record o { live = p.1 }; runs = runs }

-- the answer to the innermost open load, when its body has ended so
abbrev pub load_ended : Question → Outcome → Response
load_ended op c = at_once c.outside c.runs (ended_by op (path_in c.outside.live.opened) c.end c.outside.live)

abbrev pub load_by : Evaluation → Question → Begin → State → Outside → Response
load_by inner op (Answered answer) s o = record { answer = answer; outside = record o { live = s }; runs = [] }
load_by inner op (Open path text config) s o = load_ended op (inner (record o { live = s }) path text config)

abbrev pub load_response : Evaluation → Question → Begin × State → Outside → Response
load_response inner op p o = load_by inner op p.0 p.1 o

abbrev pub plainly : Answer × Outside → Response
plainly p = record { answer = p.0; outside = p.1; runs = [] }

-- the answer to a question; the modules that a load opens are evaluated by inner
abbrev pub responds : Functions → Evaluation → Question → Outside → Response
responds functions inner (Load site url span how config) o =
    load_response inner (Load site url span how config) (begun (Load site url span how config) o.live) o
responds functions inner (Find site space kind name) o = plainly (plain functions (Find site space kind name) o)
responds functions inner (Get owner name) o = plainly (plain functions (Get owner name) o)
responds functions inner (Put owner name value) o = plainly (plain functions (Put owner name value) o)
responds functions inner (Say kind span text) o = plainly (plain functions (Say kind span text) o)
responds functions inner (Call name args) o = plainly (plain functions (Call name args) o)

-- a body has ended, with these pairs and runs behind it
abbrev pub ended : Job → List ℕ → List Pair → List Run → Outside → End → Outcome
ended job text pairs runs o end =
    record {
      outside = o;
      runs =
          runs ++ (record { path = job.path; text = text; config = job.config; seen = pairs; end = end }) ∷ [];
      end = end;
    }

-- one turn, by what the body does next and by the rest of the evaluation
abbrev pub turn : Functions → Evaluation → (List Pair → List Run → Outside → Outcome) → Job → List ℕ → List Pair
    → List Run → Outside → Next → Outcome
turn functions inner rest job text pairs runs o (Ends end) = ended job text pairs runs o end
turn functions inner rest job text pairs runs o (Asks op) =
    let r = responds functions inner op o in rest (pairs ++ (op, r.answer) ∷ []) (runs ++ r.runs) r.outside

-- how a body would end that asks more than every body does
abbrev pub overrun : List ℕ → End
overrun path = Fault_end (record { code = Turns; span = start_of path })

-- the rest of an evaluation: a body that has these pairs and runs behind it, and at most so many turns left
unfoldable pub goes_on : Setting → Evaluation → Job → List ℕ → ℕ → List Pair → List Run → Outside → Outcome
goes_on setting inner job text zero pairs runs o = ended job text pairs runs o (overrun job.path)
goes_on setting inner job text (suc more) pairs runs o =
    turn setting.functions inner (goes_on setting inner job text more) job text pairs runs o
    (setting.body job (answers pairs))

-- a text that isn't read ends at once with its fault
abbrev pub evaluated_by : (Sheet → Outcome) → Outside → Result Sheet Fault → Outcome
evaluated_by evaluate o (Ok sheet) = evaluate sheet
evaluated_by evaluate o (Err fault) = record { outside = o; runs = []; end = Fault_end fault }

-- evaluation with at most this many loads open inside it
unfoldable pub fresh : Setting → ℕ → Evaluation
fresh setting zero = λ o path text config. record { outside = o; runs = []; end = overrun path }
fresh setting (suc depth) = λ o path text config.
    evaluated_by (λ sheet. goes_on setting (fresh setting depth)
    (record { sheet = sheet; config = config; path = path }) text (suc most_asked) [] [] o) o
    (setting.read path text)

-- how many loads may still be opened
abbrev pub room : State → ℕ
room s = 64 - length s.opened

-- the rest of the evaluation of a module whose path is open, where its body has these pairs behind it
abbrev pub rest_of : Setting → Job → List ℕ → List Pair → List Run → Outside → Outcome
rest_of setting job text pairs runs o =
    goes_on setting (fresh setting (room o.live)) job text (suc most_asked - length pairs) pairs runs o

-- the evaluation of a module whose path is open
abbrev pub from_open : Setting → Outside → List ℕ → List ℕ → List (List ℕ × Plain) → Outcome
from_open setting o path text config =
    evaluated_by (λ sheet. rest_of setting (record { sheet = sheet; config = config; path = path }) text [] [] o) o
    (setting.read path text)
