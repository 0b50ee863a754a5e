-- The calls of the host's functions in an evaluation, in order (this project's own rule).
use Rattle.std.specs.Prelude.{◌≡◌, ℕ, zero, suc, ◌-◌, List, [], ◌∷◌, ◌++◌, length, Result, Ok, Err}
use Rattle.sw_text.specs.declared.fault.Fault.{Fault}
use Rattle.sw_tree.specs.declared.sheet.Sheet.{Sheet}
use Rattle.sw_values.specs.declared.plain.Plain.{Plain}
use Rattle.sw_world.specs.Hosts.{HostState}
use Rattle.sw_world.specs.declared.question.Question.{Question}
use Rattle.sw_world.specs.declared.question.Question.TheVariants.{Load, Find, Get, Put, Say, Call}
use Rattle.sw_world.specs.Body.{Pair, Job, Next, Asks, Ends, answers}
use Rattle.sw_world.specs.Laws.{most_asked}
use Rattle.sw_modules.specs.declared.live.Begin.{Begin}
use Rattle.sw_modules.specs.declared.live.Begin.TheVariants.{Answered, Open}
use Rattle.sw_modules.specs.State.{State}
use Rattle.sw_modules.specs.Loads.{begun}
use Rattle.sw_modules.specs.Outside.{Functions, Outside}
use Rattle.sw_modules.specs.Fresh.{Setting, Evaluation, responds, fresh, room, from_open}

pub record HostCall : Type 0 where
  pub name : List ℕ
  pub args : List Plain

-- what the host's functions are after these calls
abbrev pub after_calls : Functions → List HostCall → HostState → HostState
after_calls functions [] hosts = hosts
after_calls functions (call ∷ calls) hosts = after_calls functions calls (functions.after hosts call.name call.args)

-- the calls in the evaluation of a text at a path, which is open, with a configuration
abbrev pub CallsIn : Type 0
CallsIn = Outside → List ℕ → List ℕ → List (List ℕ × Plain) → List HostCall

abbrev pub calls_begun : CallsIn → Begin → State → Outside → List HostCall
calls_begun inside (Answered answer) s o = []
calls_begun inside (Open path text config) s o = inside (record o { live = s }) path text config

-- the calls that answer a question; those of the modules that a load opens are given by inside
abbrev pub calls_for : CallsIn → Question → Outside → List HostCall
calls_for inside (Load site url span how config) o =
    let b = begun (Load site url span how config) o.live in calls_begun inside b.0 b.1 o
calls_for inside (Find site space kind name) o = []
calls_for inside (Get owner name) o = []
calls_for inside (Put owner name value) o = []
calls_for inside (Say kind span text) o = []
calls_for inside (Call name args) o = record { name = name; args = args } ∷ []

-- those of one turn and of the rest
abbrev pub calls_turn : Functions → Evaluation → CallsIn → (List Pair → Outside → List HostCall) → List Pair → Outside
    → Next → List HostCall
calls_turn functions inner inside rest pairs o (Ends end) = []
calls_turn functions inner inside rest pairs o (Asks op) =
    let r = responds functions inner op o in
    calls_for inside op o ++ rest (pairs ++ (op, r.answer) ∷ []) r.outside

-- those of the rest of an evaluation: a body that has these pairs behind it, and at most so many turns left
unfoldable pub calls_on : Setting → Evaluation → CallsIn → Job → ℕ → List Pair → Outside → List HostCall
calls_on setting inner inside job zero pairs o = []
calls_on setting inner inside job (suc more) pairs o =
    calls_turn setting.functions inner inside (calls_on setting inner inside job more) pairs o
    (setting.body job (answers pairs))

abbrev pub calls_read : (Sheet → List HostCall) → Result Sheet Fault → List HostCall
calls_read calls (Ok sheet) = calls sheet
calls_read calls (Err fault) = []

-- those of an evaluation with at most this many loads open inside it
unfoldable pub calls_within : Setting → ℕ → CallsIn
calls_within setting zero = λ o path text config. []
calls_within setting (suc depth) = λ o path text config.
    calls_read (λ sheet. calls_on setting (fresh setting depth) (calls_within setting depth)
    (record { sheet = sheet; config = config; path = path }) (suc most_asked) [] o) (setting.read path text)

-- those of the rest of the evaluation of a module whose path is open, where its body has these pairs behind it
abbrev pub calls_left : Setting → Job → List Pair → Outside → List HostCall
calls_left setting job pairs o =
    calls_on setting (fresh setting (room o.live)) (calls_within setting (room o.live)) job
    (suc most_asked - length pairs) pairs o

-- those of the evaluation of a module whose path is open
abbrev pub calls_open : Setting → CallsIn
calls_open setting o path text config =
    calls_read (λ sheet. calls_left setting (record { sheet = sheet; config = config; path = path }) [] o)
    (setting.read path text)

-- an evaluation leaves the host's functions as they are after its calls
abbrev pub CallsLead : Type 0
CallsLead =
    (setting : Setting) (o : Outside) (path text : List ℕ) (config : List (List ℕ × Plain)) →
    (from_open setting o path text config).outside.hosts
    ≡ after_calls setting.functions (calls_open setting o path text config) o.hosts
