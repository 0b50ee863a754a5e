-- The bodies of the announcer (this project's own): each loads its own path, says it, and ends. One whose sheet has no
-- statement ends at once. A body leaves nothing behind, so where its sheet has a variable it ends with a fault.
use Rattle.std.specs.Prelude.{◌≡◌, ℕ, Option, None, Some, List, [], ◌∷◌}
use Rattle.sw_text.specs.declared.place.Span.{Span}
use Rattle.sw_text.specs.declared.fault.Fault.{Fault}
use Rattle.sw_text.specs.declared.fault.FaultCode.TheVariants.{UnknownVariable}
use Rattle.sw_tree.specs.declared.sheet.Sheet.{Sheet}
use Rattle.sw_tree.specs.declared.statement.Statement.{Statement}
use Rattle.sw_tree.specs.Globals.{globals}
use Rattle.sw_css_tree.specs.Output.{nothing}
use Rattle.sw_world.specs.declared.question.Question.{Question}
use Rattle.sw_world.specs.declared.question.Question.TheVariants.{Load, Say}
use Rattle.sw_world.specs.declared.question.How.TheVariants.{Use}
use Rattle.sw_world.specs.declared.question.SayKind.TheVariants.{Warn}
use Rattle.sw_world.specs.declared.answer.Answer.{Answer}
use Rattle.sw_world.specs.declared.answer.Answer.TheVariants.{Refused}
use Rattle.sw_world.specs.declared.end.End.{End}
use Rattle.sw_world.specs.declared.end.End.TheVariants.{Fault as Fault_end, Done as Done_end}
use Rattle.sw_world.specs.declared.end.Finish.{Finish}
use Rattle.sw_world.specs.Body.{Pair, Next, Asks, Ends, BodyOf}

-- the first place of a file
abbrev pub begin_of : List ℕ → Span
begin_of path = record { file = path; from = record { line = 1; column = 1 }; to = record { line = 1; column = 1 } }

abbrev pub load_of : List ℕ → Question
load_of path = Load path path (begin_of path) (Use None) []

abbrev pub message_of : List ℕ → Question
message_of path = Say Warn (begin_of path) path

abbrev pub leaves_nothing : Finish
leaves_nothing = record { variables = []; callables = []; css = nothing; taken = [] }

-- how a body ends whose sheet has these variables
abbrev pub end_by : List (List ℕ) → List ℕ → End
end_by [] path = Done_end leaves_nothing
end_by (name ∷ names) path = Fault_end (record { code = UnknownVariable; span = begin_of path })

-- how a body ends to which nothing is refused
abbrev pub end_of : Sheet → List ℕ → End
end_of sheet path = end_by (globals sheet) path

-- why the load is refused
abbrev pub refusal : Answer → Option Fault
refusal (Refused fault) = Some fault
refusal _ = None

-- what a body does once its load is answered
abbrev pub loaded_at : End → List ℕ → Option Fault → List Answer → Next
loaded_at end path (Some fault) later = Ends (Fault_end fault)
loaded_at end path None [] = Asks (message_of path)
loaded_at end path None (said ∷ later) = Ends end

-- a body that asks
abbrev pub asks_at : End → List ℕ → List Answer → Next
asks_at end path [] = Asks (load_of path)
asks_at end path (answer ∷ later) = loaded_at end path (refusal answer) later

-- a body whose sheet has these statements
abbrev pub does_at : List Statement → End → List ℕ → List Answer → Next
does_at [] end path given = Ends end
does_at (statement ∷ statements) end path given = asks_at end path given

abbrev pub announces_at : Sheet → List ℕ → List Answer → Next
announces_at sheet path = does_at sheet.statements (end_of sheet path) path

abbrev pub announces : BodyOf
announces job = announces_at job.sheet job.path

-- why the first of these answers refuses the load
abbrev pub first_refusal : List Pair → Option Fault
first_refusal [] = None
first_refusal (pair ∷ pairs) = refusal pair.1

-- the load was answered, and not refused
abbrev pub IsLoaded : List Pair → Type 0
IsLoaded [] = ⊥
IsLoaded (pair ∷ pairs) = refusal pair.1 ≡ None
