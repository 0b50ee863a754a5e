-- What a module takes of its configuration (the Sass specification on variable declarations with `!default`).
use Rattle.std.specs.Prelude.{ℕ, Bool, true, false, if◌then◌else◌, List, [], ◌∷◌, ◌++◌, Option, Some, None}
use Rattle.sw_tree.specs.declared.statement.Statement.{Statement, out-Statement}
use Rattle.sw_tree.specs.declared.statement.Statement.TheOpen.{Statement-F}
use Rattle.sw_tree.specs.declared.statement.Variable.{Variable}
use Rattle.sw_values.specs.declared.plain.Plain.{Plain}
use Rattle.sw_eval_configurations.specs.Loads.{Layer}
use Rattle.sw_eval_configurations.specs.Passing.{Settings, value_in, has_name}
use Rattle.sw_eval_state.specs.Owners.{is_null}
use Rattle.sw_eval_state.specs.Scope.{set_own}
use Rattle.sw_eval_state.specs.declared.state.State.{State}

-- a name of it is taken, each once
abbrev pub took : List ℕ → State → State
took name s = if has_name s.taken name then s else record s { taken = s.taken ++ name ∷ [] }

abbrev pub took_all : List (List ℕ) → State → State
took_all [] s = s
took_all (name ∷ names) s = took_all names (took name s)

-- a variable takes this value, which it has where that isn't null
abbrev pub preset_to : Variable → Plain → State → Bool × State
preset_to x v s = if is_null v then (false, took x.name s) else (true, set_own (took x.name s) (x.name, v))

abbrev pub preset_by : Variable → Option Plain → State → Bool × State
preset_by x None s = (false, s)
preset_by x (Some v) s = preset_to x v s

-- a variable with a default takes its configured value, where there is one
abbrev pub preset_variable : Settings → Variable → State → Bool × State
preset_variable config x s = if x.flags.default then preset_by x (value_in config x.name) s else (false, s)

abbrev pub preset_in : Settings → Layer → State → Bool × State
preset_in config (Statement-F.Variable x) s = preset_variable config x s
preset_in config _ s = (false, s)

-- a statement of the top level has its configured value
unfoldable pub preset : Settings → Statement → State → Bool × State
preset config x s = preset_in config (out-Statement x) s
