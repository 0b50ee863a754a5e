-- What answers the questions of bodies: the live state and the host's functions (this project's own rule).
use Rattle.std.specs.Prelude.{◌≡◌, ℕ, List, [], ◌∷◌, ◌++◌, false, bytes_eq, Option, Some}
use Rattle.std.specs.Map.{lookup}
use Rattle.sw_text.specs.Names.{is_private}
use Rattle.sw_values.specs.declared.plain.Plain.{Plain}
use Rattle.sw_world.specs.Hosts.{HostState}
use Rattle.sw_world.specs.declared.question.Question.{Question}
use Rattle.sw_world.specs.declared.question.Question.TheVariants.{Load, Find, Get, Put, Say, Call}
use Rattle.sw_world.specs.declared.answer.Answer.{Answer}
use Rattle.sw_world.specs.declared.answer.Answer.TheVariants.{Value, Done, Hosted}
use Rattle.sw_modules.specs.State.{State, with_variable}
use Rattle.sw_modules.specs.Names.{found, value_of}

-- what the host's functions answer, and what they are afterwards
pub record Functions : Type 0 where
  pub answer : HostState → List ℕ → List Plain → Option Plain
  pub after : HostState → List ℕ → List Plain → HostState

-- all that is outside the bodies
pub record Outside : Type 0 where
  pub live : State
  pub hosts : HostState

-- the answer to a question that is no load, and what is outside then
abbrev pub plain : Functions → Question → Outside → Answer × Outside
plain functions (Find site space kind name) o = (found o.live site space kind name, o)
plain functions (Get owner name) o = (Value (value_of o.live owner name), o)
plain functions (Put owner name value) o =
    (Done, record o { live = record o.live { loaded = with_variable o.live.loaded owner name value } })
plain functions (Say kind span text) o = (
  Done,
  record o {
    live =
        record o.live { says = o.live.says ++ (record { kind = kind; span = span; text = text }) ∷ [] };
  },
)
plain functions (Call name args) o =
    (Hosted (functions.answer o.hosts name args), record o { hosts = functions.after o.hosts name args })
plain functions (Load site url span how config) o = (Done, o)

-- a question for a name or a value is answered so, which changes nothing
abbrev pub IsAnswer : State → Question → Answer → Type 0
IsAnswer s (Find site space kind name) answer = found s site space kind name ≡ answer
IsAnswer s (Get owner name) answer = Value (value_of s owner name) ≡ answer
IsAnswer s (Put owner name value) answer = ⊥
IsAnswer s (Say kind span text) answer = ⊥
IsAnswer s (Call name args) answer = ⊥
IsAnswer s (Load site url span how config) answer = ⊥

-- it is public, and one of these variables with its value
abbrev pub IsPublic : List (List ℕ × Plain) → List ℕ × Plain → Type 0
IsPublic variables variable =
    (is_private variable.0 ≡ false) × (lookup (bytes_eq variable.0) variables ≡ Some variable.1)
