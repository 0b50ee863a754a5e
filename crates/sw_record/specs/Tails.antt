-- The questions behind the last load of a trace, told by what they name (this project's own rule).
use Rattle.std.specs.Prelude.{◌≡◌, ◌⊎◌, ℕ, ◌+◌, ◌<◌, ◌≤◌, List, [], length, slice_get, Some}
use Rattle.std.specs.List.{All, Contains}
use Rattle.sw_tree.specs.declared.callable.Kind.TheVariants.{Variable}
use Rattle.sw_values.specs.declared.plain.Plain.{Plain}
use Rattle.sw_world.specs.declared.question.Question.{Question}
use Rattle.sw_world.specs.declared.question.Question.TheVariants.{Find, Get}
use Rattle.sw_world.specs.declared.answer.Answer.{Answer}
use Rattle.sw_world.specs.declared.answer.Answer.TheVariants.{Owner, Value}
use Rattle.sw_world.specs.declared.variables.NamedVariables.{NamedVariables}
use Rattle.sw_world.specs.Questions.{IsLoad}
use Rattle.sw_world.specs.Body.{Pair}
use Rattle.sw_world.specs.Named.{IsOfVariable, IsNamedIn}
use Rattle.sw_record.specs.declared.tail.Tail.{Tail}

-- the pair stands at one of these places
abbrev pub StandsAt : List Pair → List ℕ → Pair → Type 0
StandsAt seen places pair = (place : ℕ) × Contains places place × (slice_get seen place ≡ Some pair)

-- it stands for a variable that is named, or at a place that is told
abbrev pub IsTold : List NamedVariables → List ℕ → List Pair → Pair → Type 0
IsTold named alone seen pair = IsNamedIn named pair ⊎ StandsAt seen alone pair

-- so are all from one place up to another
pub record TellsUpTo (named : List NamedVariables) (alone : List ℕ) (seen : List Pair) (from to : ℕ) : Type 0 where
  pub ordered : from ≤ to
  pub within : to ≤ length seen
  pub told :
      (place : ℕ) (pair : Pair) → from ≤ place → place < to → slice_get seen place ≡ Some pair
      → IsTold named alone seen pair

abbrev pub IsTail : List Pair → Tail → Type 0
IsTail seen tail = TellsUpTo tail.named tail.alone seen tail.from tail.to

-- at a place it is asked which variable a name is, and behind it what the value of that one is
pub record IsReadAt (seen : List Pair) (at : ℕ) (site space path name : List ℕ) (value : Plain) : Type 0 where
  pub named : slice_get seen at ≡ Some (Find site (Some space) Variable name, Owner path name)
  pub valued : slice_get seen (at + 1) ≡ Some (Get path name, Value value)

-- one of these two
abbrev pub IsOfRead : List ℕ → List ℕ → List ℕ → List ℕ → Plain → Pair → Type 0
IsOfRead site space path name value pair =
    IsOfVariable (record { site = site; space = space; path = path; values = [] }) (name, value) pair

-- all for which these variables stand are answered so, which changes nothing
abbrev pub AreGiven : {W : Type 0} → (W → Question → Answer → W → Type 0) → W → List NamedVariables → Type 0
AreGiven gives w named = (pair : Pair) → IsNamedIn named pair → gives w pair.0 pair.1 w

-- the question at a place is answered so, which changes nothing; it is no load
abbrev pub IsGivenAt : {W : Type 0} → (W → Question → Answer → W → Type 0) → W → List Pair → ℕ → Type 0
IsGivenAt gives w seen place =
    (pair : Pair) → slice_get seen place ≡ Some pair → (IsLoad pair.0 → ⊥) × gives w pair.0 pair.1 w

abbrev pub AreGivenAt : {W : Type 0} → (W → Question → Answer → W → Type 0) → W → List Pair → List ℕ → Type 0
AreGivenAt gives w seen places = All (IsGivenAt gives w seen) places
