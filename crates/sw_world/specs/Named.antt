-- The questions that the variables stand for which a body names behind a namespace (this project's own rule).
use Rattle.std.specs.Prelude.{◌≡◌, ◌⊎◌, ℕ, List, [], ◌∷◌, Some}
use Rattle.sw_tree.specs.declared.callable.Kind.TheVariants.{Variable}
use Rattle.sw_values.specs.declared.plain.Plain.{Plain}
use Rattle.sw_world.specs.declared.question.Question.TheVariants.{Find, Get}
use Rattle.sw_world.specs.declared.answer.Answer.TheVariants.{Owner, Value}
use Rattle.sw_world.specs.declared.variables.NamedVariables.{NamedVariables}
use Rattle.sw_world.specs.Body.{Pair}

-- it is answered which variable the name is, or what the variable's value is
abbrev pub IsOfVariable : NamedVariables → List ℕ × Plain → Pair → Type 0
IsOfVariable named variable pair =
    (pair ≡ (Find named.site (Some named.space) Variable variable.0, Owner named.path variable.0))
    ⊎ (pair ≡ (Get named.path variable.0, Value variable.1))

-- one of these variables is asked for so
abbrev pub IsOfOne : NamedVariables → List (List ℕ × Plain) → Pair → Type 0
IsOfOne named [] pair = ⊥
IsOfOne named (variable ∷ rest) pair = IsOfVariable named variable pair ⊎ IsOfOne named rest pair

abbrev pub IsNamed : NamedVariables → Pair → Type 0
IsNamed named pair = IsOfOne named named.values pair

-- a variable of one of these modules is asked for so
abbrev pub IsNamedIn : List NamedVariables → Pair → Type 0
IsNamedIn [] pair = ⊥
IsNamedIn (named ∷ rest) pair = IsNamed named pair ⊎ IsNamedIn rest pair
