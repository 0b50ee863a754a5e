-- What a call of a host function gives, and its state behind the call: a row for each kind.
use Rattle.std.specs.Prelude.{ℕ, ◌+◌, ◌==◌, nat_lt, if◌then◌else◌, List, [], ◌∷◌}
use Rattle.sw_fn_call.specs.Answers.{count}
use Rattle.sw_values.specs.declared.plain.Plain.{Plain}
use Rattle.sw_values.specs.declared.plain.Plain.TheVariants as P

-- a value and the next state
pub record Row : Type 0 where
  pub value : Plain
  pub next : List ℕ

-- the number at which a counter stays
abbrev pub most_calls : ℕ
most_calls = 1000000000

abbrev pub counted : ℕ → ℕ
counted number = if nat_lt number most_calls then number + 1 else number

-- a counter's state is its one number; it answers the next one, whatever the arguments
abbrev pub counter_row : List ℕ → Row
counter_row [] = record { value = P.Null; next = [] }
counter_row (number ∷ _) = record { value = count (counted number); next = counted number ∷ [] }

-- the first argument, or null without one
abbrev pub first_of : List Plain → Plain
first_of [] = P.Null
first_of (first ∷ _) = first

-- kind 1 counts; kind 2 answers its first argument; no other kind is called
abbrev pub host_row : ℕ → List ℕ → List Plain → Row
host_row kind state args =
    if kind == 1 then counter_row state
    else if kind == 2 then record { value = first_of args; next = state }
    else record { value = P.Null; next = state }
