-- A text that is held only as far as a value may weigh.
use Rattle.std.specs.Prelude.{◌≡◌, ◌<◌, ◌≤◌, ℕ, nat_lt, if◌then◌else◌, List, ◌++◌, length, Option, Some, None, Result, Ok, Err}
use Rattle.sw_values.specs.declared.fault.ValueFault.{ValueFault}
use Rattle.sw_values.specs.declared.fault.ValueFault.TheVariants as F
use Rattle.sw_values.specs.Weight.{most}

-- a text, unless it is too long for a value
abbrev pub if_short : List ℕ → Option (List ℕ)
if_short text = if nat_lt (length text) most then Some text else None

-- what is written, with a text behind it
unfoldable pub appended : Option (List ℕ) → List ℕ → Option (List ℕ)
appended None text = None
appended (Some written) text = if_short (written ++ text)

-- the name of a text, or that it is too long
abbrev pub IsNamed : List ℕ → Result (List ℕ) ValueFault → Type 0
IsNamed text (Ok name) = (name ≡ text) × (length text < most)
IsNamed text (Err F.TooLarge) = most ≤ length text
IsNamed text (Err F.NotCss) = ⊥
IsNamed text (Err (F.DuplicateKey place)) = ⊥
IsNamed text (Err F.Memory) = Unit {0}
