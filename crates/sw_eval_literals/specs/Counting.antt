-- Which numbers `@for` counts (the Sass specification on `@for`; places of faults are this project's own).
use Rattle.std.specs.Prelude.{◌<◌, ℕ, ◌+◌, ◌*◌, ◌/◌, ℤ, pos, ◌+ℤ◌, ◌-ℤ◌, unsigned_abs, Bool, if◌then◌else◌, Option, Some, None, Result, Ok, Err}
use Rattle.std.specs.Ordering.{int_cmp, is_gt}
use Rattle.sw_text.specs.declared.fault.FaultCode.TheVariants as C
use Rattle.sw_text.specs.declared.place.Span.{Span}
use Rattle.sw_fixed.specs.declared.fault.NumberFault.{NumberFault}
use Rattle.sw_fixed.specs.Arithmetic.{scale, whole_of, IsWithin}
use Rattle.sw_units.specs.declared.number.Number.{Number}
use Rattle.sw_units.specs.declared.units.Units.{Units}
use Rattle.sw_units.specs.Numbers.{converted, plain}
use Rattle.sw_values.specs.declared.plain.Plain.{Plain}
use Rattle.sw_values.specs.declared.plain.Plain.TheVariants as P
use Rattle.sw_ops.specs.Sides.{number_in}
use Rattle.sw_eval_literals.specs.Answers.{Answer, refused, number_code}

-- from a first number on, one more or one less at each turn
pub record Count : Type 0 where
  pub first : ℤ
  pub units : Units
  pub down : Bool
  pub turns : ℕ

abbrev pub moved : Bool → ℤ → ℕ → ℤ
moved down first turn = if down then first -ℤ pos (turn * scale) else first +ℤ pos (turn * scale)

-- the number of a turn; the first turn is turn 0
abbrev pub counted : Count → ℕ → Plain
counted count turn = P.Number (plain count.units (moved count.down count.first turn))

-- each number that is counted can be held
abbrev pub AreHeld : Count → Type 0
AreHeld count = (turn : ℕ) → turn < count.turns → IsWithin (moved count.down count.first turn)

abbrev pub count_from : Number → ℤ → Bool → Count
count_from from to through = record {
  first = from.value;
  units = from.units;
  down = is_gt (int_cmp from.value to);
  turns = unsigned_abs (to -ℤ from.value) / scale + (if through then 1 else 0);
}

abbrev pub whole_by : Number → ℤ → Bool → Span → Option ℤ → Option ℤ → Answer Count
whole_by from to through span (Some one) (Some other) = Ok (count_from from to through)
whole_by from to through span (Some one) None = refused C.ArgumentFault span
whole_by from to through span None other = refused C.ArgumentFault span

-- both numbers are whole
abbrev pub whole : Number → Result ℤ NumberFault → Bool → Span → Answer Count
whole from (Ok to) through span = whole_by from to through span (whole_of from.value) (whole_of to)
whole from (Err fault) through span = refused (number_code fault) span

abbrev pub counting_by : Option Number → Option Number → Bool → Span → Answer Count
counting_by (Some from) (Some to) through span = whole from (converted to from.units) through span
counting_by (Some from) None through span = refused C.TypeFault span
counting_by None to through span = refused C.TypeFault span

-- two numbers, of which the second is counted in the first one's units; the last number is counted with `through` alone
unfoldable pub counting : Plain → Plain → Bool → Span → Answer Count
counting from to through span = counting_by (number_in from) (number_in to) through span
