-- A text that is too heavy makes one that is too heavy.
use Rattle.std.proofs.Common.{◌≡◌, ◌≤◌, ◌<◌, ◌+◌, ℕ, Bool, true, false, ◌&&◌, nat_le, List, ◌++◌, length, length-append, Err, refl, sym, arith}
use Rattle.std.proofs.lemmas.Bool.Decides.{nat_tests}
use Rattle.sw_values.specs.declared.plain.Plain.TheVariants as P
use Rattle.sw_values.specs.Sizes.{weigh_text}
use Rattle.sw_values.specs.Texts.{Shown}
use Rattle.sw_values.specs.Weight.{most, is_within}
use Rattle.sw_ops.specs.declared.fault.OpFault.{OpFault}
use Rattle.sw_ops.specs.declared.fault.OpFault.TheVariants as F
use Rattle.sw_ops.specs.Answers.{IsAnswer}
use Rattle.sw_ops.specs.Sides.{within}
use Rattle.sw_ops.specs.Joined.{joined, IsText}

not_le : (n m : ℕ) → m < n → nat_le n m ≡ false
not_le n m lt = grind (arith, nat_tests)

too_heavy : (text : List ℕ) (quoted : Bool) → most ≤ length text → within (P.Text text quoted) ≡ Err F.TooLarge
too_heavy text quoted h =
    let e : is_within (P.Text text quoted) ≡ false = rw (weigh_text text quoted, not_le (length text + 1) most (omega (arith, h))) refl in
    rw e refl

part_fault : (fault : OpFault) (part text : List ℕ) (quoted : Bool) → length part ≤ length text → IsText (Err fault) part → IsAnswer (Err fault) (within (P.Text text quoted))
part_fault F.TypeFault part text quoted le h = absurd h
part_fault F.UnitFault part text quoted le h = absurd h
part_fault F.DivideByZero part text quoted le h = absurd h
part_fault F.NumberRange part text quoted le h = absurd h
part_fault F.NotCss part text quoted le h = absurd h
part_fault F.TooLarge part text quoted le h = sym (too_heavy text quoted (omega (arith, le, h)))
part_fault F.Memory part text quoted le h = tt

pub left_fault : (fault : OpFault) (quoted : Bool) (sign : List ℕ) (left right : Shown) → (left.css && right.css) ≡ true → IsText (Err fault) left.text → IsAnswer (Err fault) (joined quoted sign left right)
left_fault fault quoted sign left right css h =
    rw css (part_fault fault left.text (left.text ++ sign ++ right.text) quoted (rw (length-append (left.text ++ sign) right.text, length-append left.text sign) (omega arith)) h)

pub right_fault : (fault : OpFault) (quoted : Bool) (sign : List ℕ) (left right : Shown) → (left.css && right.css) ≡ true → IsText (Err fault) right.text → IsAnswer (Err fault) (joined quoted sign left right)
right_fault fault quoted sign left right css h =
    rw css (part_fault fault right.text (left.text ++ sign ++ right.text) quoted (rw (length-append (left.text ++ sign) right.text) (omega arith)) h)
