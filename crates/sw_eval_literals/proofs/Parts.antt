-- What is made of lists from one end to the other.
use Rattle.std.proofs.Common.{◌≡◌, ◌<◌, ◌≤◌, ℕ, zero, suc, ◌+◌, ◌-◌, List, [], ◌∷◌, ◌++◌, take, drop, length, get_or, slice_get, append_assoc, take-suc, add-one, Ok, Err, refl, sym, ap, ◌∙◌, arith}
use Rattle.sw_text.specs.declared.fault.Fault.{Fault}
use Rattle.sw_text.specs.declared.place.Span.{Span}
use Rattle.sw_values.specs.declared.plain.Plain.{Plain}
use Rattle.sw_tree.specs.declared.expr.Sign.{Sign}
use Rattle.sw_tree.specs.declared.expr.Sign.TheVariants.{Not}
use Rattle.sw_ops.specs.Operators.{unary}
use Rattle.sw_eval_literals.specs.declared.refused.Refused.{Refused}
use Rattle.sw_eval_literals.specs.declared.refused.Refused.TheVariants as R
use Rattle.sw_eval_literals.specs.Answers.{Answer, Returns, with, of_op}
use Rattle.sw_eval_literals.specs.Quotients.{plain_at}
use Rattle.sw_eval_literals.specs.Operations.{sign_of, signed}
use Rattle.sw_eval_literals.specs.Elements.{all_plain, filled, or_null}

-- ---- values without the sides of quotients

-- these before what is answered
abbrev pub behind : List Plain → Answer (List Plain) → Answer (List Plain)
behind done answer = with answer (λ rest. Ok (done ++ rest))

joined_behind : (done : List Plain) (first : Plain) (answer : Answer (List Plain)) → behind done (with answer (λ rest. Ok (first ∷ rest))) ≡ behind (done ++ first ∷ []) answer
joined_behind done first (Ok rest) = ap Ok (sym (append_assoc done (first ∷ []) rest))
joined_behind done first (Err fault) = refl

pub one_more : (done values : List Plain) (value first : Plain) (at : Span) → plain_at value at ≡ Ok first → behind done (all_plain (value ∷ values) at) ≡ behind (done ++ first ∷ []) (all_plain values at)
one_more done values value first at e = rw e (joined_behind done first (all_plain values at))

pub one_refused : (done values : List Plain) (value : Plain) (fault : Fault) (at : Span) → plain_at value at ≡ Err fault → behind done (all_plain (value ∷ values) at) ≡ Err fault
one_refused done values value fault at e = rw e refl

-- ---- signs

with_itself : {A : Type 0} (answer : Answer A) → answer ≡ with answer (λ value. Ok value)
with_itself (Ok value) = refl
with_itself (Err fault) = refl

with_twice : {A B C : Type 0} (answer : Answer A) (f : A → Answer B) (g : B → Answer C) → with (with answer f) g ≡ with answer (λ value. with (f value) g)
with_twice (Ok value) f g = refl
with_twice (Err fault) f g = refl

-- the last sign comes first
pub last_sign : (signs : List Sign) (sign : Sign) (value : Plain) (at : Span) → signed (signs ++ sign ∷ []) value at ≡ with (of_op at (unary (sign_of sign) value)) (λ inner. signed signs inner at)
last_sign [] sign value at = with_itself (of_op at (unary (sign_of sign) value))
last_sign (first ∷ signs) sign value at =
    rw (last_sign signs sign value at) (with_twice (of_op at (unary (sign_of sign) value)) (λ inner. signed signs inner at) (λ inner. of_op at (unary (sign_of first) inner)))

-- the innermost of the first signs is taken off
pub sign_taken : (signs : List Sign) (left : ℕ) (value : Plain) (at : Span) → 0 < left → left ≤ length signs
    → signed (take left signs) value at ≡ with (of_op at (unary (sign_of (get_or signs (left - 1) Not)) value)) (λ inner. signed (take (left - 1) signs) inner at)
sign_taken signs left value at lt le =
    let one : left ≡ suc (left - 1) = omega (arith, lt) in
    let within : left - 1 < length signs = omega (arith, lt, le) in
    let cut : take left signs ≡ take (left - 1) signs ++ get_or signs (left - 1) Not ∷ [] = ap (λ n. take n signs) one ∙ take-suc signs (left - 1) Not within in
    rw cut (last_sign (take (left - 1) signs) (get_or signs (left - 1) Not) value at)

-- ---- refusals

pub stays_refused : {A B : Type 0} (refusal : Refused) (answer : Answer A) (next : A → Answer B) → Returns {A = A} (Err refusal) answer → Returns {A = B} (Err refusal) (with answer next)
stays_refused (R.Fault fault) answer next e = rw e refl
stays_refused R.Memory answer next e = tt

-- ---- values for several variables

next_of : (left at : ℕ) (values : List Plain) → filled (suc left) (drop at values) ≡ or_null (slice_get values at) ∷ filled left (drop (suc at) values)
next_of left zero [] = refl
next_of left zero (value ∷ values) = refl
next_of left (suc at) [] = refl
next_of left (suc at) (value ∷ values) = next_of left at values

pub next_part : (done : List Plain) (part : Plain) (count at : ℕ) (values : List Plain) → at < count → part ≡ or_null (slice_get values at)
    → done ++ filled (count - at) (drop at values) ≡ (done ++ part ∷ []) ++ filled (count - (at + 1)) (drop (at + 1) values)
next_part done part count at values lt e =
    let left : count - at ≡ suc (count - (at + 1)) = omega (arith, lt) in
    rw (left, next_of (count - (at + 1)) at values, ← e, add-one at, append_assoc done (part ∷ []) (filled (count - suc at) (drop (suc at) values))) refl
