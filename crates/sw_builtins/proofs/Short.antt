-- Texts that are short enough for a value, and those that aren't.
use Rattle.std.proofs.Common.{◌≡◌, ◌≤◌, ◌<◌, ℕ, true, false, List, length, Result, Ok, Err, refl, ap, subst, arith}
use Rattle.std.specs.Prelude.{nat_lt}
use Rattle.std.proofs.lemmas.Bool.Decides.{nat_tests}
use Rattle.sw_values.specs.declared.plain.Plain.{Plain}
use Rattle.sw_values.specs.declared.plain.Plain.TheVariants as P
use Rattle.sw_values.specs.Texts.{shown}
use Rattle.sw_values.specs.Inspected.{said}
use Rattle.sw_values.specs.Weight.{most}
use Rattle.sw_fn_call.specs.declared.fault.FnFault.{FnFault}
use Rattle.sw_fn_call.specs.declared.fault.FnFault.TheVariants as F
use Rattle.sw_fn_call.specs.Answers.{Answer, IsAnswer, within}
use Rattle.sw_builtins.specs.Written.{IsCssText, css_of}
use Rattle.sw_builtins.specs.Telling.{IsInspectedText, inspected}

is_less : (n m : ℕ) → n < m → nat_lt n m ≡ true
is_less n m lt = grind (arith, nat_tests)

not_less : (n m : ℕ) → m ≤ n → nat_lt n m ≡ false
not_less n m le = grind (arith, nat_tests)

pub css-answer : (result : Result (List ℕ) FnFault) (value : Plain) → IsCssText result (shown true value) → IsAnswer {T = List ℕ} result (css_of value)
css-answer (Ok text) value h =
    let lt : nat_lt (length (shown true value).text) most ≡ true =
    subst (λ t. nat_lt (length t) most ≡ true) h.0 (is_less (length text) most h.2) in
    rw (h.1, lt) (ap Ok h.0)
css-answer (Err F.TooLarge) value h = rw (h.0, not_less (length (shown true value).text) most h.1) refl
css-answer (Err F.NotCss) value h = rw h refl
css-answer (Err F.Memory) value h = tt
css-answer (Err F.ArgumentFault) value h = absurd h
css-answer (Err F.TypeFault) value h = absurd h
css-answer (Err F.UnitFault) value h = absurd h
css-answer (Err F.DivideByZero) value h = absurd h
css-answer (Err F.NumberRange) value h = absurd h
css-answer (Err F.Index) value h = absurd h

pub inspected-ok : (text : List ℕ) (value : Plain) (result : Answer) → IsInspectedText (Ok text) (said value).text
    → IsAnswer result (within (P.Text text false)) → IsAnswer result (inspected value)
inspected-ok text value result h made =
    let lt : nat_lt (length (said value).text) most ≡ true =
    subst (λ t. nat_lt (length t) most ≡ true) h.0 (is_less (length text) most h.1) in
    rw lt (subst (λ t. IsAnswer result (within (P.Text t false))) h.0 made)

pub inspected-err : (fault : FnFault) (value : Plain) → IsInspectedText (Err fault) (said value).text → IsAnswer {T = Plain} (Err fault) (inspected value)
inspected-err F.TooLarge value h = rw (not_less (length (said value).text) most h) refl
inspected-err F.Memory value h = tt
inspected-err F.NotCss value h = absurd h
inspected-err F.ArgumentFault value h = absurd h
inspected-err F.TypeFault value h = absurd h
inspected-err F.UnitFault value h = absurd h
inspected-err F.DivideByZero value h = absurd h
inspected-err F.NumberRange value h = absurd h
inspected-err F.Index value h = absurd h
