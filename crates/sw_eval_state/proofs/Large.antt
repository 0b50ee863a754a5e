-- Selectors that no output holds.
use Rattle.std.proofs.Common.{◌≡◌, ℕ, ◌+◌, ◌≤◌, false, nat_le, length, Option, Some, None, MatchOption, refl, arith}
use Rattle.std.proofs.lemmas.Bool.Decides.{nat_tests}
use Rattle.sw_text.specs.declared.place.Span.{Span}
use Rattle.sw_text.specs.declared.fault.FaultCode.TheVariants as C
use Rattle.sw_selector.specs.Writing.{text_of}
use Rattle.sw_eval_questions.specs.Talk.{Fails, bind}
use Rattle.sw_eval_questions.specs.Asking.{fault}
use Rattle.sw_eval_state.specs.Output.{opened}
use Rattle.sw_eval_state.specs.Selecting.{Selectors}
use Rattle.sw_eval_state.specs.Rules.{rule_opening}
use Rattle.sw_eval_state.specs.declared.state.State.{State}

over : (bytes size : ℕ) → 16777217 ≤ size → nat_le (bytes + size) 16777216 ≡ false
over bytes size large = grind (arith, nat_tests)

pub too_large : (selectors : Selectors) (span : Span) (s : State) → 16777217 ≤ length (text_of selectors) → rule_opening selectors span s ≡ Fails (fault C.TooLarge span)
unfolding rule_opening opened bind
too_large selectors span s large = rw (over s.css.bytes (length (text_of selectors)) large) refl

pub none_of : {A : Type 0} (o : Option A) (P : Type 0) (Q : A → Type 0) → MatchOption o P Q → o ≡ None → P
none_of None P Q p is = p
none_of (Some v) P Q p is = absurd cc
