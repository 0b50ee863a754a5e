-- Built-in functions that are no case of their own.
use Rattle.std.proofs.Common.{◌≡◌, List, refl}
use Rattle.sw_text.specs.declared.place.Span.{Span}
use Rattle.sw_tree.specs.declared.expr.Argument.{Argument}
use Rattle.sw_values.specs.declared.plain.Plain.{Plain}
use Rattle.sw_builtins.specs.declared.built_in.Asked.{Asked}
use Rattle.sw_builtins.specs.declared.built_in.BuiltIn.{BuiltIn}
use Rattle.sw_builtins.specs.declared.built_in.BuiltIn.TheVariants as B
use Rattle.sw_eval_questions.specs.Refusals.{answer}
use Rattle.sw_eval_built_in_calls.specs.BuiltIns.{built_in_call}
use Rattle.sw_eval_state.specs.declared.state.State.{State}
use Rattle.sw_eval_walk.specs.Existence.{built_in_called}

pub not_asked : (f : BuiltIn) (args : List Argument) (vs : List Plain) (span : Span) (s : State) → ((a : Asked) → f ≡ B.Asked a → ⊥)
    → answer (built_in_call f args vs span) s ≡ built_in_called f args vs span s
not_asked (B.Math g) args vs span s not = refl
not_asked (B.Text g) args vs span s not = refl
not_asked (B.List g) args vs span s not = refl
not_asked (B.Map g) args vs span s not = refl
not_asked (B.Colour g) args vs span s not = refl
not_asked (B.Css g) args vs span s not = refl
not_asked (B.Meta g) args vs span s not = refl
not_asked (B.Asked g) args vs span s not = absurd (not g refl)
not_asked B.If args vs span s not = refl
not_asked (B.Variable g) args vs span s not = refl
