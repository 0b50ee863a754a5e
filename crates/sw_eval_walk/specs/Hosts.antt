-- Functions of the host (that a host is asked is this project's own).
use Rattle.std.specs.Prelude.{ℕ, List, Option, None}
use Rattle.sw_text.specs.Names.{dashed}
use Rattle.sw_text.specs.declared.place.Span.{Span}
use Rattle.sw_tree.specs.declared.expr.Callee.{Callee}
use Rattle.sw_tree.specs.declared.expr.ExprKind.TheOpen.{Parts-F}
use Rattle.sw_tree.specs.declared.text.Parts.{out-Parts}
use Rattle.sw_values.specs.declared.plain.Plain.{Plain}
use Rattle.sw_world.specs.declared.answer.Answer.{Answer}
use Rattle.sw_world.specs.declared.answer.Answer.TheVariants.{Hosted}
use Rattle.sw_eval_questions.specs.Talk.{Calls, Gives, bind}
use Rattle.sw_eval_questions.specs.Asking.{asking}
use Rattle.sw_eval_state.specs.Eval.{Eval}
use Rattle.sw_eval_calls.specs.Layers.{Texts}

abbrev pub given_by : Answer → Option Plain
given_by (Hosted given) = given
given_by _ = None

-- what the host's function of a name gives, where there is one
unfoldable pub hosted : List ℕ → List Plain → Span → Eval (Option Plain)
hosted name vs span s = bind (asking (Calls (dashed name) vs) span s) (λ a. Gives (given_by a.0.1, a.1))

-- a name in which a value stands is no host's
abbrev pub hosted_by : Texts → List ℕ → List Plain → Span → Eval (Option Plain)
hosted_by (Parts-F.Plain text) name vs span s = hosted name vs span s
hosted_by (Parts-F.Mixed ps) name vs span s = Gives (None, s)

-- what the host's function of a call's name gives for these values, where there is one
unfoldable pub hosted_value : Callee → List ℕ → List Plain → Span → Eval (Option Plain)
hosted_value c name vs span s = hosted_by (out-Parts c.name.parts) name vs span s
