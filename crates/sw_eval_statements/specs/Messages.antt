-- Messages (the Sass specification on `@warn`, `@debug` and `@error`; limits and places of faults are this project's
-- own).
use Rattle.std.specs.Prelude.{ℕ, List, Option, None}
use Rattle.sw_text.specs.declared.fault.FaultCode.TheVariants as C
use Rattle.sw_text.specs.declared.place.Span.{Span}
use Rattle.sw_tree.specs.declared.expr.Expr.{Expr}
use Rattle.sw_tree.specs.declared.statement.Level.{Level}
use Rattle.sw_tree.specs.declared.statement.Level.TheVariants as level
use Rattle.sw_tree.specs.declared.statement.Say.{Say}
use Rattle.sw_values.specs.declared.plain.Plain.{Plain}
use Rattle.sw_eval_literals.specs.declared.quotients.Parens.{Parens}
use Rattle.sw_eval_literals.specs.declared.quotients.Parens.TheVariants as P
use Rattle.sw_eval_literals.specs.Texts.{message}
use Rattle.sw_world.specs.declared.question.SayKind.{SayKind}
use Rattle.sw_world.specs.declared.question.SayKind.TheVariants as kind
use Rattle.sw_eval_questions.specs.Talk.{Says, Gives, Fails, bind}
use Rattle.sw_eval_questions.specs.Asking.{fault, asking}
use Rattle.sw_eval_questions.specs.Refusals.{answer}
use Rattle.sw_eval_state.specs.Output.{noted}
use Rattle.sw_eval_state.specs.Eval.{Eval}

abbrev pub kind_of : Level → SayKind
kind_of level.Warn = kind.Warn
kind_of level.Debug = kind.Debug
kind_of level.Error = kind.Fatal

-- an error ends the body, once it is said
abbrev pub said_by : Level → Span → Eval (Option Plain)
said_by level.Warn span s = Gives (None, s)
said_by level.Debug span s = Gives (None, s)
said_by level.Error span s = Fails (fault C.UserError span)

unfoldable pub said : Level → List ℕ → Span → Eval (Option Plain)
said how text span s =
    bind (noted text span s) (λ n. bind (asking (Says (kind_of how) span text) span n.1) (λ a. said_by how span a.1))

-- `value` is the level below
unfoldable pub saying : (Parens → Expr → Eval Plain) → Say → Eval (Option Plain)
saying value x s =
    bind (value P.Outside x.value s)
    (λ v. bind (answer (message v.0 x.value.span) v.1) (λ t. said x.level t.0 x.span t.1))
