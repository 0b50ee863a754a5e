-- What an expression means (the Sass specification on expressions; places of faults and limits are this project's own).
use Rattle.std.specs.Prelude.{Bool, true, false, if◌then◌else◌, List, [], ◌∷◌, ◌++◌, Option}
use Rattle.sw_text.specs.declared.place.Span.{Span}
use Rattle.sw_tree.specs.declared.text.Parts.{Parts, out-Parts}
use Rattle.sw_tree.specs.declared.callable.Param.{Param}
use Rattle.sw_tree.specs.declared.expr.Expr.{Expr}
use Rattle.sw_tree.specs.declared.expr.ExprKind.{out-ExprKind}
use Rattle.sw_tree.specs.declared.expr.ExprKind.TheOpen.{ExprKind-F, Parts-F}
use Rattle.sw_tree.specs.declared.expr.Link.{Link}
use Rattle.sw_tree.specs.declared.expr.Pair.{Pair}
use Rattle.sw_tree.specs.declared.expr.Sign.{Sign}
use Rattle.sw_tree.specs.declared.statement.Statement.{Statement}
use Rattle.sw_values.specs.declared.plain.Plain.{Plain}
use Rattle.sw_eval_literals.specs.declared.chain.Left.{Left}
use Rattle.sw_eval_literals.specs.declared.quotients.Parens.{Parens}
use Rattle.sw_eval_literals.specs.declared.quotients.Parens.TheVariants as P
use Rattle.sw_eval_literals.specs.Literals.{number_value, string_value, word_value, hash_value, constant_value, important_value}
use Rattle.sw_eval_literals.specs.Quotients.{deeper, of_item}
use Rattle.sw_eval_literals.specs.Operations.{needs_right, first_left, taken, joined_to, prefixed}
use Rattle.sw_eval_literals.specs.Lists.{list_value}
use Rattle.sw_eval_literals.specs.Maps.{map_value}
use Rattle.sw_eval_calls.specs.Layers.{Kinds, Texts}
use Rattle.sw_eval_questions.specs.Talk.{Gives, bind}
use Rattle.sw_eval_questions.specs.Refusals.{answer}
use Rattle.sw_eval_state.specs.Selecting.{parent}
use Rattle.sw_eval_state.specs.Eval.{Eval}
use Rattle.sw_eval_state.specs.declared.entries.Entry.{Entry}
use Rattle.sw_eval_walk.specs.declared.texts.TextKind.TheVariants as K
use Rattle.sw_eval_expressions.specs.Calls.{call_value}
use Rattle.sw_eval_expressions.specs.Special.{special}
use Rattle.sw_eval_walk.specs.Texts.{mixed, plain_value, text}
use Rattle.sw_eval_walk.specs.Variables.{qualified, variable}

-- `value` is the level below
module _ (value : Parens → Expr → Eval Plain) where
  -- a quoted string or a url
  unfoldable pub string : Parens → Parts → Bool → Span → Eval Plain
  string parens parts quoted span s =
      bind (text value K.Expression parens parts span s) (λ t. answer (string_value t.0 quoted span) t.1)

  -- a word may be the name of a colour where no value stands in it
  abbrev pub word_by : Parens → Texts → Span → Eval Plain
  word_by parens (Parts-F.Plain name) span s = answer (word_value name span) s
  word_by parens (Parts-F.Mixed ps) span s =
      bind (mixed value K.Expression parens ps span s) (λ t. answer (string_value t.0 false span) t.1)

  unfoldable pub word : Parens → Parts → Span → Eval Plain
  word parens parts span s = word_by parens (out-Parts parts) span s

  -- an operand with the signs before it
  unfoldable pub signed : Parens → List Sign → Expr → Span → Eval Plain
  signed parens signs operand span s =
      bind (value (deeper parens) operand s) (λ v. answer (prefixed signs v.0 operand.span span) v.1)

  -- an operator and its right operand, which `and` and `or` may leave out
  unfoldable pub linked : Parens → Link → Left → Span → Eval Left
  linked parens link left span s =
      bind (answer (taken left link.operator link.operand) s)
      (λ l. if needs_right link.operator l.0.value
      then bind (value (deeper parens) link.operand l.1)
      (λ r. answer (joined_to l.0 link.operator r.0 link.operand span) r.1)
      else Gives (l.0, l.1))

  abbrev pub links : Parens → List Link → Left → Span → Eval Left
  links parens [] left span s = Gives (left, s)
  links parens (l ∷ ls) left span s = bind (linked parens l left span s) (λ r. links parens ls r.0 span r.1)

  -- operands from left to right
  unfoldable pub chain : Parens → Expr → List Link → Span → Eval Plain
  chain parens first rest span s =
      bind (value (deeper parens) first s)
      (λ v. bind (links parens rest (first_left v.0 first parens) span v.1) (λ l. Gives (l.0.value, l.1)))

  -- the values of these items behind those that are done
  abbrev pub items : Parens → List Expr → List Plain → Eval (List Plain)
  items parens [] done s = Gives (done, s)
  items parens (e ∷ es) done s = bind (value parens e s) (λ v. items parens es (done ++ v.0 ∷ []) v.1)

  -- each key before its value
  abbrev pub pairs : List Pair → List (Plain × Plain) → Eval (List (Plain × Plain))
  pairs [] done s = Gives (done, s)
  pairs (p ∷ ps) done s =
      bind (value P.Inside p.key s)
      (λ k. bind (value P.Inside p.value k.1) (λ v. pairs ps (done ++ (k.0, v.0) ∷ []) v.1))

  unfoldable pub map : List Pair → Span → Eval Plain
  map ps span s = bind (pairs ps [] s) (λ vs. answer (map_value vs.0 ps span) vs.1)

module _ (value : Parens → Expr → Eval Plain) (enter : Span → Entry → List Param → List Statement → Eval (Option Plain))
  where
    -- one level of an expression, at its place
    abbrev pub value_by : Parens → Kinds → Span → Eval Plain
    value_by parens (ExprKind-F.Number number) span s = answer (number_value number span) s
    value_by parens (ExprKind-F.Quoted parts) span s = string value parens parts true span s
    value_by parens (ExprKind-F.Word parts) span s = word value parens parts span s
    value_by parens (ExprKind-F.Hash name) span s = answer (hash_value name span) s
    value_by parens (ExprKind-F.Constant constant) span s = Gives (constant_value constant, s)
    value_by parens (ExprKind-F.Url parts) span s = string value parens parts false span s
    value_by parens (ExprKind-F.Special parts) span s = special value parens parts span s
    value_by parens (ExprKind-F.Variable name) span s = variable name span s
    value_by parens (ExprKind-F.Qualified q) span s = qualified q span s
    value_by parens (ExprKind-F.Call callee arguments) span s = call_value value enter parens callee arguments span s
    value_by parens ExprKind-F.Parent span s = parent span s
    value_by parens ExprKind-F.Important span s = Gives (important_value, s)
    value_by parens (ExprKind-F.Prefixed signs operand) span s = signed value parens signs operand span s
    value_by parens (ExprKind-F.Chain first rest) span s = chain value parens first rest span s
    value_by parens (ExprKind-F.List es separator around) span s =
        bind (items value (of_item parens separator around) es [] s)
        (λ vs. answer (list_value vs.0 separator around span) vs.1)
    value_by parens (ExprKind-F.Paren e) span s = plain_value value P.Inside e s
    value_by parens (ExprKind-F.Map ps) span s = map value ps span s

    unfoldable pub value_one : Parens → Expr → Eval Plain
    value_one parens e s = value_by parens (out-ExprKind e.kind) e.span s
