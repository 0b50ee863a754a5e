-- One level of an evaluation.
use Rattle.std.proofs.Common.{◌≡◌, ℕ, List, suc, ◌-◌, ◌<◌, ap, arith}
use Rattle.sw_text.specs.declared.place.Span.{Span}
use Rattle.sw_tree.specs.declared.callable.Param.{Param}
use Rattle.sw_tree.specs.declared.expr.Expr.{Expr}
use Rattle.sw_tree.specs.declared.statement.Statement.{Statement}
use Rattle.sw_eval_literals.specs.declared.quotients.Parens.{Parens}
use Rattle.sw_eval_state.specs.declared.entries.Entry.{Entry}
use Rattle.sw_eval_state.specs.declared.state.State.{State}
use Rattle.sw_eval_statements.specs.Includes.{run_body}
use Rattle.sw_eval_expressions.specs.Expressions.{value_one}
use Rattle.sw_eval_statements.specs.Statements.{does_placed}
use Rattle.sw_eval.specs.Means.{value_to, enter_to, does_to}

pub one_level : (depth : ℕ) (parens : Parens) (e : Expr) (s : State) → 0 < depth → value_to depth parens e s ≡ value_one (value_to (depth - 1)) (enter_to (depth - 1)) parens e s
unfolding value_to
one_level depth parens e s some = let k : depth ≡ suc (depth - 1) = omega arith in ap (λ n. value_to n parens e s) k

pub one_level_enter : (depth : ℕ) (at : Span) (e : Entry) (params : List Param) (xs : List Statement) (s : State) → 0 < depth
    → enter_to depth at e params xs s ≡ run_body (value_to (depth - 1)) (does_to (depth - 1)) at e params xs s
unfolding enter_to
one_level_enter depth at e params xs s some = let k : depth ≡ suc (depth - 1) = omega arith in ap (λ n. enter_to n at e params xs s) k

pub one_level_does : (depth : ℕ) (x : Statement) (s : State) → 0 < depth → does_to depth x s ≡ does_placed (value_to (depth - 1)) (does_to (depth - 1)) (enter_to (depth - 1)) x s
unfolding does_to
one_level_does depth x s some = let k : depth ≡ suc (depth - 1) = omega arith in ap (λ n. does_to n x s) k
