use Rattle.std.proofs.Common.{sym, ◌∙◌, arith}
use Rattle.sw_eval_expressions.proofs.Chosen.{name_found, name_passed, name_end}
use Rattle.sw_eval_expressions.proofs.choosing.by_name.Goals as goal

pub returns-then-is_named : goal.returns-then-is_named
returns-then-is_named c = sym (c.arguments.invariant ∙ name_found c.args.name.now c.args.arguments.now c.arguments.one-index c.one-item.result c.arguments-test.true c.one-item.is (sym c.is_named.ensures ∙ c.if-is_named.true))

pub arguments-preserved : goal.arguments-preserved
arguments-preserved c = c.arguments.invariant ∙ name_passed c.args.name.now c.args.arguments.now c.arguments.one-index c.one-item.result c.arguments-test.true c.one-item.is (sym c.is_named.ensures ∙ c.if-is_named.false)

pub returns : goal.returns
returns c = sym (c.arguments.invariant ∙ name_end c.args.name.now c.args.arguments.now c.arguments.one-index (omega arith))
