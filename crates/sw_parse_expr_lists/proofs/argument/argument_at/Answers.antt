use Rattle.std.proofs.Common.{sym}
use Rattle.sw_parse_expr_lists.proofs.Choices.{argument_named, argument_plain}
use Rattle.sw_parse_expr_lists.proofs.argument.argument_at.Goals as goal

pub returns-then-is_at : goal.returns-then-is_at
returns-then-is_at g c =
    rw (argument_named c.args.source.now c.args.levels c.args.at (sym c.if-is_at.ensures.test)) c.named_argument_at.ensures

pub returns-else-is_at : goal.returns-else-is_at
returns-else-is_at g c =
    rw (argument_plain c.args.source.now c.args.levels c.args.at (sym c.if-is_at.ensures.test)) c.plain_argument_at.ensures
