use Rattle.std.proofs.Common.{sym}
use Rattle.sw_parse_statement_heads.proofs.CallableChoices.{behind_colon, behind_other}
use Rattle.sw_parse_statement_heads.proofs.param.behind_name_at.Goals as goal

pub returns-then-is_at : goal.returns-then-is_at
returns-then-is_at c =
    rw (behind_colon c.args.source.now c.args.levels c.args.at (sym c.if-is_at.ensures.test)) c.default_at.ensures

pub returns-else-is_at : goal.returns-else-is_at
returns-else-is_at c =
    rw (behind_other c.args.source.now c.args.levels c.args.at (sym c.if-is_at.ensures.test)) c.dots_at.ensures
