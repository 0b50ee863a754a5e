use Rattle.std.proofs.Common.{sym}
use Rattle.sw_parse_statement_heads.proofs.CallableChoices.{no_list, some_list}
use Rattle.sw_parse_statement_heads.proofs.param.listed_at.Goals as goal

pub returns-then-not-is_dollar : goal.returns-then-not-is_dollar
returns-then-not-is_dollar c =
    rw c.new.ensures (no_list c.args.source.now c.args.levels c.args.at (sym c.if-not-is_dollar.ensures.test))

pub returns : goal.returns
returns c =
    rw (some_list c.args.source.now c.args.levels c.args.at (sym c.if-not-is_dollar.ensures.test)) c.several_at.ensures
