use Rattle.std.proofs.Common.{sym}
use Rattle.sw_scss_parse.proofs.Choices.{statement_plain, statement_worded}
use Rattle.sw_scss_parse.proofs.statement.statement_behind.Goals as goal

pub returns-then-is_plain : goal.returns-then-is_plain
returns-then-is_plain g c =
    rw (statement_plain c.args.source.now c.args.levels c.args.at (sym c.if-is_plain.ensures)) c.plain_behind.ensures

pub returns : goal.returns
returns g c =
    rw (statement_worded c.args.source.now c.args.levels c.args.at (sym c.if-is_plain.ensures)) c.worded_behind.ensures
