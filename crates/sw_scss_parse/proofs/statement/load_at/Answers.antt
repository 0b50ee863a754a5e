use Rattle.std.proofs.Common.{sym}
use Rattle.sw_scss_parse.proofs.Choices.{load_statement_use, load_statement_forward}
use Rattle.sw_scss_parse.proofs.statement.load_at.Goals as goal

pub returns-then-is_at : goal.returns-then-is_at
returns-then-is_at c =
    rw (load_statement_use c.args.source.now c.args.levels c.args.at (sym c.if-is_at.ensures.test))
    c.read_use.ensures

pub returns-else-is_at : goal.returns-else-is_at
returns-else-is_at c =
    rw (load_statement_forward c.args.source.now c.args.levels c.args.at (sym c.if-is_at.ensures.test))
    c.forward_at.ensures
