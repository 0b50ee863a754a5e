use Rattle.std.proofs.Common.{sym}
use Rattle.sw_parse_statement_text.proofs.Loads.{no_with, some_with}
use Rattle.sw_parse_statement_text.proofs.given.with_at.Goals as goal

pub returns-then-not-is_at : goal.returns-then-not-is_at
returns-then-not-is_at g c =
    rw c.new.ensures (no_with c.args.source.now c.args.levels c.args.load c.args.at (sym c.if-not-is_at.ensures.test))

pub returns : goal.returns
returns g c =
    rw (some_with c.args.source.now c.args.levels c.args.load c.args.at (sym c.if-not-is_at.ensures.test)) c.worded_at.ensures
