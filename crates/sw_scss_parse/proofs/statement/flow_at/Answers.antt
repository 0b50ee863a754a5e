use Rattle.std.proofs.Common.{sym}
use Rattle.sw_scss_parse.proofs.Choices.{flow_statement_return, flow_statement_warn, flow_statement_debug, flow_statement_error, flow_statement_if, flow_statement_each, flow_statement_for, flow_statement_while}
use Rattle.sw_scss_parse.proofs.statement.flow_at.Goals as goal

pub returns-then-is_at : goal.returns-then-is_at
returns-then-is_at g c =
    rw (flow_statement_return c.args.source.now c.args.levels c.args.at (sym c.if-is_at.ensures.test))
    c.return_at.ensures

pub returns-then-is_at-2 : goal.returns-then-is_at-2
returns-then-is_at-2 g c =
    rw (flow_statement_warn c.args.source.now c.args.levels c.args.at (sym c.if-is_at.ensures.test) (sym c.if-is_at-2.ensures.test))
    c.warn_at.ensures

pub returns-then-is_at-3 : goal.returns-then-is_at-3
returns-then-is_at-3 g c =
    rw (flow_statement_debug c.args.source.now c.args.levels c.args.at (sym c.if-is_at.ensures.test) (sym c.if-is_at-2.ensures.test) (sym c.if-is_at-3.ensures.test))
    c.debug_at.ensures

pub returns-then-is_at-4 : goal.returns-then-is_at-4
returns-then-is_at-4 g c =
    rw (flow_statement_error c.args.source.now c.args.levels c.args.at (sym c.if-is_at.ensures.test) (sym c.if-is_at-2.ensures.test) (sym c.if-is_at-3.ensures.test) (sym c.if-is_at-4.ensures.test))
    c.error_at.ensures

pub returns-then-is_at-5 : goal.returns-then-is_at-5
returns-then-is_at-5 g c =
    rw (flow_statement_if c.args.source.now c.args.levels c.args.at (sym c.if-is_at.ensures.test) (sym c.if-is_at-2.ensures.test) (sym c.if-is_at-3.ensures.test) (sym c.if-is_at-4.ensures.test) (sym c.if-is_at-5.ensures.test))
    c.if_at.ensures

pub returns-then-is_at-6 : goal.returns-then-is_at-6
returns-then-is_at-6 g c =
    rw (flow_statement_each c.args.source.now c.args.levels c.args.at (sym c.if-is_at.ensures.test) (sym c.if-is_at-2.ensures.test) (sym c.if-is_at-3.ensures.test) (sym c.if-is_at-4.ensures.test) (sym c.if-is_at-5.ensures.test) (sym c.if-is_at-6.ensures.test))
    c.each_at.ensures

pub returns-then-is_at-7 : goal.returns-then-is_at-7
returns-then-is_at-7 g c =
    rw (flow_statement_for c.args.source.now c.args.levels c.args.at (sym c.if-is_at.ensures.test) (sym c.if-is_at-2.ensures.test) (sym c.if-is_at-3.ensures.test) (sym c.if-is_at-4.ensures.test) (sym c.if-is_at-5.ensures.test) (sym c.if-is_at-6.ensures.test) (sym c.if-is_at-7.ensures.test))
    c.for_at.ensures

pub returns-else-is_at-7 : goal.returns-else-is_at-7
returns-else-is_at-7 g c =
    rw (flow_statement_while c.args.source.now c.args.levels c.args.at (sym c.if-is_at.ensures.test) (sym c.if-is_at-2.ensures.test) (sym c.if-is_at-3.ensures.test) (sym c.if-is_at-4.ensures.test) (sym c.if-is_at-5.ensures.test) (sym c.if-is_at-6.ensures.test) (sym c.if-is_at-7.ensures.test))
    c.while_at.ensures
