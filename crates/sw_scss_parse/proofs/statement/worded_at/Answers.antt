use Rattle.std.proofs.Common.{sym}
use Rattle.sw_scss_parse.proofs.Choices.{worded_load, worded_member, worded_flow, worded_css}
use Rattle.sw_scss_parse.proofs.statement.worded_at.Goals as goal

pub returns-then-is_load : goal.returns-then-is_load
returns-then-is_load g c =
    rw (worded_load c.args.source.now c.args.levels c.args.at (sym c.if-is_load.ensures))
    c.load_at.ensures

pub returns-then-is_member : goal.returns-then-is_member
returns-then-is_member g c =
    rw (worded_member c.args.source.now c.args.levels c.args.at (sym c.if-is_load.ensures) (sym c.if-is_member.ensures))
    c.member_at.ensures

pub returns-then-is_flow : goal.returns-then-is_flow
returns-then-is_flow g c =
    rw (worded_flow c.args.source.now c.args.levels c.args.at (sym c.if-is_load.ensures) (sym c.if-is_member.ensures) (sym c.if-is_flow.ensures))
    c.flow_at.ensures

pub returns-else-is_flow : goal.returns-else-is_flow
returns-else-is_flow g c =
    rw (worded_css c.args.source.now c.args.levels c.args.at (sym c.if-is_load.ensures) (sym c.if-is_member.ensures) (sym c.if-is_flow.ensures))
    c.css_at.ensures
