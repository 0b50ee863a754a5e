use Rattle.std.proofs.Common.{sym}
use Rattle.sw_parse_css.proofs.said.add_before.Goals as goal

pub bytes_from-requires-clause-to : goal.bytes_from-requires-clause-to
bytes_from-requires-clause-to c = (c.in-Some.ensures.stands c.in-Some.comment.now (sym c.in-Some.ensures.comment)).from

pub returns-in_ok-push_str-in-Some-clause-boundary : goal.returns-in_ok-push_str-in-Some-clause-boundary
returns-in_ok-push_str-in-Some-clause-boundary c =
    (c.in-Some.ensures.stands c.in-Some.comment.now (sym c.in-Some.ensures.comment)).to
