use Rattle.std.proofs.Common.{sym}
use Rattle.sw_parse_table.proofs.gap.token_to.Goals as goal

pub returns-in-Some-clause-boundary : goal.returns-in-Some-clause-boundary
returns-in-Some-clause-boundary c = (c.in-Some.ensures.stands c.in-Some.token.now (sym c.in-Some.ensures.value)).to
