use Rattle.std.proofs.Common.{sym}
use Rattle.sw_scss_parse.proofs.fault.lexeme_span.Goals as goal

pub span_from-requires-clause-from : goal.span_from-requires-clause-from
span_from-requires-clause-from c = (c.in-Some.ensures.stands c.in-Some.token.now (sym c.in-Some.ensures.value)).from

pub span_from-requires-clause-to : goal.span_from-requires-clause-to
span_from-requires-clause-to c = (c.in-Some.ensures.stands c.in-Some.token.now (sym c.in-Some.ensures.value)).to

pub returns-in-Some : goal.returns-in-Some
returns-in-Some c = rw (sym c.in-Some.ensures.value) c.span_from.ensures
