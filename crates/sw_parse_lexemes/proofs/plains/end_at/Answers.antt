use Rattle.sw_parse_lexemes.proofs.Listed.{end_boundary}
use Rattle.sw_parse_lexemes.proofs.plains.end_at.Goals as goal

pub returns-then-opens-clause-boundary : goal.returns-then-opens-clause-boundary
returns-then-opens-clause-boundary c =
    rw (c.end_by.ensures, c.get.ensures.value)
    (end_boundary c.args.tokens.now.sheet.bytes c.args.token.now _ c.requires.stands c.get.ensures.stands)
