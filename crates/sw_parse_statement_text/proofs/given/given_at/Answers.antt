use Rattle.sw_parse_statement_text.proofs.Loads.{given_is}
use Rattle.sw_parse_statement_text.proofs.given.given_at.Goals as goal

pub returns : goal.returns
returns g c = rw (given_is c.args.source.now c.args.levels c.args.load c.args.at) c.named_at.ensures
