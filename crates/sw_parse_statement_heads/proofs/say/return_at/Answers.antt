use Rattle.sw_parse_statement_heads.proofs.Parts.{return_is}
use Rattle.sw_parse_statement_heads.proofs.say.return_at.Goals as goal

pub returns : goal.returns
returns c = rw (return_is c.args.source.now c.args.levels c.args.at) c.return_row_at.ensures
