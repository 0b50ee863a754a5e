use Rattle.sw_parse_lexemes.proofs.NameLaws.{statements_are_by_colon}
use Rattle.sw_parse_lexemes.proofs.law.statements_are_told_by_their_colon.Goals as goal

pub returns : goal.returns
returns c bytes tokens = statements_are_by_colon bytes tokens
