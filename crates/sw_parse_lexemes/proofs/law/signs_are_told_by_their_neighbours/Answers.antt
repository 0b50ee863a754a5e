use Rattle.sw_parse_lexemes.proofs.Laws.{signs_are_by_neighbours}
use Rattle.sw_parse_lexemes.proofs.law.signs_are_told_by_their_neighbours.Goals as goal

pub returns : goal.returns
returns c bytes tokens = signs_are_by_neighbours bytes tokens
