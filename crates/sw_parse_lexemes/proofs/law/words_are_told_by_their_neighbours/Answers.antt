use Rattle.sw_parse_lexemes.proofs.WordLaws.{words_are_by_neighbours}
use Rattle.sw_parse_lexemes.proofs.law.words_are_told_by_their_neighbours.Goals as goal

pub returns : goal.returns
returns c bytes tokens = words_are_by_neighbours bytes tokens
