use Rattle.sw_parse_lexemes.proofs.Around.{text_is_by_what_is_around}
use Rattle.sw_parse_lexemes.proofs.law.text_is_told_by_what_is_around.Goals as goal

pub returns : goal.returns
returns c bytes tokens = text_is_by_what_is_around bytes tokens
