use Rattle.sw_parse_lexemes.proofs.Turns.{seen_in_turn}
use Rattle.sw_parse_lexemes.proofs.law.tokens_are_seen_in_turn.Goals as goal

pub returns : goal.returns
returns c bytes tokens = seen_in_turn bytes tokens
