use Rattle.sw_values.proofs.Rules.{rules}
use Rattle.sw_values.proofs.Tables.{maps_told}
use Rattle.sw_values.proofs.laws.rules_agree_with_words.Goals as goal

pub returns : goal.returns
returns c = record { rules = rules; maps = maps_told }
