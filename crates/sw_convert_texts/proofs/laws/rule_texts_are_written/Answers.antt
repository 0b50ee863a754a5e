use Rattle.sw_convert_texts.proofs.RuleWritten.{rule_texts_written}
use Rattle.sw_convert_texts.proofs.laws.rule_texts_are_written.Goals as goal

pub returns : goal.returns
returns c = rule_texts_written
