use Rattle.sw_convert_statements.proofs.Texts.{text_fronts_written}
use Rattle.sw_convert_statements.proofs.laws.text_fronts_are_written.Goals as goal

pub returns : goal.returns
returns c = text_fronts_written
