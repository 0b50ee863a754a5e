use Rattle.sw_convert_texts.proofs.AtInserts.{at_inserts_written}
use Rattle.sw_convert_texts.proofs.laws.at_inserts_are_written.Goals as goal

pub returns : goal.returns
returns c = at_inserts_written
