use Rattle.sw_convert_statements.proofs.Told.{scss_read_back}
use Rattle.sw_convert_statements.proofs.laws.scss_is_read_back.Goals as goal

pub returns : goal.returns
returns c = scss_read_back
