use Rattle.sw_convert_statements.proofs.Told.{known_sheets_have_fronts}
use Rattle.sw_convert_statements.proofs.laws.known_sheets_have_fronts.Goals as goal

pub returns : goal.returns
returns c = known_sheets_have_fronts
