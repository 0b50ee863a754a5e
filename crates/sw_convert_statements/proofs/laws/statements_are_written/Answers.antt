use Rattle.sw_convert_statements.proofs.Statements.{statements_written}
use Rattle.sw_convert_statements.proofs.laws.statements_are_written.Goals as goal

pub returns : goal.returns
returns c = statements_written
