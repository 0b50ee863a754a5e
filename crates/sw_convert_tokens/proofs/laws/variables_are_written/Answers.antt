use Rattle.sw_convert_tokens.proofs.Variables.{variables_written}
use Rattle.sw_convert_tokens.proofs.laws.variables_are_written.Goals as goal

pub returns : goal.returns
returns c = variables_written
