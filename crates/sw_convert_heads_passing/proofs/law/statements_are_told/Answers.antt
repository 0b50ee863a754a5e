use Rattle.sw_convert_heads_passing.proofs.Loud.{runs_are_seen}
use Rattle.sw_convert_heads_passing.proofs.Statements.{statements_are_told}
use Rattle.sw_convert_heads_passing.proofs.law.statements_are_told.Goals as goal

pub returns : goal.returns
returns c = record { told = statements_are_told; seen = runs_are_seen }
