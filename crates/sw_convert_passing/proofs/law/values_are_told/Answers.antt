use Rattle.sw_convert_passing.proofs.Told.{values_are_told, rows_are_told}
use Rattle.sw_convert_passing.proofs.Flags.{flags_are_told}
use Rattle.sw_convert_passing.proofs.law.values_are_told.Goals as goal

pub returns-clause-values : goal.returns-clause-values
returns-clause-values c = values_are_told

pub returns-clause-rows : goal.returns-clause-rows
returns-clause-rows c = rows_are_told

pub returns-clause-flags : goal.returns-clause-flags
returns-clause-flags c = flags_are_told
