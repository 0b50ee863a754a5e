use Rattle.std.proofs.Common.{refl}
use Rattle.sw_builtins.specs.Tables.{math}
use Rattle.sw_builtins.proofs.names.math_rows.Goals as goal

pub returns-clause-rows : goal.returns-clause-rows
unfolding math
returns-clause-rows c = refl

pub returns-clause-rising : goal.returns-clause-rising
returns-clause-rising c = refl
