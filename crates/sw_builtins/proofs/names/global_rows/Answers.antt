use Rattle.std.proofs.Common.{refl}
use Rattle.sw_builtins.specs.Tables.{global}
use Rattle.sw_builtins.proofs.names.global_rows.Goals as goal

pub returns-clause-rows : goal.returns-clause-rows
unfolding global
returns-clause-rows c = refl

pub returns-clause-rising : goal.returns-clause-rising
returns-clause-rising c = refl
