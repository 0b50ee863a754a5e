use Rattle.std.proofs.Common.{refl}
use Rattle.sw_builtins.specs.Tables.{maps}
use Rattle.sw_builtins.proofs.names.map_rows.Goals as goal

pub returns-clause-rows : goal.returns-clause-rows
unfolding maps
returns-clause-rows c = refl

pub returns-clause-rising : goal.returns-clause-rising
returns-clause-rising c = refl
