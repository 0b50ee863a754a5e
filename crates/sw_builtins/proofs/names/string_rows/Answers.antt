use Rattle.std.proofs.Common.{refl}
use Rattle.sw_builtins.specs.Tables.{string}
use Rattle.sw_builtins.proofs.names.string_rows.Goals as goal

pub returns-clause-rows : goal.returns-clause-rows
unfolding string
returns-clause-rows c = refl

pub returns-clause-rising : goal.returns-clause-rising
returns-clause-rising c = refl
