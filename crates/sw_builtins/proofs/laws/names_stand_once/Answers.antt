use Rattle.std.proofs.Common.{refl}
use Rattle.sw_builtins.specs.Tables.{math, string, list, maps, color, meta, global}
use Rattle.sw_builtins.proofs.laws.names_stand_once.Goals as goal

pub returns-clause-math : goal.returns-clause-math
unfolding math
returns-clause-math c = refl

pub returns-clause-string : goal.returns-clause-string
unfolding string
returns-clause-string c = refl

pub returns-clause-list : goal.returns-clause-list
unfolding list
returns-clause-list c = refl

pub returns-clause-map : goal.returns-clause-map
unfolding maps
returns-clause-map c = refl

pub returns-clause-color : goal.returns-clause-color
unfolding color
returns-clause-color c = refl

pub returns-clause-meta : goal.returns-clause-meta
unfolding meta
returns-clause-meta c = refl

pub returns-clause-global : goal.returns-clause-global
unfolding global
returns-clause-global c = refl
