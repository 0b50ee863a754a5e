use Rattle.sw_fn_map.proofs.Empty.{empty-shared}
use Rattle.sw_fn_map.proofs.pairs.no_pairs.Goals as goal

pub returns-in-Ok : goal.returns-in-Ok
returns-in-Ok c = empty-shared c.in-Ok.value c.shared.result c.in-Ok.ensures.ok c.shared.ensures
