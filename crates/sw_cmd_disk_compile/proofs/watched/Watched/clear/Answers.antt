use Rattle.std.proofs.Common.{List, ℕ, sym, subst}
use Rattle.sw_cmd_disk_compile.specs.Watched.{Covers}
use Rattle.sw_cmd_disk_compile.proofs.Clearing.{covers_empty}
use Rattle.sw_cmd_disk_compile.proofs.watched.Watched.clear.Goals as goal

pub take_out_all-requires : goal.take_out_all-requires
take_out_all-requires g c = subst (λ (ps : List (List ℕ)). Covers ps c.self.inside.keeper.folder) (sym c.as_slice.ensures) c.self.invariant

pub invariant_of-self : goal.invariant_of-self
invariant_of-self g c = covers_empty c.truncate.new.self c.take_out_all.new.keeper.folder c.take_out_all.ensures.folder
