use Rattle.std.proofs.Common.{◌≡◌, ◌+◌, arith, refl}
use Rattle.sw_selector.specs.Depth.{part_depth, list_depth}
use Rattle.sw_selector.proofs.Unrolled.{depth_pseudo}
use Rattle.sw_selector.proofs.room.+room.Goals as goal

pub behind_part-behind_list-requires : goal.behind_part-behind_list-requires
behind_part-behind_list-requires t c =
    let e : part_depth 0 c.args.part.now ≡ list_depth 0 c.in-Pseudo.selectors + 1 = rw c.in-Pseudo.is (depth_pseudo 0 _ _) in
    let k : list_depth 0 c.as_slice.result.now ≡ list_depth 0 c.in-Pseudo.selectors = rw (c.as_slice.ensures, c.get.ensures) refl in
    (omega (arith, e, k, c.decreases), tt)
