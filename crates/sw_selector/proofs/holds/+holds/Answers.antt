use Rattle.std.proofs.Common.{◌≡◌, ◌+◌, arith, refl}
use Rattle.sw_selector.specs.Depth.{part_depth, list_depth}
use Rattle.sw_selector.proofs.Unrolled.{depth_pseudo}
use Rattle.sw_selector.proofs.holds.+holds.Goals as goal

pub part_has-some_holds-requires : goal.part_has-some_holds-requires
part_has-some_holds-requires t c =
    let e : part_depth 0 c.args.part.now ≡ list_depth 0 c.in-Pseudo.selectors + 1 = rw c.in-Pseudo.is (depth_pseudo 0 _ _) in
    let k : list_depth 0 c.as_slice.result.now ≡ list_depth 0 c.in-Pseudo.selectors = rw (c.as_slice.ensures, c.get.ensures) refl in
    (omega (arith, e, k, c.decreases), tt)
