use Rattle.std.proofs.Common.{◌≡◌, false}
use Rattle.sw_selector.specs.Nesting.{too_deep}
use Rattle.sw_selector.proofs.Deep.{nested_within}
use Rattle.sw_selector.proofs.nesting.nested_under.Goals as goal

pub new-requires : goal.new-requires
new-requires c =
    let flat : too_deep c.args.parents.now c.args.child.now ≡ false = cc in
    rw c.in_ok-list.ensures (nested_within c.args.at_root c.args.parents.now c.args.child.now c.requires flat)
