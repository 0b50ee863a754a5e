use Rattle.std.proofs.Common.{◌≡◌, map}
use Rattle.sw_values.specs.Canon.{key_canon}
use Rattle.sw_values.proofs.Tables.{key_value}
use Rattle.sw_values.proofs.value.Pairs.value_at_key.Goals as goal

pub returns : goal.returns
returns c =
    let keys : c.as_slice-keys.result.now ≡ map key_canon c.args.other.now =
    rw (c.as_slice-keys.ensures.keys, c.get.ensures, ← c.other.view_is) c.other.invariant in
    key_value _ _ _ c.as_slice-keys.result.now _ _ c.requires keys c.index-keys-place.is c.get-2.ensures
