use Rattle.sw_values.proofs.Maps.{second_is_set}
use Rattle.sw_values.proofs.value.maps.put_value.Goals as goal

pub returns : goal.returns
returns c =
    rw (c.set.ensures, c.in_ok-key.ensures, c.in_ok-value.ensures)
    (second_is_set _ _ _ _ c.requires (rw c.as_slice.ensures at c.index-as_slice-place.is))
