use Rattle.sw_values.proofs.Appending.{name_is, name_light, fault_said}
use Rattle.sw_values.proofs.value.Value.inspect.Goals as goal

pub returns-in-Ok : goal.returns-in-Ok
returns-in-Ok c =
    let named = c.named.ensures _ c.in-Ok.ensures in
    record { text = name_is _ _ named; light = name_light _ _ named; err = fault_said _ _ named }
