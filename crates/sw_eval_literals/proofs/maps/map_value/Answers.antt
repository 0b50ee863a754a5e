use Rattle.std.proofs.Common.{sym, ap, Ok}
use Rattle.sw_values.specs.declared.plain.Plain.TheVariants as P
use Rattle.sw_values.specs.Maps.{AreDistinct}
use Rattle.sw_values.specs.Shape.{IsTooLarge}
use Rattle.sw_eval_literals.specs.Maps.{map_value}
use Rattle.sw_eval_literals.proofs.Keys.{all_distinct, one_again}
use Rattle.sw_eval_literals.proofs.maps.map_value.Goals as goal

pub returns-in-Ok : goal.returns-in-Ok
unfolding map_value
returns-in-Ok c = rw (all_distinct c.args.pairs.now c.in-Ok.ensures.distinct, c.in-Ok.ensures.within) (ap Ok (sym c.in-Ok.ensures.ok))

pub returns-in-Err-TooLarge : goal.returns-in-Err-TooLarge
unfolding map_value
returns-in-Err-TooLarge c =
    let fault : AreDistinct c.args.pairs.now × IsTooLarge (P.Map c.args.pairs.now) = rw c.in-Err-TooLarge.field-0-is at c.in-Err-TooLarge.ensures.err in
    rw (all_distinct c.args.pairs.now fault.0, fault.1) c.fails-in-Err-TooLarge.ensures

pub returns-in-Err-DuplicateKey : goal.returns-in-Err-DuplicateKey
unfolding map_value
returns-in-Err-DuplicateKey c =
    let again = rw c.in-Err-DuplicateKey.field-0-is at c.in-Err-DuplicateKey.ensures.err in
    rw (one_again c.args.pairs.now c.in-Err-DuplicateKey.number again) (rw c.key_place.ensures at c.fails.ensures)
