-- Values without parts weigh and nest 1.
use Rattle.std.proofs.Common.{◌≡◌, ℤ, sym, ap, ◌∙◌}
use Rattle.sw_units.specs.declared.units.Units.{Units}
use Rattle.sw_units.specs.declared.number.Slash.{out-Slash, out-roll-Slash}
use Rattle.sw_units.specs.declared.number.Slash.TheVariants as S
use Rattle.sw_units.specs.declared.number.Slash.TheOpen.{Slash-F}
use Rattle.sw_units.specs.Numbers.{plain}
use Rattle.sw_values.specs.Numbers.{number_nest, slash_nest, slash_by}
use Rattle.sw_values.specs.Sizes.{nest_number}
use Rattle.sw_values.specs.Weight.{nest}
use Rattle.sw_values.specs.declared.plain.Plain.TheVariants as P

plain_nest : (units : Units) (value : ℤ) → number_nest (plain units value) ≡ 1
unfolding slash_nest
plain_nest units value = ap (slash_by (slash_nest 1000)) (ap out-Slash (sym S.rolls-Plain) ∙ out-roll-Slash Slash-F.Plain)

pub nest_plain : (units : Units) (value : ℤ) → nest (P.Number (plain units value)) ≡ 1
nest_plain units value = nest_number (plain units value) ∙ plain_nest units value
