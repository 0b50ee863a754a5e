use Rattle.std.proofs.Common.{◌<◌, ℤ, arith, subst}
use Rattle.sw_fixed.specs.Arithmetic.{IsWithin}
use Rattle.sw_values.proofs.Ascii.{colour_ascii, written_ascii}
use Rattle.sw_values.proofs.value.plain_texts.push_computed.Goals as goal

pub push_ascii-requires : goal.push_ascii-requires
push_ascii-requires c =
    let red : c.args.colour.now.red < 256 = omega (arith, c.red-red.ensures, c.red-red.type_inv) in
    let green : c.args.colour.now.green < 256 = omega (arith, c.green-green.ensures, c.green-green.type_inv) in
    let blue : c.args.colour.now.blue < 256 = omega (arith, c.blue-blue.ensures, c.blue-blue.type_inv) in
    written_ascii _ _ _ _ c.as_slice.ensures.value c.in_ok-write_into.ensures.ok c.new-text.ensures.items
    (colour_ascii c.args.colour.now c.requires red green blue (subst (λ (z : ℤ). IsWithin z) c.alpha.ensures.value c.mantissa-alpha.ensures.within))
