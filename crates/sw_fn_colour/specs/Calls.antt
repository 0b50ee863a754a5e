-- What the functions of colours give, a row for each.
use Rattle.std.specs.Prelude.{List}
use Rattle.sw_fn_call.specs.Answers.{Answer}
use Rattle.sw_fn_call.specs.Arguments.{Argument}
use Rattle.sw_fn_colour.specs.declared.function.Function.{Function}
use Rattle.sw_fn_colour.specs.declared.function.Function.TheVariants as F
use Rattle.sw_fn_colour.specs.Parts.{red, green, blue, hue, saturation, lightness, alpha}
use Rattle.sw_fn_colour.specs.Changes.{adjust, scale, change, complement, grayscale}
use Rattle.sw_fn_colour.specs.Mixing.{mix, invert}
use Rattle.sw_fn_colour.specs.Making.{rgb, hsl}
use Rattle.sw_fn_colour.specs.Steps.{adjust_hue, lighten, darken, saturate, desaturate, opacify, transparentize}

unfoldable pub answer : Function → List Argument → Answer
answer F.Red args = red args
answer F.Green args = green args
answer F.Blue args = blue args
answer F.Hue args = hue args
answer F.Saturation args = saturation args
answer F.Lightness args = lightness args
answer F.Alpha args = alpha args
answer F.Mix args = mix args
answer F.Adjust args = adjust args
answer F.Scale args = scale args
answer F.Change args = change args
answer F.Complement args = complement args
answer F.Grayscale args = grayscale args
answer F.Invert args = invert args
answer F.Rgb args = rgb args
answer F.Hsl args = hsl args
answer F.AdjustHue args = adjust_hue args
answer F.Lighten args = lighten args
answer F.Darken args = darken args
answer F.Saturate args = saturate args
answer F.Desaturate args = desaturate args
answer F.Opacify args = opacify args
answer F.Transparentize args = transparentize args
