-- What the functions of `sass:math` give, a row for each.
use Rattle.std.specs.Prelude.{List}
use Rattle.sw_fn_call.specs.Answers.{Answer}
use Rattle.sw_fn_call.specs.Arguments.{Argument}
use Rattle.sw_fn_math.specs.declared.function.Function.{Function}
use Rattle.sw_fn_math.specs.declared.function.Function.TheVariants as F
use Rattle.sw_fn_math.specs.Rounding.{ceil, floor, round, abs}
use Rattle.sw_fn_math.specs.Extremes.{min, max, clamp}
use Rattle.sw_fn_math.specs.Quotients.{div, percentage, unit, is_unitless, compatible}

unfoldable pub answer : Function → List Argument → Answer
answer F.Ceil args = ceil args
answer F.Floor args = floor args
answer F.Round args = round args
answer F.Abs args = abs args
answer F.Min args = min args
answer F.Max args = max args
answer F.Clamp args = clamp args
answer F.Div args = div args
answer F.Percentage args = percentage args
answer F.Unit args = unit args
answer F.IsUnitless args = is_unitless args
answer F.Compatible args = compatible args
