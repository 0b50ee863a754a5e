-- What the functions of `sass:list` give, a row for each.
use Rattle.std.specs.Prelude.{List}
use Rattle.sw_fn_call.specs.Answers.{Answer}
use Rattle.sw_fn_call.specs.Arguments.{Argument}
use Rattle.sw_fn_list.specs.declared.function.Function.{Function}
use Rattle.sw_fn_list.specs.declared.function.Function.TheVariants as F
use Rattle.sw_fn_list.specs.Places.{length, nth, set_nth, index}
use Rattle.sw_fn_list.specs.Separators.{is_bracketed, separator}
use Rattle.sw_fn_list.specs.Joining.{join, append, zip, slash}

unfoldable pub answer : Function → List Argument → Answer
answer F.Length args = length args
answer F.Nth args = nth args
answer F.SetNth args = set_nth args
answer F.Index args = index args
answer F.Zip args = zip args
answer F.Join args = join args
answer F.Append args = append args
answer F.IsBracketed args = is_bracketed args
answer F.Separator args = separator args
answer F.Slash args = slash args
