-- What the functions of `sass:string` give, a row for each.
use Rattle.std.specs.Prelude.{List}
use Rattle.sw_fn_call.specs.Answers.{Answer}
use Rattle.sw_fn_call.specs.Arguments.{Argument}
use Rattle.sw_fn_text.specs.declared.function.Function.{Function}
use Rattle.sw_fn_text.specs.declared.function.Function.TheVariants as F
use Rattle.sw_fn_text.specs.Cases.{quote, unquote, to_upper_case, to_lower_case}
use Rattle.sw_fn_text.specs.Places.{length, index, insert, slice}
use Rattle.sw_fn_text.specs.Pieces.{split}

unfoldable pub answer : Function → List Argument → Answer
answer F.Quote args = quote args
answer F.Unquote args = unquote args
answer F.ToUpperCase args = to_upper_case args
answer F.ToLowerCase args = to_lower_case args
answer F.Length args = length args
answer F.Index args = index args
answer F.Insert args = insert args
answer F.Slice args = slice args
answer F.Split args = split args
