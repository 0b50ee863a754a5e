-- What the functions of `sass:map` give, a row for each.
use Rattle.std.specs.Prelude.{List}
use Rattle.sw_fn_call.specs.Answers.{Answer}
use Rattle.sw_fn_call.specs.Arguments.{Argument}
use Rattle.sw_fn_map.specs.declared.function.Function.{Function}
use Rattle.sw_fn_map.specs.declared.function.Function.TheVariants as F
use Rattle.sw_fn_map.specs.Lookups.{get, has_key, keys, values}
use Rattle.sw_fn_map.specs.Changes.{merge, set, remove}
use Rattle.sw_fn_map.specs.Deep.{deep_merge, deep_remove}

unfoldable pub answer : Function → List Argument → Answer
answer F.Get args = get args
answer F.HasKey args = has_key args
answer F.Keys args = keys args
answer F.Values args = values args
answer F.Merge args = merge args
answer F.Set args = set args
answer F.Remove args = remove args
answer F.DeepMerge args = deep_merge args
answer F.DeepRemove args = deep_remove args
