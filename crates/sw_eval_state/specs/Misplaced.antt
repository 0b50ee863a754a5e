-- Statements in a wrong place (the Sass specification on functions and mixins).
use Rattle.std.specs.Prelude.{Bool, true, false, not, ◌||◌}
use Rattle.sw_tree.specs.declared.statement.Statement.{Statement, out-Statement}
use Rattle.sw_tree.specs.declared.statement.Statement.TheOpen.{Statement-F}
use Rattle.sw_eval_calls.specs.Layers.{Layer}
use Rattle.sw_eval_state.specs.declared.here.Inside.{Inside}
use Rattle.sw_eval_state.specs.declared.here.Inside.TheVariants as I

abbrev pub is_function : Inside → Bool
is_function I.Sheet = false
is_function I.Function = true
is_function I.Mixin = false

-- variables, flow, messages and comments
abbrev pub function_by : Layer → Bool
function_by (Statement-F.Variable x) = true
function_by (Statement-F.Assignment x) = true
function_by (Statement-F.Return x) = true
function_by (Statement-F.Say x) = true
function_by (Statement-F.If branches otherwise at) = true
function_by (Statement-F.Each x) = true
function_by (Statement-F.For x) = true
function_by (Statement-F.While x) = true
function_by (Statement-F.Comment x) = true
function_by _ = false

unfoldable pub stands_in_function : Statement → Bool
stands_in_function x = function_by (out-Statement x)

abbrev pub return_by : Layer → Bool
return_by (Statement-F.Return x) = true
return_by _ = false

unfoldable pub is_return : Statement → Bool
is_return x = return_by (out-Statement x)

abbrev pub content_by : Layer → Bool
content_by (Statement-F.Content x) = true
content_by _ = false

unfoldable pub is_content : Statement → Bool
is_content x = content_by (out-Statement x)

-- the statement may not stand in such a text
unfoldable pub misplaced : Inside → Statement → Bool
misplaced I.Sheet x = is_return x || is_content x
misplaced I.Function x = not (stands_in_function x)
misplaced I.Mixin x = is_return x
