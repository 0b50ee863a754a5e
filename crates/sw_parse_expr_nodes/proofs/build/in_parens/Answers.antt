use Rattle.std.proofs.Common.{rules}
use Rattle.sw_parse_table.specs.Values.{in_parens}
use Rattle.sw_parse_expr_nodes.proofs.build.in_parens.Goals as goal
use Rattle.sw_parse_expr_nodes.proofs.build.in_parens.Goals.{in_default-via-in-List+in-Parens-1, in_default-via-in-Number-1}

pub returns-in_default : goal.returns-in_default
unfolding in_parens
returns-in_default c = elim c.in_default-1.branch [
  | in_default-via-in-List+in-Parens-1 w ↦ search rules
  | in_default-via-in-Number-1 w ↦ search rules
]
