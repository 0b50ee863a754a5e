use Rattle.std.proofs.Common.{◌≡◌, ◌++◌, map, reverse, length}
use Rattle.sw_parse_table.specs.Parts.{params_of, rest_of}
use Rattle.sw_parse_statement_heads.specs.CallableRows.{parameter_part, rest_else}
use Rattle.sw_parse_statement_heads.proofs.param.params_of.Given as goal

abbrev pub invariant-items : goal.invariant-items
invariant-items l = record {
  items : params_of (map parameter_part l.left) ++ reverse l.items ≡ params_of (map parameter_part l.fn.list);
  rest : rest_else l.rest l.left ≡ rest_of (map parameter_part l.fn.list);
}

abbrev pub decreases-items : goal.decreases-items
decreases-items l = length l.left
