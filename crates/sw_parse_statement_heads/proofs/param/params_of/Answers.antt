use Rattle.std.proofs.Common.{List, ◌++◌, map, reverse, ◌∙◌, ap, append-nil}
use Rattle.sw_tree.specs.declared.callable.Param.{Param}
use Rattle.sw_parse_table.specs.Parts.{params_of}
use Rattle.sw_parse_statement_heads.specs.CallableRows.{parameter_part}
use Rattle.sw_parse_statement_heads.proofs.Taken.{items_step, rest_step, rest_is}
use Rattle.sw_parse_statement_heads.proofs.param.params_of.Goals as goal

pub items-init : goal.items-init
items-init c =
    let all = params_of (map parameter_part c.args.list) in
    record {
      items = ap (λ (xs : List Param). all ++ reverse xs) c.new-items.ensures ∙ append-nil all;
      rest = rest_is c.args.list;
    }

pub items-preserved : goal.items-preserved
items-preserved c =
    record {
      items = items_step _ _ _ c.in-Some.ensures _ _ _ c.in_ok-take.ensures.items c.items.invariant.items;
      rest = rest_step _ _ _ c.in-Some.ensures _ _ _ c.in_ok-take.ensures.rest c.items.invariant.rest;
    }
