use Rattle.std.proofs.Common.{◌≡◌, ◌-◌, ◌++◌, string_bytes}
use Rattle.sw_parse_table.specs.Lined.{lines_from}
use Rattle.sw_parse_expr_nodes.proofs.lined.add_lines.Given as goal

abbrev pub invariant-places : goal.invariant-places
invariant-places l =
    string_bytes l.text ++ lines_from l.source l.at l.place (l.to - l.place)
    ≡ string_bytes l.fn.text ++ lines_from l.source l.at l.from (l.to - l.from)
