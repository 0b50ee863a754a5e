use Rattle.std.proofs.Common.{◌≡◌, drop, map}
use Rattle.std.specs.Prelude.{◌&&◌}
use Rattle.std.specs.List.{list_all}
use Rattle.sw_convert_written.specs.Expressions.{link_shown, is_divide, is_number}
use Rattle.sw_convert_written.proofs.kinds.is_quotient.Given as goal

abbrev pub invariant-links : goal.invariant-links
invariant-links l =
    list_all (λ link. is_divide link.operator && is_number link.operand.sort) (map link_shown (drop l.link-index l.rest))
    ≡ list_all (λ link. is_divide link.operator && is_number link.operand.sort) (map link_shown l.rest)
