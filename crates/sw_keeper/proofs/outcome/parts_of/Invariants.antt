use Rattle.std.proofs.Common.{◌≡◌, ◌++◌, drop, map}
use Rattle.sw_css_print.specs.Parts.{print_one}
use Rattle.sw_keeper.specs.Outputs.{outputs_of}
use Rattle.sw_keeper.proofs.outcome.parts_of.Given as goal

abbrev pub invariant-loop-kept : goal.invariant-loop-kept
invariant-loop-kept g l = l.parts.items ++ map print_one (outputs_of (drop l.kept-index l.runs)) ≡ map print_one (outputs_of l.runs)
