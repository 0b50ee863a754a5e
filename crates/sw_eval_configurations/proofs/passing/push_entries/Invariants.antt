use Rattle.std.proofs.Common.{◌≡◌, ◌++◌, drop, map}
use Rattle.std.specs.Prelude.{filter}
use Rattle.std.specs.Option.{is_some}
use Rattle.sw_eval_configurations.specs.Loads.{prefix_of}
use Rattle.sw_eval_configurations.specs.Passing.{value_passed}
use Rattle.sw_eval_configurations.proofs.passing.push_entries.Given as goal

abbrev pub invariant-entries : goal.invariant-entries
invariant-entries l =
    l.names ++ map (λ e. prefix_of l.forward ++ e.name) (filter (λ e. is_some (value_passed l.passed e)) (drop l.entry-index l.entries))
    ≡ l.initial.names ++ map (λ e. prefix_of l.forward ++ e.name) (filter (λ e. is_some (value_passed l.passed e)) l.entries)
