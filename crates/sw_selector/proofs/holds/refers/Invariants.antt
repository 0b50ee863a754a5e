use Rattle.std.proofs.Common.{◌≡◌, ◌||◌, drop}
use Rattle.std.specs.List.{list_any}
use Rattle.sw_selector.specs.Holds.{is_reference}
use Rattle.sw_selector.proofs.holds.refers.Given as goal

abbrev pub invariant-parts : goal.invariant-parts
invariant-parts l = (l.found || list_any is_reference (drop l.part-index l.complex)) ≡ list_any is_reference l.complex
