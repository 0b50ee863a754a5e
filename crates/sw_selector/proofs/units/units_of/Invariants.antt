use Rattle.std.proofs.Common.{◌≡◌, drop, []}
use Rattle.std.specs.String.{string_bytes}
use Rattle.sw_selector.specs.Writing.{units_from}
use Rattle.sw_selector.proofs.units.units_of.Given as goal

abbrev pub invariant-parts : goal.invariant-parts
invariant-parts l = units_from l.list (string_bytes l.compound) (drop l.part-index l.complex) ≡ units_from [] [] l.complex
