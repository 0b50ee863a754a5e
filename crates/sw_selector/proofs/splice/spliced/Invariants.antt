use Rattle.std.proofs.Common.{◌≡◌, drop, []}
use Rattle.sw_selector.specs.Nesting.{parts_spliced}
use Rattle.sw_selector.proofs.splice.spliced.Given as goal

abbrev pub invariant-parts : goal.invariant-parts
invariant-parts l = parts_spliced l.parent l.out (drop l.part-index l.complex) ≡ parts_spliced l.parent [] l.complex
