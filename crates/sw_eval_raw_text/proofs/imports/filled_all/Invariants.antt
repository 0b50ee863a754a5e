use Rattle.std.proofs.Common.{◌≡◌, ◌++◌, drop}
use Rattle.sw_eval_raw_text.specs.Imports.{filled_from, filled_all}
use Rattle.sw_eval_raw_text.proofs.imports.filled_all.Given as goal

abbrev pub invariant-parts : goal.invariant-parts
invariant-parts l = l.done ++ filled_from l.values l.taken (drop l.part-index l.parts) ≡ filled_all l.parts l.values
