use Rattle.std.proofs.Common.{◌≡◌, ◌++◌, drop}
use Rattle.sw_eval_raw_text.specs.Imports.{templates}
use Rattle.sw_eval_raw_text.proofs.imports.templates.Given as goal

abbrev pub invariant-all : goal.invariant-all
invariant-all l = l.done ++ templates (drop l.one-index l.all) ≡ templates l.all
