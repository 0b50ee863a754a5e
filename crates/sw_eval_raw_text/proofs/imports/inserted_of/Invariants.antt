use Rattle.std.proofs.Common.{◌≡◌, ◌++◌, drop}
use Rattle.sw_eval_raw_text.specs.Imports.{inserted_of}
use Rattle.sw_eval_raw_text.proofs.imports.inserted_of.Given as goal

abbrev pub invariant-all : goal.invariant-all
invariant-all l = l.values ++ inserted_of (drop l.place l.all) (drop l.place l.texts) ≡ inserted_of l.all l.texts
