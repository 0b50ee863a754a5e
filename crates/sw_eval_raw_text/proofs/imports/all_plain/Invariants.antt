use Rattle.std.proofs.Common.{◌≡◌, drop}
use Rattle.sw_eval_raw_text.specs.Imports.{all_plain}
use Rattle.sw_eval_raw_text.proofs.imports.all_plain.Given as goal

abbrev pub invariant-parts : goal.invariant-parts
invariant-parts l = all_plain l.parts ≡ all_plain (drop l.part-index l.parts)
