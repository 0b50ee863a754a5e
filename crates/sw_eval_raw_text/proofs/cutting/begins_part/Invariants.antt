use Rattle.std.proofs.Common.{◌≡◌, drop}
use Rattle.sw_eval_raw_text.specs.Cutting.{begins_part}
use Rattle.sw_eval_raw_text.proofs.cutting.begins_part.Given as goal

abbrev pub invariant-bytes : goal.invariant-bytes
invariant-bytes l = begins_part (drop l.place l.bytes) ≡ begins_part (drop l.from l.bytes)
