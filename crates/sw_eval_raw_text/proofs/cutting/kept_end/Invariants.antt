use Rattle.std.proofs.Common.{◌≡◌, ◌-◌, length}
use Rattle.sw_eval_raw_text.specs.Cutting.{kept_in, kept_end}
use Rattle.sw_eval_raw_text.proofs.cutting.kept_end.Given as goal

abbrev pub invariant-steps : goal.invariant-steps
invariant-steps l = kept_in (length l.bytes - l._step) l.bytes l.at l.end ≡ kept_end l.bytes l.from
