use Rattle.std.proofs.Common.{◌≡◌, ◌-◌, length}
use Rattle.sw_eval_raw_text.specs.Imports.{mark_in, next_mark}
use Rattle.sw_eval_raw_text.proofs.imports.next_mark.Given as goal

abbrev pub invariant-steps : goal.invariant-steps
invariant-steps l = mark_in (length l.bytes - l._step) l.bytes l.at ≡ next_mark l.bytes l.from
