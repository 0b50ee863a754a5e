use Rattle.std.proofs.Common.{◌≡◌, drop}
use Rattle.sw_eval_raw_text.specs.Spacing.{behind}
use Rattle.sw_eval_raw_text.proofs.spacing.behind.Given as goal

abbrev pub invariant-bytes : goal.invariant-bytes
invariant-bytes l = behind l.now (drop l.byte-index l.text) ≡ behind l.fn.reading l.text
