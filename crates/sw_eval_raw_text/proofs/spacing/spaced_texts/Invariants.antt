use Rattle.std.proofs.Common.{◌≡◌, ◌++◌, drop}
use Rattle.sw_eval_raw_text.specs.Spacing.{start, spaced_texts}
use Rattle.sw_eval_raw_text.proofs.spacing.spaced_texts.Given as goal

abbrev pub invariant-all : goal.invariant-all
invariant-all l = l.done ++ spaced_texts l.reading (drop l.place l.all) (drop l.place l.texts) ≡ spaced_texts start l.all l.texts
