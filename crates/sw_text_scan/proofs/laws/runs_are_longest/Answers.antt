use Rattle.std.proofs.Common.{sym}
use Rattle.sw_text_scan.proofs.Bounds.{run_step}
use Rattle.sw_text_scan.proofs.Progress.{run_stops}
use Rattle.sw_text_scan.proofs.laws.runs_are_longest.Goals as goal

pub returns : goal.returns
returns c = record { goes_on = λ k bs i lt. sym (run_step bs k i lt); ends = λ k bs i. run_stops bs k i }
