use Rattle.std.proofs.Common.{◌≡◌, ◌-◌, length}
use Rattle.sw_text_scan.specs.Runs.{next, run_end}
use Rattle.sw_text_scan.proofs.runs.run_end.Given as goal

abbrev pub invariant-run : goal.invariant-run
invariant-run l = record {
  end : run_end l.class l.bytes l.place ≡ run_end l.class l.bytes l.at;
  next : l.next ≡ next l.class l.bytes l.place;
}

abbrev pub decreases-run : goal.decreases-run
decreases-run l = length l.bytes - l.place
