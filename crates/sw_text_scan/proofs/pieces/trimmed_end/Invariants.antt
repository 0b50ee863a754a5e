use Rattle.std.proofs.Common.{◌≡◌, ◌-◌, ◌≤◌}
use Rattle.sw_text_scan.specs.Pieces.{trimmed_from, trimmed_end}
use Rattle.sw_text_scan.proofs.pieces.trimmed_end.Given as goal

abbrev pub invariant-trim : goal.invariant-trim
invariant-trim l = record {
  end : trimmed_from l.bytes l.from (l.end - l.from) ≡ trimmed_end l.bytes l.from l.to;
  within : l.from ≤ l.end;
}

abbrev pub decreases-trim : goal.decreases-trim
decreases-trim l = l.end - l.from
