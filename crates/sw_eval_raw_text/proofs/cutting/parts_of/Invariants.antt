use Rattle.std.proofs.Common.{◌≡◌, ◌≤◌}
use Rattle.std.specs.Str.{IsCharBoundary}
use Rattle.sw_eval_raw_text.specs.Cutting.{parts_of}
use Rattle.sw_eval_raw_text.proofs.Cuts.{so_far}
use Rattle.sw_eval_raw_text.proofs.cutting.parts_of.Given as goal

abbrev pub invariant-bytes : goal.invariant-bytes
invariant-bytes l = record {
  done : so_far l.parts l.text l.from l.at l.here ≡ parts_of l.text;
  boundary : IsCharBoundary l.text l.from;
  behind : l.from ≤ l.at;
  shallow : l.here.depth ≤ l.at;
}
