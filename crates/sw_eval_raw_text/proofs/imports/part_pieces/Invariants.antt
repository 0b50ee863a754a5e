use Rattle.std.proofs.Common.{◌≡◌, ◌+◌, ◌-◌, ◌++◌, length}
use Rattle.sw_eval_raw_text.specs.Imports.{pieces_in, part_pieces}
use Rattle.sw_eval_raw_text.proofs.imports.part_pieces.Given as goal

abbrev pub invariant-marks : goal.invariant-marks
invariant-marks l = record {
  pieces : l.pieces ++ (pieces_in ((length l.part + 1) - l._mark) l.part l.values l.next l.from).0 ≡ (part_pieces l.part l.values l.taken).0;
  next : (pieces_in ((length l.part + 1) - l._mark) l.part l.values l.next l.from).1 ≡ (part_pieces l.part l.values l.taken).1;
}
