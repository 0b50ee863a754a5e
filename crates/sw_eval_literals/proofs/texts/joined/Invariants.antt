use Rattle.std.proofs.Common.{◌≡◌, ◌<◌, ◌++◌, drop, length}
use Rattle.std.specs.String.{string_bytes}
use Rattle.sw_values.specs.Weight.{most}
use Rattle.sw_eval_literals.specs.Texts.{all_pieces}
use Rattle.sw_eval_literals.proofs.texts.joined.Given as goal

abbrev pub invariant-pieces : goal.invariant-pieces
invariant-pieces l = record {
  left : string_bytes l.text ++ all_pieces (drop l.piece-index l.pieces) ≡ all_pieces l.pieces;
  small : length (string_bytes l.text) < most;
}
