use Rattle.std.proofs.Common.{◌≡◌, ◌++◌, drop}
use Rattle.std.specs.String.{string_bytes}
use Rattle.sw_eval_literals.specs.Texts.{all_pieces}
use Rattle.sw_eval_literals.proofs.texts.whole_text.Given as goal

abbrev pub invariant-pieces : goal.invariant-pieces
invariant-pieces l = string_bytes l.text ++ all_pieces (drop l.piece-index l.pieces) ≡ all_pieces l.pieces
