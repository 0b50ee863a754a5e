use Rattle.std.proofs.Common.{◌≡◌, ◌+◌, ◌-◌, ◌++◌, length}
use Rattle.sw_eval_keyframes.specs.Keyframes.{pieces_in, pieces_of}
use Rattle.sw_eval_keyframes.proofs.keyframes.pieces_of.Given as goal

abbrev pub invariant-pieces : goal.invariant-pieces
invariant-pieces l = l.pieces ++ pieces_in ((length l.text + 1) - l._piece) l.text l.from ≡ pieces_of l.text
