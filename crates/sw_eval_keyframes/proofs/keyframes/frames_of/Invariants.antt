use Rattle.std.proofs.Common.{◌≡◌, drop}
use Rattle.sw_eval_keyframes.specs.Keyframes.{frames_in, frames_of}
use Rattle.sw_eval_keyframes.proofs.keyframes.frames_of.Given as goal

abbrev pub invariant-pieces : goal.invariant-pieces
invariant-pieces l = frames_in l.frames (drop l.piece-index l.pieces) ≡ frames_of l.pieces
