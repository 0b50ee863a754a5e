use Rattle.std.proofs.Common.{◌≡◌, [], drop}
use Rattle.sw_eval_keyframes.specs.Keyframes.{with_commas}
use Rattle.sw_eval_keyframes.proofs.keyframes.with_commas.Given as goal

abbrev pub invariant-frames : goal.invariant-frames
invariant-frames l = with_commas l.pieces (drop l.frame-index l.frames) ≡ with_commas [] l.frames
