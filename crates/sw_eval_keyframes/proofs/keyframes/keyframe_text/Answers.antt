use Rattle.std.proofs.Common.{refl}
use Rattle.sw_eval_keyframes.specs.Keyframes.{keyframe_text}
use Rattle.sw_eval_keyframes.proofs.keyframes.keyframe_text.Goals as goal

pub returns-in-Some : goal.returns-in-Some
unfolding keyframe_text
returns-in-Some c =
    rw (← c.as_str.ensures, ← c.in_ok-pieces.ensures, ← c.as_slice.ensures, ← c.in_ok-frames.ensures, c.in-Some.is, ← c.as_slice-in-Some.ensures, ← c.in_ok-whole-in-Some.ensures, ← c.as_slice-in-Some-2.ensures, c.in_ok-whole_text-in-Some.ensures) refl

pub returns : goal.returns
unfolding keyframe_text
returns c =
    rw (← c.as_str.ensures, ← c.in_ok-pieces.ensures, ← c.as_slice.ensures, ← c.in_ok-frames.ensures, c.in-None.is) c.fails.ensures
