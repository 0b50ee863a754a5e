use Rattle.std.proofs.Common.{rules}
use Rattle.sw_fn_text.proofs.Found.{pieces-step}
use Rattle.sw_fn_text.proofs.pieces.pieces.Goals as goal

pub cut-requires-text-text : goal.cut-requires-text-text
cut-requires-text-text c κs = c.cuts.invariant.utf8

pub with_last-requires-2-text-last : goal.with_last-requires-2-text-last
with_last-requires-2-text-last c κs = c.cuts.invariant.utf8

pub cuts-preserved : goal.cuts-preserved
cuts-preserved c = record {
  utf8 = c.in-Some.ensures.utf8;
  done = rw c.in_ok-push_text-in-Some.ensures (pieces-step _ _ _ _ _ _ _ _ c.cuts-test.true c.in-Some.ensures.parts c.cuts.invariant.done);
}
