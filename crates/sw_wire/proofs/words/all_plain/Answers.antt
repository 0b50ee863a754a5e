use Rattle.std.proofs.Common.{sym, ◌∙◌}
use Rattle.sw_wire.specs.Words.{is_plain}
use Rattle.sw_wire.proofs.Every.{all_passes, all_fails, all_ends}
use Rattle.sw_wire.proofs.words.all_plain.Goals as goal

pub returns-then-not-is_plain : goal.returns-then-not-is_plain
returns-then-not-is_plain c =
    sym (c.loop-byte.invariant ∙ all_fails is_plain c.args.bytes.now c.loop-byte.byte-index c.loop-byte-test.true (sym c.is_plain.ensures ∙ c.if-not-is_plain.true))

pub loop-byte-preserved : goal.loop-byte-preserved
loop-byte-preserved c =
    c.loop-byte.invariant ∙ all_passes is_plain c.args.bytes.now c.loop-byte.byte-index c.loop-byte-test.true (sym c.is_plain.ensures ∙ c.if-not-is_plain.false)

pub returns : goal.returns
returns c = sym (c.loop-byte.invariant ∙ all_ends is_plain c.args.bytes.now c.loop-byte.byte-index c.loop-byte-test.false)
