use Rattle.std.proofs.Common.{◌≡◌, length, refl, sym, ◌∙◌, ap, arith}
use Rattle.sw_record.proofs.Answering.{length-answers, answers_more, answer_at}
use Rattle.sw_record.proofs.Going.{not_true}
use Rattle.sw_record.proofs.same.same_answers.Goals as goal

pub returns-then-len : goal.returns-then-len
returns-then-len c = (
  λ t. absurd (not_true t),
  λ e. let same : length c.args.a.now ≡ length c.args.b.now = sym (length-answers c.args.a.now) ∙ ap length e ∙ length-answers c.args.b.now in absurd (omega (arith, same, c.if-len.true, c.len.ensures, c.len-2.ensures)),
)

pub returns-then-not-same : goal.returns-then-not-same
returns-then-not-same c = (
  λ t. absurd (not_true t),
  λ e. c.if-not-same.ensures.1 (answer_at c.args.a.now c.args.b.now c.loop-at.at c.pair.result.now c.pair-in-loop-at.result.now c.pair.ensures c.pair-in-loop-at.ensures e),
)

pub loop-at-preserved : goal.loop-at-preserved
loop-at-preserved c =
    answers_more c.args.a.now c.args.b.now c.loop-at.at c.pair.result.now c.pair-in-loop-at.result.now c.pair.ensures c.pair-in-loop-at.ensures (c.if-not-same.ensures.0 refl) c.loop-at.invariant
