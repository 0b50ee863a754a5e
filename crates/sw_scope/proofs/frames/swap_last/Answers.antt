use Rattle.std.proofs.Common.{◌∙◌, ap, refl, arith}
use Rattle.sw_scope.proofs.Jumps.{none}
use Rattle.sw_scope.proofs.Indexes.{replaced, rebuilt, first_index}
use Rattle.sw_scope.proofs.frames.swap_last.Goals as goal

pub returns-clause-new : goal.returns-clause-new
returns-clause-new c =
    replaced c.args.marks.now.items _ _ c.args.index c.replace-before.new.dest none (omega (arith, c.len-count.ensures)) (omega (arith, c.len-count.ensures))
    (rebuilt c.args.marks.now.items _ c.index.result.now c.index-2.result.now c.index-3.result.now c.replace-before.new.dest none c.args.index (omega (arith, c.len-count.ensures)) c.index.ensures c.index-2.ensures c.index-3.ensures c.replace-before.ensures.after) refl

pub returns-clause-old : goal.returns-clause-old
returns-clause-old c =
    ap (λ m. m.index) (c.replace-before.ensures.value ∙ c.index_mut.ensures.value) ∙ first_index c.args.marks.now.items _ c.index_mut.result.now (omega (arith, c.len-count.ensures)) (omega (arith, c.len-count.ensures))
