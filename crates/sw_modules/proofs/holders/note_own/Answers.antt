use Rattle.std.proofs.Common.{subst}
use Rattle.sw_modules.specs.Noted.{HoldsAll}
use Rattle.sw_modules.proofs.Noting.{all_own}
use Rattle.sw_modules.proofs.holders.note_own.Goals as goal

pub returns-clause-all : goal.returns-clause-all
returns-clause-all c =
    all_own c.note_all.new.holders c.note_rare.new.holders c.note_rare-2.new.holders c.args.path.now c.args.held.now c.note_rare-2.result
    (subst (λ t. HoldsAll c.note_all.new.holders c.args.path.now t) c.table.ensures c.in_ok-note_all.ensures.all)
    c.note_rare.ensures.more c.in_ok-note_rare.ensures.all c.note_rare-2.ensures.more c.note_rare-2.ensures.all

pub returns-clause-more : goal.returns-clause-more
returns-clause-more c = λ q p h.
    c.note_rare-2.ensures.more q p (c.note_rare.ensures.more q p (c.note_all.ensures.more q p h))
