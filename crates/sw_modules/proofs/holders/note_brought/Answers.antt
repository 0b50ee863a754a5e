use Rattle.sw_modules.proofs.Noting.{all_brought}
use Rattle.sw_modules.proofs.holders.note_brought.Goals as goal

pub returns-clause-all : goal.returns-clause-all
returns-clause-all c =
    all_brought c.note_rare.new.holders c.note_rare-2.new.holders c.note_rare-3.new.holders c.args.path.now c.args.held.now c.note_rare-3.result
    c.in_ok-note_rare.ensures.all c.note_rare-2.ensures.more c.in_ok-note_rare-2.ensures.all c.note_rare-3.ensures.more c.note_rare-3.ensures.all

pub returns-clause-more : goal.returns-clause-more
returns-clause-more c = λ q p h.
    c.note_rare-3.ensures.more q p (c.note_rare-2.ensures.more q p (c.note_rare.ensures.more q p h))
