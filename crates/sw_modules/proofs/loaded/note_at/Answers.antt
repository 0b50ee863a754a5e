use Rattle.std.proofs.Common.{slice_get}
use Rattle.sw_modules.proofs.Noting.{entry_own, entry_brought}
use Rattle.sw_modules.proofs.loaded.note_at.Goals as goal

pub returns-in_ok-note_own-in-Some-clause-own : goal.returns-in_ok-note_own-in-Some-clause-own
returns-in_ok-note_own-in-Some-clause-own c =
    entry_own c.note_own.new.holders c.note_brought.new.holders c.in-Some.path.now c.in-Some.held.now (slice_get c.args.entries.now.entries c.args.place) c.note_brought.result
    c.in-Some.ensures.entry c.in_ok-note_own-in-Some.ensures.all c.note_brought.ensures.more

pub returns-in_ok-note_own-in-Some-clause-brought : goal.returns-in_ok-note_own-in-Some-clause-brought
returns-in_ok-note_own-in-Some-clause-brought c =
    entry_brought c.note_brought.new.holders c.in-Some.path.now c.in-Some.held.now (slice_get c.args.entries.now.entries c.args.place) c.note_brought.result
    c.in-Some.ensures.entry c.note_brought.ensures.all

pub returns-in_ok-note_own-in-Some-clause-more : goal.returns-in_ok-note_own-in-Some-clause-more
returns-in_ok-note_own-in-Some-clause-more c = λ q p h. c.note_brought.ensures.more q p (c.note_own.ensures.more q p h)
