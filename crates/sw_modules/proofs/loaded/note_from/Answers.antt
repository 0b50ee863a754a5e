use Rattle.std.proofs.Common.{arith}
use Rattle.sw_modules.proofs.Noting.{first_more, first_next, first_all}
use Rattle.sw_modules.proofs.loaded.note_from.Goals as goal

pub places-init : goal.places-init
places-init c = record { more = λ q p h. h; first = c.requires }

pub places-preserved : goal.places-preserved
places-preserved c = record {
  more = λ q p h. c.note_at.ensures.more q p (c.places.invariant.more q p h);
  first =
      first_next c.note_at.new.holders c.args.entries.now.entries c.places.place (omega (arith, c.places-test.true, c.len-place-end.ensures))
      c.in_ok-note_at.ensures.own c.in_ok-note_at.ensures.brought
      (first_more c.places.holders c.note_at.new.holders c.args.entries.now.entries c.places.place c.note_at.ensures.more c.places.invariant.first);
}

pub returns-clause-ok : goal.returns-clause-ok
returns-clause-ok c =
    first_all c.places.holders c.args.entries.now.entries c.places.place (omega (arith, c.places-test.false, c.len-place-end.ensures)) c.places.invariant.first

pub returns-clause-more : goal.returns-clause-more
returns-clause-more c = c.places.invariant.more

pub returns-in_err-note_at-clause-more : goal.returns-in_err-note_at-clause-more
returns-in_err-note_at-clause-more c = λ q p h. c.note_at.ensures.more q p (c.places.invariant.more q p h)
