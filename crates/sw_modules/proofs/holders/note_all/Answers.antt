use Rattle.std.proofs.Common.{arith}
use Rattle.sw_modules.proofs.Noting.{all_from_places, before_none, before_next}
use Rattle.sw_modules.proofs.holders.note_all.Goals as goal

pub names-init : goal.names-init
names-init g c = record {
  more = λ q p h. h;
  done = before_none c.args.holders.now c.args.path.now c.args.names.now;
}

pub names-preserved : goal.names-preserved
names-preserved g c = record {
  more = λ q p h. c.note_at.ensures.more q p (c.names.invariant.more q p h);
  done =
      before_next c.names.holders c.note_at.new.holders c.args.path.now c.args.names.now c.names.place c.note_at.ensures.more
      c.in_ok-note_at.ensures.has c.names.invariant.done;
}

pub returns-clause-all : goal.returns-clause-all
returns-clause-all g c =
    all_from_places c.names.holders c.args.path.now c.args.names.now c.names.place
    (omega (arith, c.names-test.false, c.len-place-end.ensures.count)) c.names.invariant.done

pub returns-clause-more : goal.returns-clause-more
returns-clause-more g c = c.names.invariant.more

pub returns-in_err-note_at-clause-more : goal.returns-in_err-note_at-clause-more
returns-in_err-note_at-clause-more g c = λ q p h. c.note_at.ensures.more q p (c.names.invariant.more q p h)
