use Rattle.std.proofs.Common.{false, arith, ◌∙◌}
use Rattle.std.proofs.lemmas.List.{length-set, length-replicate}
use Rattle.sw_record.specs.Together.{IsMarked, HasAnswerAt}
use Rattle.sw_record.proofs.Narrowing.{none_first, marked_more, ahead_more, marked_all, marked_within}
use Rattle.sw_record.proofs.marks.narrow.Goals as goal

pub loop-place-init : goal.loop-place-init
loop-place-init g c = record {
  long = length-replicate 8 false;
  done = λ place lt. absurd (omega (arith, lt));
  ahead = λ place le m. none_first 8 place m;
}

pub loop-place-preserved : goal.loop-place-preserved
loop-place-preserved g c = record {
  long = length-set c.loop-place.left c.loop-place.place c.is_left.result ∙ c.loop-place.invariant.long;
  done = marked_more (λ place. IsMarked c.args.alive place × HasAnswerAt c.args.runs.now place c.args.at c.args.answer.now) c.loop-place.left c.loop-place.place c.is_left.result
      (omega (arith, c.loop-place-test.true, c.loop-place.invariant.long)) c.is_left.ensures c.loop-place.invariant.done;
  ahead = ahead_more c.loop-place.left c.loop-place.place c.is_left.result c.loop-place.invariant.ahead;
}

pub returns : goal.returns
returns g c =
    marked_all (λ place. IsMarked c.args.alive place × HasAnswerAt c.args.runs.now place c.args.at c.args.answer.now) c.loop-place.left c.loop-place.place
    c.loop-place.invariant.done c.loop-place.invariant.ahead (λ place h. omega (arith, c.loop-place-test.false, marked_within c.args.alive place h.0))
