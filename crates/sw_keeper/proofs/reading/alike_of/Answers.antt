use Rattle.std.proofs.Common.{◌≤◌, false, length, arith, ◌∙◌, ℕ}
use Rattle.std.proofs.lemmas.List.{length-set, length-replicate}
use Rattle.std.proofs.lemmas.Option.{slice_get_within}
use Rattle.sw_record.proofs.Narrowing.{none_first, marked_more, ahead_more, marked_all}
use Rattle.sw_keeper.specs.Steps.{IsAlikeAt}
use Rattle.sw_keeper.proofs.reading.alike_of.Goals as goal

pub loop-place-init : goal.loop-place-init
loop-place-init g c = record {
  long = length-replicate 8 false;
  done = λ place lt. absurd (omega (arith, lt));
  ahead = λ place le m. none_first 8 place m;
}

pub loop-place-preserved : goal.loop-place-preserved
loop-place-preserved g c = record {
  long = length-set c.loop-place.marks c.loop-place.place c.is_alike_at.result ∙ c.loop-place.invariant.long;
  done = marked_more (λ (place : ℕ). IsAlikeAt c.args.runs.now place c.args.opening.now.text c.args.opening.now.config) c.loop-place.marks c.loop-place.place c.is_alike_at.result
      (omega (arith, c.loop-place-test.true, c.loop-place.invariant.long)) c.is_alike_at.ensures c.loop-place.invariant.done;
  ahead = ahead_more c.loop-place.marks c.loop-place.place c.is_alike_at.result c.loop-place.invariant.ahead;
}

pub returns : goal.returns
returns g c =
    let few : length c.args.runs.now ≤ 8 = c.requires in
    marked_all (λ (place : ℕ). IsAlikeAt c.args.runs.now place c.args.opening.now.text c.args.opening.now.config) c.loop-place.marks c.loop-place.place
    c.loop-place.invariant.done c.loop-place.invariant.ahead (λ place h. omega (arith, c.loop-place-test.false, few, slice_get_within c.args.runs.now place h.0 h.1))
