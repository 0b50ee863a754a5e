use Rattle.std.proofs.Common.{arith}
use Rattle.sw_scope.proofs.Jumps.{none, mark_is, cut_of, indexed_of, below_of, rest_found, rest_below, rest_end}
use Rattle.sw_scope.proofs.find.seen.Goals as goal

pub place_in-requires-clause-start : goal.place_in-requires-clause-start
place_in-requires-clause-start c =
    let is = mark_is c.args.marks.now c.loop-number.number c.index-marks-number.result (omega arith) c.loop-number.invariant.within c.index-marks-number.is in
    let cut = cut_of c.args.marks.now c.loop-number.number c.loop-number.end (omega arith) c.loop-number.invariant.within c.loop-number.invariant.cut in rw is cut.0

pub place_in-requires-clause-indexed : goal.place_in-requires-clause-indexed
place_in-requires-clause-indexed c =
    let is = mark_is c.args.marks.now c.loop-number.number c.index-marks-number.result (omega arith) c.loop-number.invariant.within c.index-marks-number.is in
    let indexed = indexed_of c.args.marks.now c.loop-number.number c.loop-number.end c.args.vars.now (omega arith) c.loop-number.invariant.within c.loop-number.invariant.indexed in rw is indexed.0

pub returns-in-Some-clause-found : goal.returns-in-Some-clause-found
returns-in-Some-clause-found c =
    let is = mark_is c.args.marks.now c.loop-number.number c.index-marks-number.result (omega arith) c.loop-number.invariant.within c.index-marks-number.is in
    let cut = cut_of c.args.marks.now c.loop-number.number c.loop-number.end (omega arith) c.loop-number.invariant.within c.loop-number.invariant.cut in
    rw is (rest_found c.args.marks.now c.loop-number.number c.loop-number.end c.in-Some.at c.args.vars.now c.args.name.now _ (omega arith) c.loop-number.invariant.within cut.0 c.loop-number.invariant.rest (rw is at c.in-Some.ensures.place))

pub loop-number-preserved : goal.loop-number-preserved
loop-number-preserved c =
    let is = mark_is c.args.marks.now c.loop-number.number c.index-marks-number.result (omega arith) c.loop-number.invariant.within c.index-marks-number.is in
    let below = rest_below c.args.marks.now c.loop-number.number c.loop-number.end c.args.vars.now c.args.name.now _ (omega arith) c.loop-number.invariant.within c.loop-number.invariant.end c.loop-number.invariant.cut c.loop-number.invariant.indexed c.loop-number.invariant.rest (rw is at c.in_default.ensures.place) in
    rw (c.start_of-end.ensures none, is) (record { within = below.within; end = below.end_within; cut = below.is_cut; indexed = below.are_indexed; rest = below.is_rest })

pub returns-clause-found : goal.returns-clause-found
returns-clause-found c = rest_end c.args.marks.now c.loop-number.number c.loop-number.end c.args.vars.now c.args.name.now _ (omega arith) c.loop-number.invariant.rest

pub start_of-end-requires : goal.start_of-end-requires
start_of-end-requires c =
    let is = mark_is c.args.marks.now c.loop-number.number c.index-marks-number.result (omega arith) c.loop-number.invariant.within c.index-marks-number.is in
    let lt = below_of c.args.marks.now c.loop-number.number c.loop-number.end (omega arith) c.loop-number.invariant.within c.loop-number.invariant.cut in rw is (omega (arith, lt))

pub loop-number-smaller : goal.loop-number-smaller
loop-number-smaller c =
    let is = mark_is c.args.marks.now c.loop-number.number c.index-marks-number.result (omega arith) c.loop-number.invariant.within c.index-marks-number.is in
    rw is (below_of c.args.marks.now c.loop-number.number c.loop-number.end (omega arith) c.loop-number.invariant.within c.loop-number.invariant.cut)
