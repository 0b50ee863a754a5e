use Rattle.std.proofs.Common.{sym, ◌∙◌, ap, arith}
use Rattle.sw_scope.specs.Frames.{is_flow}
use Rattle.sw_scope.proofs.Jumps.{mark_is, lower_of, flows_stop, flows_below, flows_end}
use Rattle.sw_scope.proofs.find.flows.Goals as goal

pub returns-then-not-is_flow : goal.returns-then-not-is_flow
returns-then-not-is_flow c =
    let is = mark_is c.args.marks.now c.loop-number.number c.index-marks-number.result (omega arith) c.loop-number.invariant.within c.index-marks-number.is in
    flows_stop c.args.marks.now c.loop-number.number _ (omega arith) c.loop-number.invariant.within c.loop-number.invariant.rest (ap (λ m. is_flow m.kind) (sym is) ∙ sym c.is_flow.ensures ∙ c.if-not-is_flow.true)

pub loop-number-preserved : goal.loop-number-preserved
loop-number-preserved c =
    let is = mark_is c.args.marks.now c.loop-number.number c.index-marks-number.result (omega arith) c.loop-number.invariant.within c.index-marks-number.is in
    let below = flows_below c.args.marks.now c.loop-number.number _ (omega arith) c.loop-number.invariant.within c.loop-number.invariant.lower c.loop-number.invariant.rest (ap (λ m. is_flow m.kind) (sym is) ∙ sym c.is_flow.ensures ∙ c.if-not-is_flow.false) in
    rw is (record { within = below.within; lower = below.is_lower; rest = below.is_rest })

pub returns : goal.returns
returns c = flows_end c.args.marks.now c.loop-number.number _ (omega arith) c.loop-number.invariant.rest

pub loop-number-smaller : goal.loop-number-smaller
loop-number-smaller c =
    let is = mark_is c.args.marks.now c.loop-number.number c.index-marks-number.result (omega arith) c.loop-number.invariant.within c.index-marks-number.is in
    rw is (lower_of c.args.marks.now c.loop-number.number (omega arith) c.loop-number.invariant.within c.loop-number.invariant.lower)
