use Rattle.sw_eval_configurations.specs.Loads.{seen}
use Rattle.sw_eval_questions.proofs.Heard.{fails_ok}
use Rattle.sw_eval_questions.proofs.Steps.{did_value, did_plain, did_err, did_then, no_memory}
use Rattle.sw_eval_top_level.proofs.Prepared.{prepared_known, prepared_late, prepared_now}
use Rattle.sw_eval_top_level.proofs.loads.prepared.Goals as goal

pub returns-in_err-share-clause-did : goal.returns-in_err-share-clause-did
returns-in_err-share-clause-did g c = no_memory _ c.args.walk.now.state _ _ _ c.from_residual.ensures

pub returns-in-Some-clause-did : goal.returns-in-Some-clause-did
returns-in-Some-clause-did g c =
    rw (prepared_known (g.B.Below.values c.args.below) c.args.config.now (seen c.args.load) c.in-Some.given c.args.walk.now.state c.in-Some.is, c.in_ok-share.ensures) (did_value _ c.args.walk.now.state _ _)

pub returns-then-walk-clause-did : goal.returns-then-walk-clause-did
returns-then-walk-clause-did g c =
    rw (prepared_late (g.B.Below.values c.args.below) c.args.config.now (seen c.args.load) c.args.walk.now.state c.in_default.is c.if-walk.true) (did_plain _ c.args.walk.now.state _ _ _ (rw c.span.ensures at (c.fails.ensures c.args.walk.now.state)))

pub returns-then-walk-clause-kept : goal.returns-then-walk-clause-kept
returns-then-walk-clause-kept g c = fails_ok c.fails.result _ c.args.walk.now.state _ (c.fails.ensures c.args.walk.now.state)

pub returns-in_err-given-clause-did : goal.returns-in_err-given-clause-did
returns-in_err-given-clause-did g c =
    rw (prepared_now (g.B.Below.values c.args.below) c.args.config.now (seen c.args.load) c.args.walk.now.state c.in_default.is c.if-walk.false) (did_err _ c.in_err-given.ensures c.from_residual-in_err-given.ensures)

pub returns-in_err-given-2-clause-did : goal.returns-in_err-given-2-clause-did
returns-in_err-given-2-clause-did g c =
    rw (prepared_now (g.B.Below.values c.args.below) c.args.config.now (seen c.args.load) c.args.walk.now.state c.in_default.is c.if-walk.false) (did_then _ c.in_ok-given.ensures (no_memory _ _ _ _ _ c.from_residual-in_err-given-2.ensures))

pub returns-in_err-share-2-clause-did : goal.returns-in_err-share-2-clause-did
returns-in_err-share-2-clause-did g c =
    rw (prepared_now (g.B.Below.values c.args.below) c.args.config.now (seen c.args.load) c.args.walk.now.state c.in_default.is c.if-walk.false) (did_then _ c.in_ok-given.ensures (no_memory _ _ _ _ _ c.from_residual-in_err-share-2.ensures))

pub returns-clause-did : goal.returns-clause-did
returns-clause-did g c =
    rw (prepared_now (g.B.Below.values c.args.below) c.args.config.now (seen c.args.load) c.args.walk.now.state c.in_default.is c.if-walk.false) (did_then _ c.in_ok-given.ensures (rw (c.in_ok-share-2.ensures, c.in_ok-given-2.ensures) (did_value _ _ _ _)))
