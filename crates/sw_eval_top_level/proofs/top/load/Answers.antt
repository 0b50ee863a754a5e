use Rattle.std.proofs.Common.{◌≡◌, refl, ap, arith}
use Rattle.sw_world.specs.Laws.{most_asked}
use Rattle.sw_eval_configurations.specs.Loads.{seen, load_op}
use Rattle.sw_eval_questions.proofs.Heard.{heard}
use Rattle.sw_eval_questions.proofs.Steps.{did_memory, did_stop, did_then, did_plain}
use Rattle.sw_eval_top_level.specs.Loading.{question, loaded, load}
use Rattle.sw_eval_top_level.proofs.Walks.{top_err, load_stops, load_waits}
use Rattle.sw_eval_top_level.proofs.top.load.Goals as goal

pub returns-in_err-given-clause-did : goal.returns-in_err-given-clause-did
unfolding load
returns-in_err-given-clause-did g c =
    top_err g.W.World.gives (load (g.B.Below.values c.args.below) c.args.config.now (seen c.args.it)) c.args.walk.now.state _ _ _ _ _ _ _ (did_stop _ c.in_err-given.ensures.did) c.from_residual.ensures

pub returns-in_err-reserve-clause-did : goal.returns-in_err-reserve-clause-did
returns-in_err-reserve-clause-did g c =
    load_stops (g.B.Below.values c.args.below) c.args.config.now (seen c.args.it) c.in_ok-given.given c.args.walk.now.state _ _ _ _ _ _ _ _ _ _ _ c.in_ok-given.ensures.did (did_memory _ _ _ _) (ap (λ l. record { path = c.prepared.new.walk.asked.path; pairs = l; at = c.prepared.new.walk.asked.at }) c.in_err-reserve.ensures.items) c.from_residual-in_err-reserve.ensures

pub returns-in_err-load_op-clause-did : goal.returns-in_err-load_op-clause-did
returns-in_err-load_op-clause-did g c =
    load_stops (g.B.Below.values c.args.below) c.args.config.now (seen c.args.it) c.in_ok-given.given c.args.walk.now.state _ _ _ _ _ _ _ _ _ _ _ c.in_ok-given.ensures.did (did_memory _ _ _ _) (ap (λ l. record { path = c.prepared.new.walk.asked.path; pairs = l; at = c.prepared.new.walk.asked.at }) c.in_ok-reserve.ensures.items) c.from_residual-in_err-load_op.ensures

pub returns-in_err-answer-clause-did : goal.returns-in_err-answer-clause-did
unfolding loaded
returns-in_err-answer-clause-did g c =
    load_stops (g.B.Below.values c.args.below) c.args.config.now (seen c.args.it) c.in_ok-given.given c.args.walk.now.state _ _ _ _ _ _ _ _ _ _ _ c.in_ok-given.ensures.did (did_stop _ (rw c.span.ensures at (heard _ _ c.prepared.new.walk.asked c.known.new.asked c.prepared.new.walk.state (c.in_err-answer.ensures.did (question (seen c.args.it) c.in_ok-given.given) (load_op c.prepared.new.walk.asked.path (seen c.args.it) c.in_ok-given.given) refl)))) refl c.from_residual-in_err-answer.ensures

pub returns-in_err-end_load-clause-did : goal.returns-in_err-end_load-clause-did
unfolding loaded
returns-in_err-end_load-clause-did g c =
    load_stops (g.B.Below.values c.args.below) c.args.config.now (seen c.args.it) c.in_ok-given.given c.args.walk.now.state _ _ _ _ _ _ _ _ _ _ _ c.in_ok-given.ensures.did (did_then _ (rw c.span.ensures at (heard _ _ c.prepared.new.walk.asked c.known.new.asked c.prepared.new.walk.state (c.in_ok-answer.ensures.did (question (seen c.args.it) c.in_ok-given.given) (load_op c.prepared.new.walk.asked.path (seen c.args.it) c.in_ok-given.given) refl))) (did_plain _ _ _ _ _ c.in_err-end_load.ensures)) refl c.from_residual-in_err-end_load.ensures

pub returns-clause-did : goal.returns-clause-did
unfolding load loaded
returns-clause-did g c =
    did_then _ c.in_ok-given.ensures.did (did_then _ (rw c.span.ensures at (heard _ _ c.prepared.new.walk.asked c.known.new.asked c.prepared.new.walk.state (c.in_ok-answer.ensures.did (question (seen c.args.it) c.in_ok-given.given) (load_op c.prepared.new.walk.asked.path (seen c.args.it) c.in_ok-given.given) refl))) (did_plain _ _ _ _ _ c.in_ok-end_load.ensures))

pub returns-then-walk-len-clause-did : goal.returns-then-walk-len-clause-did
unfolding most_asked
returns-then-walk-len-clause-did g c =
    load_waits (g.B.Below.values c.args.below) c.args.config.now (seen c.args.it) c.in_ok-given.given c.args.walk.now.state _ _ _ _ _ _ _ c.in_ok-given.ensures.did c.in_ok-given.ensures.kept (ap (λ l. record { path = c.prepared.new.walk.asked.path; pairs = l; at = c.prepared.new.walk.asked.at }) c.in_ok-reserve.ensures.items) c.in_ok-load_op.ensures (omega arith) (omega arith)
