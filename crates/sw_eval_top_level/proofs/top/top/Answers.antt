use Rattle.std.proofs.Common.{sym}
use Rattle.sw_eval_configurations.specs.Loads.{seen}
use Rattle.sw_eval_top_level.proofs.Walks.{top_load, top_goes, top_errs}
use Rattle.sw_eval_top_level.proofs.top.top.Goals as goal

pub returns-in-Some-clause-did : goal.returns-in-Some-clause-did
returns-in-Some-clause-did g c =
    top_load (g.B.Below.values c.args.below) (g.B.Below.statements c.args.below) c.args.config.now g.W.World.gives c.args.number c.args.statement.now (seen c.in-Some.it) c.args.walk.now.state _ _ _ _ _ _ (sym c.in-Some.ensures) c.load.ensures.did

pub returns-in_err-other-clause-did : goal.returns-in_err-other-clause-did
returns-in_err-other-clause-did g c =
    top_errs (g.B.Below.values c.args.below) (g.B.Below.statements c.args.below) c.args.config.now g.W.World.gives c.args.number c.args.statement.now c.args.walk.now.state _ _ _ _ _ _ _ _ (sym c.in_default.ensures) c.mark.ensures c.in_err-other.ensures c.from_residual.ensures

pub returns-clause-did : goal.returns-clause-did
returns-clause-did g c =
    top_goes (g.B.Below.values c.args.below) (g.B.Below.statements c.args.below) c.args.config.now g.W.World.gives c.args.number c.args.statement.now c.args.walk.now.state _ _ _ _ _ _ (sym c.in_default.ensures) c.mark.ensures c.in_ok-other.ensures
