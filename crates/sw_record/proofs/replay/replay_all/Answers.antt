use Rattle.std.proofs.Common.{arith, subst, rules}
use Rattle.sw_record.specs.declared.replay.Step.{Step}
use Rattle.sw_record.specs.Together.{IsStep}
use Rattle.sw_record.proofs.Together.{together_left, went_none, stop_join, went_join, broke_join, went_within}
use Rattle.sw_record.proofs.replay.replay_all.Goals as goal

pub questions-init : goal.questions-init
questions-init g c = went_none g.W.World.gives c.args.runs.now g.E.Engine.body c.args.alive c.args.from c.args.world.now c.requires

pub replay_step-requires : goal.replay_step-requires
replay_step-requires g c =
    let on = c.questions.invariant in
    together_left g.E.Engine.body c.args.runs.now c.args.alive c.questions.left c.args.from c.questions.at on.pairs c.requires on.are_left on.some on.count

pub questions-preserved : goal.questions-preserved
questions-preserved g c =
    let step = subst (λ (s : Step). IsStep g.W.World.gives c.args.runs.now c.questions.left c.questions.at s c.questions.world c.replay_step.new.world) c.in-GoesOn.is c.in_ok-replayed.ensures.ok in
    went_join g.W.World.gives c.args.runs.now c.args.alive c.questions.left c.args.from c.questions.at c.args.world.now c.questions.world c.replay_step.new.world c.questions.invariant c.in-GoesOn.agree c.in-GoesOn.to step.0

pub questions-smaller : goal.questions-smaller
questions-smaller g c =
    let step = subst (λ (s : Step). IsStep g.W.World.gives c.args.runs.now c.questions.left c.questions.at s c.questions.world c.replay_step.new.world) c.in-GoesOn.is c.in_ok-replayed.ensures.ok in
    omega (arith, step.1, went_within g.W.World.gives c.args.runs.now c.questions.left c.questions.at c.in-GoesOn.agree c.in-GoesOn.to c.questions.world c.replay_step.new.world step.0)

pub returns-in-Stops-clause-ok : goal.returns-in-Stops-clause-ok
returns-in-Stops-clause-ok g c =
    let step = subst (λ (s : Step). IsStep g.W.World.gives c.args.runs.now c.questions.left c.questions.at s c.questions.world c.replay_step.new.world) c.in-Stops.is c.in_ok-replayed.ensures.ok in
    stop_join g.W.World.gives c.args.runs.now c.args.alive c.questions.left c.args.from c.questions.at c.args.world.now c.questions.world c.replay_step.new.world c.questions.invariant c.in-Stops.replayed step

pub returns-in_err-replayed-clause-err : goal.returns-in_err-replayed-clause-err
returns-in_err-replayed-clause-err g c =
    let broke = broke_join g.W.World.gives c.args.runs.now c.args.alive c.questions.left c.args.from c.questions.at c.args.world.now c.questions.world c.replay_step.new.world c.questions.invariant c.in_err-replayed.ensures.err in
    search (rules, broke)
