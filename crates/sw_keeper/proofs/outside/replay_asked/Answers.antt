use Rattle.std.proofs.Common.{drop}
use Rattle.sw_modules.specs.Fresh.{setting_of}
use Rattle.sw_keeper.proofs.Parts.{led_keeps}
use Rattle.sw_keeper.proofs.Again.{asked_to, replay_keeps}
use Rattle.sw_keeper.proofs.More.{on_err}
use Rattle.sw_keeper.proofs.Cuts.{again_cut}
use Rattle.sw_keeper.proofs.outside.replay_asked.Goals as goal

pub returns-clause-to : goal.returns-clause-to
returns-clause-to g c = λ on.
    asked_to (setting_of g.H.Hosts.answer g.H.Hosts.after g.R.Reader.reads g.E.Engine.body) c.args.going.now.runs.now c.args.going.now.alive c.args.going.now.at on _
    (λ w. record { live = w.live.now; hosts = g.H.Hosts.state w.hosts.now }) (λ w op a t h. h.0) g.met.E.Engine.ends_in_time
    c.in_ok-replayed.replayed c.args.asked.now c.replay_all.new.world c.in_ok-replayed.ensures.ok

pub returns-clause-same_live : goal.returns-clause-same_live
returns-clause-same_live g c =
    replay_keeps _ (λ w. w.live.ghost_name) (led_keeps _ (λ w. w.live.ghost_name) (λ w op a t h. h.1)) c.args.going.now.runs.now c.args.going.now.alive c.args.going.now.at c.in_ok-replayed.replayed c.args.asked.now c.replay_all.new.world c.in_ok-replayed.ensures.ok

pub returns-clause-same_hosts : goal.returns-clause-same_hosts
returns-clause-same_hosts g c =
    replay_keeps _ (λ w. w.hosts.ghost_name) (led_keeps _ (λ w. w.hosts.ghost_name) (λ w op a t h. h.2)) c.args.going.now.runs.now c.args.going.now.alive c.args.going.now.at c.in_ok-replayed.replayed c.args.asked.now c.replay_all.new.world c.in_ok-replayed.ensures.ok

pub returns-in_err-replayed-clause-cut : goal.returns-in_err-replayed-clause-cut
returns-in_err-replayed-clause-cut g c =
    on_err c.from_residual.result (λ on told. again_cut (setting_of g.H.Hosts.answer g.H.Hosts.after g.R.Reader.reads g.E.Engine.body) c.args.going.now.runs.now c.args.going.now.alive c.args.going.now.at on _
    (λ w. record { live = w.live.now; hosts = g.H.Hosts.state w.hosts.now }) (λ w op a t h. h.0) c.args.asked.now c.replay_all.new.world told g.met.E.Engine.ends_in_time c.in_err-replayed.ensures.err)

pub returns-in_err-replayed-clause-err_live : goal.returns-in_err-replayed-clause-err_live
returns-in_err-replayed-clause-err_live g c =
    let broke = c.in_err-replayed.ensures.err in
    on_err c.from_residual.result (led_keeps _ (λ w. w.live.ghost_name) (λ w op a t h. h.1) c.args.asked.now (drop c.args.going.now.at broke.0) c.replay_all.new.world broke.4.1)

pub returns-in_err-replayed-clause-err_hosts : goal.returns-in_err-replayed-clause-err_hosts
returns-in_err-replayed-clause-err_hosts g c =
    let broke = c.in_err-replayed.ensures.err in
    on_err c.from_residual.result (led_keeps _ (λ w. w.hosts.ghost_name) (λ w op a t h. h.2) c.args.asked.now (drop c.args.going.now.at broke.0) c.replay_all.new.world broke.4.1)
