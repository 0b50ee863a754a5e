use Rattle.sw_modules.specs.Fresh.{setting_of}
use Rattle.sw_keeper.proofs.Parts.{went_on, led_keeps}
use Rattle.sw_keeper.proofs.More.{on_err}
use Rattle.sw_keeper.proofs.Cuts.{go_cut}
use Rattle.sw_keeper.proofs.outside.go_asked.Goals as goal

pub returns-clause-went : goal.returns-clause-went
returns-clause-went g c =
    let went = c.in_ok-turn.ensures.went in
    went_on _ (λ w. record { live = w.live.now; hosts = g.H.Hosts.state w.hosts.now }) (setting_of g.H.Hosts.answer g.H.Hosts.after g.R.Reader.reads g.E.Engine.body) (λ w op a t h. h.0)
    (g.E.Engine.progress c.args.body.now) (g.E.Engine.progress c.go.new.running) c.args.asked.now c.go.new.world went.0 went.1
    g.met.E.Engine.ends_in_time c.in_ok-turn.ensures.is_body c.in_ok-turn.ensures.stopped.1 went.2

pub returns-clause-same_live : goal.returns-clause-same_live
returns-clause-same_live g c =
    let went = c.in_ok-turn.ensures.went in
    led_keeps _ (λ w. w.live.ghost_name) (λ w op a t h. h.1) c.args.asked.now went.1 c.go.new.world went.2.led

pub returns-clause-same_hosts : goal.returns-clause-same_hosts
returns-clause-same_hosts g c =
    let went = c.in_ok-turn.ensures.went in
    led_keeps _ (λ w. w.hosts.ghost_name) (λ w op a t h. h.2) c.args.asked.now went.1 c.go.new.world went.2.led

pub returns-in_err-turn-clause-cut : goal.returns-in_err-turn-clause-cut
returns-in_err-turn-clause-cut g c =
    let went = c.in_err-turn.ensures.went in
    on_err c.from_residual.result (go_cut _ (λ w. record { live = w.live.now; hosts = g.H.Hosts.state w.hosts.now }) (setting_of g.H.Hosts.answer g.H.Hosts.after g.R.Reader.reads g.E.Engine.body) (λ w op a t h. h.0)
    (g.E.Engine.progress c.args.body.now) (g.E.Engine.progress c.go.new.running) c.args.asked.now c.go.new.world went.0 went.1 (g.E.Engine.ran c.args.engine.now) (g.E.Engine.ran c.go.new.self)
    g.met.E.Engine.ends_in_time c.in_err-turn.ensures.is_body went.2 c.in_err-turn.ensures.ran_same)

pub returns-in_err-turn-clause-err_live : goal.returns-in_err-turn-clause-err_live
returns-in_err-turn-clause-err_live g c =
    let went = c.in_err-turn.ensures.went in
    on_err c.from_residual.result (led_keeps _ (λ w. w.live.ghost_name) (λ w op a t h. h.1) c.args.asked.now went.1 c.go.new.world went.2.led)

pub returns-in_err-turn-clause-err_hosts : goal.returns-in_err-turn-clause-err_hosts
returns-in_err-turn-clause-err_hosts g c =
    let went = c.in_err-turn.ensures.went in
    on_err c.from_residual.result (led_keeps _ (λ w. w.hosts.ghost_name) (λ w op a t h. h.2) c.args.asked.now went.1 c.go.new.world went.2.led)
