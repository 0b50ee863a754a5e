use Rattle.std.proofs.Common.{refl}
use Rattle.sw_modules.specs.Settings.{hostless}
use Rattle.sw_step_bodies.specs.Standing.{outside_of}
use Rattle.sw_step_bodies.proofs.Plain.{went_on, led_keeps}
use Rattle.sw_step_bodies.proofs.outside.go_asked.Goals as goal

pub returns-clause-went : goal.returns-clause-went
returns-clause-went g c =
    let went = c.go.ensures.went in
    went_on _ (λ w. outside_of w.live.now) (hostless g.R.Reader.reads g.E.Engine.body) (λ w op a t h. h.0) g.met.E.Engine.ends_in_time
    (g.E.Engine.progress c.args.body.now) (g.E.Engine.progress c.go.new.running) c.args.asked.now c.go.new.world went.0 went.1 c.args.asked.now.live.now c.go.new.world.live.now refl refl
    c.go.ensures.is_body went.2

pub returns-clause-same_live : goal.returns-clause-same_live
returns-clause-same_live g c =
    let went = c.go.ensures.went in
    led_keeps _ (λ w. w.live.ghost_name) (λ w op a t h. h.1) c.args.asked.now went.1 c.go.new.world went.2.led

pub returns-clause-same_hosts : goal.returns-clause-same_hosts
returns-clause-same_hosts g c =
    let went = c.go.ensures.went in
    led_keeps _ (λ w. w.hosts.ghost_name) (λ w op a t h. h.2) c.args.asked.now went.1 c.go.new.world went.2.led
