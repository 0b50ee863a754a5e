use Rattle.std.proofs.Common.{ap, sym, ◌∙◌}
use Rattle.sw_modules.specs.Settings.{hostless}
use Rattle.sw_modules.specs.State.{nothing_loaded}
use Rattle.sw_step_bodies.proofs.Begins.{begins_here}
use Rattle.sw_step_bodies.proofs.begun.begin.Goals as goal

pub returns : goal.returns
returns g c =
    let start = c.args.start.now in
    begins_here (hostless g.R.Reader.reads g.E.Engine.body) start c.in-Open.path c.in-Open.text c.in-Ok.sheet c.in_ok-config.config c.in_ok-live.live c.enter.new.self c.park.result c.in_ok-fault.field-0
    c.new-in-Ok.result.items c.new-in-Ok-2.result c.new-in-Ok-3.result.items
    (c.in_ok-live.ensures ∙ ap (nothing_loaded start.folder) (c.as_slice.ensures ∙ c.get.ensures))
    c.in_ok-fault.ensures.ok c.in-Open.is c.in_ok-fault.ensures.opens (sym c.in_ok-fault-in-Open.ensures ∙ c.in-Ok.is) c.in_ok-config.ensures c.park.ensures c.new-in-Ok.ensures.items c.new-in-Ok-2.ensures
    c.new-in-Ok-3.ensures.items
