use Rattle.sw_rows_bodies.proofs.Given.{begun_ready}
use Rattle.sw_rows_bodies.proofs.bodies.begin.Goals as goal

pub returns : goal.returns
returns g c =
    begun_ready g.E.Engine.body _ (g.E.Engine.progress c.in_ok-body.body) (rw c.new-none.ensures at c.in_ok-body.ensures)
