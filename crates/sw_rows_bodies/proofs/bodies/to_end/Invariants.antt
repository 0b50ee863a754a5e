use Rattle.sw_rows_bodies.specs.Ready.{IsReady}
use Rattle.sw_rows_bodies.proofs.bodies.to_end.Given as goal

abbrev pub invariant-loads : goal.invariant-loads
invariant-loads g l = IsReady g.E.Engine.body (g.E.Engine.progress l.body)
