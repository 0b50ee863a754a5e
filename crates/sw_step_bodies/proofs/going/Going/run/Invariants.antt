use Rattle.std.proofs.Common.{◌≡◌, ◌-◌, suc, length}
use Rattle.sw_world.specs.Laws.{most_asked}
use Rattle.sw_modules.specs.Settings.{hostless}
use Rattle.sw_step_bodies.specs.Standing.{left_at}
use Rattle.sw_step_bodies.specs.Moves.{IsDeep, moment_of}
use Rattle.sw_step_bodies.proofs.going.Going.run.Given as goal

abbrev pub invariant-turns : goal.invariant-turns
invariant-turns g l = record {
  left : left_at (hostless g.R.Reader.reads g.E.Engine.body) (moment_of l.self.live l.self.waiting.items l.self.innermost l.self.times.items)
      ≡ left_at (hostless g.R.Reader.reads g.E.Engine.body) (moment_of l.fn.self.live l.fn.self.waiting.items l.fn.self.innermost l.fn.self.times.items);
  deep : IsDeep l.self.live l.self.waiting.items;
  folder : l.self.live.folder ≡ l.fn.self.live.folder;
  told : g.E.Engine.ran l.engine ≡ g.E.Engine.ran l.fn.engine;
}

abbrev pub decreases-turns : goal.decreases-turns
decreases-turns g l = suc most_asked - length l.self.innermost.standing.pairs
