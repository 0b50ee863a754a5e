use Rattle.sw_modules.proofs.Fitting.{find_fits}
use Rattle.sw_modules.proofs.live.Live.answer.Goals as goal

pub returns-in-Find-clause-fits : goal.returns-in-Find-clause-fits
returns-in-Find-clause-fits g c = find_fits c.args.op.now c.find.result c.args.self.now c.in-Find.site c.in-Find.space c.in-Find.kind c.in-Find.name c.in-Find.is c.find.ensures.found
