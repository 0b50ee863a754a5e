use Rattle.sw_modules.proofs.Few.{few_answers}
use Rattle.sw_modules.proofs.live.Live.few.Goals as goal

pub returns : goal.returns
returns c = few_answers c.args.self.now c.loaded.result.now c.args.name.now c.args.stars.now c.few.result c.loaded.ensures c.few.ensures
