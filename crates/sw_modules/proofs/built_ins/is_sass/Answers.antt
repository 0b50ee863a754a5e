use Rattle.std.proofs.Common.{codes}
use Rattle.std.proofs.lemmas.Str.Pattern.{starts_text}
use Rattle.sw_modules.proofs.built_ins.is_sass.Goals as goal

pub returns : goal.returns
returns c = starts_text c.starts_with.result (codes "sass:") c.args.url.now c.starts_with.ensures.cases
