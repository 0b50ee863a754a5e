use Rattle.std.specs.Prelude.{codes}
use Rattle.std.proofs.lemmas.Str.Pattern.{ends_text}
use Rattle.sw_eval_statements.proofs.places.is_css.Goals as goal

pub returns : goal.returns
returns c = rw c.as_str.ensures at (ends_text c.ends_with.result (codes ".css") c.as_str.result.now c.ends_with.ensures.cases)
