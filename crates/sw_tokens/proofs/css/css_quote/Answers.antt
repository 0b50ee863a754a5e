use Rattle.sw_tokens.proofs.Cuts.{behind_quote}
use Rattle.sw_tokens.proofs.css.css_quote.Goals as goal

pub range-requires-clause-start_boundary : goal.range-requires-clause-start_boundary
range-requires-clause-start_boundary c = λ _. behind_quote c.args.text.now c.args.at c.args.quote c.utf8.text c.requires.within c.requires.stands c.requires.quote
