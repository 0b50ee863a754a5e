use Rattle.sw_builtins.proofs.Short.{css-answer}
use Rattle.sw_builtins.proofs.written.css_of.Goals as goal

pub returns : goal.returns
returns c = css-answer c.css_text.result c.args.value.now c.css_text.ensures
