use Rattle.sw_text_locality.proofs.Written.{keeps_name}
use Rattle.sw_text_locality.proofs.laws.keeps_names.Goals as goal

pub returns : goal.returns
returns c = keeps_name
