use Rattle.sw_eval_raw_text.proofs.WhiteSpace.{same_text, single_spaces}
use Rattle.sw_eval_raw_text.proofs.laws.only_white_space_goes.Goals as goal

pub returns : goal.returns
returns c = record { same = same_text; single = single_spaces }
