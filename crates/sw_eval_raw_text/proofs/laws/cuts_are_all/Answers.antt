use Rattle.sw_eval_raw_text.proofs.CutLaws.{all_cut}
use Rattle.sw_eval_raw_text.proofs.laws.cuts_are_all.Goals as goal

pub returns : goal.returns
returns c = all_cut
