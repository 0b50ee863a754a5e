use Rattle.sw_selector.proofs.Others.{writes_others}
use Rattle.sw_selector.proofs.laws.writes_all_others.Goals as goal

pub returns : goal.returns
returns c = writes_others
