use Rattle.sw_selector.proofs.Back.{reads_back}
use Rattle.sw_selector.proofs.laws.written_reads_back.Goals as goal

pub returns : goal.returns
returns c = reads_back
