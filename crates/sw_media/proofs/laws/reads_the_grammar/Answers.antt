use Rattle.sw_media.proofs.Whole.{one_list, reads_lists}
use Rattle.sw_media.proofs.laws.reads_the_grammar.Goals as goal

pub returns : goal.returns
returns c = record { one = one_list; read = reads_lists }
