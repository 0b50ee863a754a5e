use Rattle.sw_selector.proofs.Deep.{read_within}
use Rattle.sw_selector.proofs.reader.read.Goals as goal

pub within_limit-requires : goal.within_limit-requires
within_limit-requires c = read_within c.args.text.now c.in_ok-list.list c.in_ok-list.ensures
