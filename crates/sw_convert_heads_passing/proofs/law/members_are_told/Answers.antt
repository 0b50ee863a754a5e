use Rattle.sw_convert_heads_passing.proofs.Members.{members_are_told}
use Rattle.sw_convert_heads_passing.proofs.law.members_are_told.Goals as goal

pub returns : goal.returns
returns c = members_are_told
