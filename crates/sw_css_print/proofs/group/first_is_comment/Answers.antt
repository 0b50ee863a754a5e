use Rattle.std.proofs.Common.{◌≡◌, ◌<◌, ◌∙◌, sym, length, arith}
use Rattle.sw_css_print.proofs.Groups.{opens_first}
use Rattle.sw_css_print.proofs.group.first_is_comment.Goals as goal

pub returns : goal.returns
returns c = let some : 0 < length c.args.blocks.now = grind arith in c.is_comment.ensures ∙ sym (opens_first (λ b. b.now) c.args.blocks.now c.group_len.result some c.group_len.ensures.len)
