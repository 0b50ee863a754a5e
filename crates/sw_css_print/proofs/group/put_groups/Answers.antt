use Rattle.std.proofs.Common.{◌≡◌, ◌-◌, ◌<◌, ◌≤◌, length, length-drop, take, drop, arith}
use Rattle.std.proofs.lemmas.List.{take_rest}
use Rattle.sw_css_print.proofs.Groups.{put_step, shuts_put, rest_after, rest_some}
use Rattle.sw_css_print.proofs.group.put_groups.Goals as goal

pub loop-start-preserved : goal.loop-start-preserved
loop-start-preserved c =
    let some : 0 < length (take (length c.args.blocks.now - c.loop-start.start) (drop c.loop-start.start c.args.blocks.now)) = rest_some c.args.blocks.now c.loop-start.start c.loop-start-test.true in
    let within : c.group_len-len.result ≤ length c.args.blocks.now - c.loop-start.start = rw (take_rest, length-drop) at c.group_len-len.ensures.within in
    record {
      within = omega arith;
      bytes = rw (rest_after c.args.blocks.now c.loop-start.start c.group_len-len.result)
          (put_step (λ b. b.now) (take (length c.args.blocks.now - c.loop-start.start) (drop c.loop-start.start c.args.blocks.now)) c.group_len-len.result c.loop-start.last c.loop-start.out.items c.put_group.new.out.items _ c.in_ok-comment.comment
          some c.group_len-len.ensures.len c.in_ok-comment.ensures.comment c.in_ok-comment.ensures.bytes (rw take_rest c.loop-start.invariant.bytes));
      shuts = rw (rest_after c.args.blocks.now c.loop-start.start c.group_len-len.result)
          (shuts_put (λ b. b.now) (take (length c.args.blocks.now - c.loop-start.start) (drop c.loop-start.start c.args.blocks.now)) c.group_len-len.result c.loop-start.last _ c.in_ok-comment.comment
          some c.group_len-len.ensures.len c.in_ok-comment.ensures.comment (rw take_rest c.loop-start.invariant.shuts));
    }
