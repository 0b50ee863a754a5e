use Rattle.std.proofs.Common.{sym, ◌∙◌}
use Rattle.sw_parse_layout.proofs.Ahead.{comment_on, look_over_within}
use Rattle.sw_parse_layout.proofs.lines.comment_end.Goals as goal

pub comment-preserved : goal.comment-preserved
comment-preserved c =
    let found = sym c.look_over.ensures ∙ c.in-Goes.is in
    record {
      rest = sym (comment_on c.args.bytes.now c.args.reach c.comment._step c.comment.place c.in-Goes.to
          c.comment-test.true found) ∙ c.comment.invariant.rest;
      within = look_over_within c.args.bytes.now c.args.reach c.comment.place c.in-Goes.to c.comment.invariant.within
          found;
    }
