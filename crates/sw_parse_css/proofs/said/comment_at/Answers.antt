use Rattle.sw_parse_css.specs.Seen.{comment_at}
use Rattle.sw_parse_css.proofs.Saying.{comment_stands}
use Rattle.sw_parse_css.proofs.said.comment_at.Goals as goal

pub returns-then-is_comment-clause-stands : goal.returns-then-is_comment-clause-stands
unfolding comment_at
returns-then-is_comment-clause-stands c token e = comment_stands _ _ c.in-Some.ensures.stands token e
