use Rattle.sw_convert_texts.proofs.Comments.{comments_written}
use Rattle.sw_convert_texts.proofs.laws.comments_are_written.Goals as goal

pub returns : goal.returns
returns c = comments_written
