use Rattle.sw_convert_heads_passing.proofs.MediaQueries.{media_is_told}
use Rattle.sw_convert_heads_passing.proofs.law.media_is_told.Goals as goal

pub returns : goal.returns
returns c = media_is_told
