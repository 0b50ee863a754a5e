use Rattle.sw_convert_laid.proofs.LineFeeds.{before_line_feed}
use Rattle.sw_convert_laid.proofs.laws.tokens_stand_before_line_feeds.Goals as goal

pub returns : goal.returns
returns c = before_line_feed
