use Rattle.sw_convert_texts.proofs.Urls.{urls_written}
use Rattle.sw_convert_texts.proofs.laws.urls_are_written.Goals as goal

pub returns : goal.returns
returns c = urls_written
