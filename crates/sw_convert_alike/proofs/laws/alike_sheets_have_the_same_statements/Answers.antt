use Rattle.sw_convert_alike.proofs.Told.{words_same}
use Rattle.sw_convert_alike.proofs.laws.alike_sheets_have_the_same_statements.Goals as goal

pub returns : goal.returns
returns c = λ sheet other l. words_same l
