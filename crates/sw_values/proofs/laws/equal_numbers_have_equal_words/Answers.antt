use Rattle.sw_values.proofs.Agreement.{numbers_agree}
use Rattle.sw_values.proofs.laws.equal_numbers_have_equal_words.Goals as goal

pub returns : goal.returns
returns c = numbers_agree
