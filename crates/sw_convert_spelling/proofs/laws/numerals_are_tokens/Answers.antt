use Rattle.sw_convert_spelling.proofs.NumeralTokens.{numeral_token, letters_end}
use Rattle.sw_convert_spelling.proofs.laws.numerals_are_tokens.Goals as goal

pub returns : goal.returns
returns c = record { token = numeral_token; letters = letters_end }
