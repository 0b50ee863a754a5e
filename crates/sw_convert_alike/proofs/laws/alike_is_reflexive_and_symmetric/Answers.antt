use Rattle.sw_convert_alike.proofs.Sheets.{block_self}
use Rattle.sw_convert_alike.proofs.Symmetric.{block_back}
use Rattle.sw_convert_alike.proofs.laws.alike_is_reflexive_and_symmetric.Goals as goal

pub returns : goal.returns
returns c = record { reflexive = λ sheet. block_self sheet.statements; symmetric = λ sheet other l. block_back l }
