use Rattle.sw_parse_css.proofs.Whole.{sheet_is_read, sheet_is_deep}
use Rattle.sw_parse_css.proofs.sheet.sheets_are_of_the_grammar.Goals as goal

pub returns : goal.returns
returns c = record { grammar = sheet_is_read; depth = sheet_is_deep }
