use Rattle.sw_scss_parse.proofs.Alike.{tokens_same, seen_same}
use Rattle.sw_scss_parse.proofs.Sheets.{sheet_is_read, sheet_is_deep, list_is_read, list_is_deep}
use Rattle.sw_scss_parse.proofs.whole.sheets_are_of_the_grammar.Goals as goal

pub returns : goal.returns
returns c =
    record {
      grammar = sheet_is_read;
      depth = sheet_is_deep;
      list_grammar = list_is_read;
      list_depth = list_is_deep;
      tokens = tokens_same;
      seen = seen_same;
    }
