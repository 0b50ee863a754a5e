use Rattle.std.proofs.Common.{◌∙◌}
use Rattle.sw_scss_parse.proofs.Sheets.{list_returned}
use Rattle.sw_scss_parse.proofs.whole.read_list.Goals as goal

pub returns-clause-result : goal.returns-clause-result
returns-clause-result c =
    (list_returned _ c.read_source.result c.read_source.ensures
    (c.as_slice.ensures ∙ c.in_ok-lexemes.ensures.lexemes)).0

pub returns-clause-seen : goal.returns-clause-seen
returns-clause-seen c =
    (list_returned _ c.read_source.result c.read_source.ensures
    (c.as_slice.ensures ∙ c.in_ok-lexemes.ensures.lexemes)).1
