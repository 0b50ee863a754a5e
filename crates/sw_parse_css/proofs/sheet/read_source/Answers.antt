use Rattle.sw_parse_css.proofs.Whole.{got_sheet}
use Rattle.sw_parse_css.proofs.sheet.read_source.Goals as goal

pub returns-in_ok-new-in-Ok : goal.returns-in_ok-new-in-Ok
returns-in_ok-new-in-Ok c = rw c.in_ok-new-in-Ok.ensures (got_sheet _ _ _ c.in-Ok.ensures)
