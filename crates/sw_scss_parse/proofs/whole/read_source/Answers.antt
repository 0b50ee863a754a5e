use Rattle.sw_scss_parse.proofs.Sheets.{got_returned, failed_returned}
use Rattle.sw_scss_parse.proofs.whole.read_source.Goals as goal

pub returns-in_ok-new-in-Ok : goal.returns-in_ok-new-in-Ok
returns-in_ok-new-in-Ok c =
    rw c.in_ok-new-in-Ok.ensures (got_returned c.args.source.now _ _ c.in-Ok.ensures)

pub returns-in-Err : goal.returns-in-Err
returns-in-Err c = failed_returned c.args.source.now _ c.end_of.result c.in-Err.ensures c.end_of.ensures
