use Rattle.sw_scss_parse.proofs.Sheets.{tokens_returned, tokens_saw, unclosed_returned, unclosed_saw}
use Rattle.sw_scss_parse.proofs.whole.read.Goals as goal

pub returns-in-Ok-clause-result : goal.returns-in-Ok-clause-result
returns-in-Ok-clause-result c =
    tokens_returned c.args.text.now _ c.read_list.result c.in-Ok.ensures.tokens c.in-Ok.ensures.sheet
    c.read_list.ensures.result

pub returns-in-Ok-clause-seen : goal.returns-in-Ok-clause-seen
returns-in-Ok-clause-seen c =
    tokens_saw c.args.text.now _ c.read_list.result c.in-Ok.ensures.tokens c.in-Ok.ensures.sheet
    c.read_list.ensures.seen

pub returns-in-Err-clause-result : goal.returns-in-Err-clause-result
returns-in-Err-clause-result c =
    rw c.end_without_tokens.ensures (unclosed_returned c.args.text.now _ c.in-Err.ensures.fault)

pub returns-in-Err-clause-seen : goal.returns-in-Err-clause-seen
returns-in-Err-clause-seen c =
    rw c.end_without_tokens.ensures (unclosed_saw c.args.text.now _ c.in-Err.ensures.fault)
