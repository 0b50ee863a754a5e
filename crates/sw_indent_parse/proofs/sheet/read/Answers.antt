use Rattle.sw_indent_parse.proofs.Reading.{list_returned, list_saw, refused_returned, refused_saw}
use Rattle.sw_indent_parse.proofs.sheet.read.Goals as goal

pub returns-in-Ok-clause-result : goal.returns-in-Ok-clause-result
returns-in-Ok-clause-result c =
    list_returned c.args.text.now _ c.read_list.result c.in-Ok.ensures.tokens c.in-Ok.ensures.sheet
    c.read_list.ensures.result

pub returns-in-Ok-clause-seen : goal.returns-in-Ok-clause-seen
returns-in-Ok-clause-seen c =
    list_saw c.args.text.now _ c.read_list.result c.in-Ok.ensures.tokens c.in-Ok.ensures.sheet
    c.read_list.ensures.seen

pub returns-in-Err-clause-result : goal.returns-in-Err-clause-result
returns-in-Err-clause-result c =
    rw c.end_without_tokens.ensures (refused_returned c.args.text.now _ c.in-Err.ensures.fault)

pub returns-in-Err-clause-seen : goal.returns-in-Err-clause-seen
returns-in-Err-clause-seen c =
    rw c.end_without_tokens.ensures (refused_saw c.args.text.now _ c.in-Err.ensures.fault)
