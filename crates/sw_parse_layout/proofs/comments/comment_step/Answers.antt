use Rattle.std.proofs.Common.{arith}
use Rattle.sw_text_scan.proofs.Bounds.{white_onward}
use Rattle.sw_parse_layout.proofs.comments.comment_step.Goals as goal

pub overflow_cast-start : goal.overflow_cast-start
overflow_cast-start c =
    let same = c.as_bytes-bytes.ensures.len in
    let lt = c.requires.within in
    let on = white_onward c.as_bytes-bytes.result.now c.args.s.at (omega arith) in
    let within = on.within in
    let short = c.requires.short in
    let is = c.white_end-start.ensures in omega arith
