use Rattle.std.proofs.Common.{sym, ap, ◌∙◌}
use Rattle.sw_cmd_disk_compile.specs.Once.{text_of}
use Rattle.sw_cmd_disk_compile.proofs.compile.write_outcome.Goals as goal

pub returns-clause-ends : goal.returns-clause-ends
returns-clause-ends g c =
    let e = c.in-Err-send.ensures.err in
    (e.0, e.1, ap text_of c.in-Error.is ∙ sym c.in-Ok-fault_line.ensures ∙ sym c.deref.ensures.value ∙ e.2, e.3)
