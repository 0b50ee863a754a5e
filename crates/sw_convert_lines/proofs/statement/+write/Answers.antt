use Rattle.std.proofs.Common.{Option, Some, IfErr, sym, ap, subst, ◌∙◌}
use Rattle.sw_tree.specs.declared.callable.Content.{Content}
use Rattle.sw_convert_lines.specs.Lines.{Passed, IsFault, include, passed_of}
use Rattle.sw_convert_lines.proofs.statement.+write.Goals as goal

pub put_included-returns-in-Some-clause-fault : goal.put_included-returns-in-Some-clause-fault
put_included-returns-in-Some-clause-fault t c =
    subst (λ (p : Option Passed). IfErr c.put_content_block.result (IsFault (include c.args.span.now c.args.mixin.now p).refused))
    (ap (λ (x : Content). passed_of (Some x)) c.get.ensures ∙ sym (ap passed_of c.in-Some.is)) c.put_content_block.ensures.fault
