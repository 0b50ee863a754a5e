use Rattle.std.proofs.Common.{sym, ◌∙◌}
use Rattle.sw_eval_raw_text.proofs.Extremes.{as_computed, as_written, as_refused}
use Rattle.sw_eval_raw_text.proofs.special.extremum_value.Goals as goal

pub returns-in-Ok : goal.returns-in-Ok
returns-in-Ok c = as_computed c.args.function c.args.all.now c.args.values.now c.args.span.now _ c.in-Ok.ensures

pub returns-then-is_incomparable : goal.returns-then-is_incomparable
returns-then-is_incomparable c =
    rw (as_written c.args.function c.args.all.now c.args.values.now c.args.span.now _ (rw c.in-Err-Fault.field-0-is at c.in-Err-Fault.ensures) (sym c.is_incomparable.ensures ∙ c.if-is_incomparable.true)) c.written_out.ensures

pub returns-else-is_incomparable : goal.returns-else-is_incomparable
returns-else-is_incomparable c =
    as_refused c.args.function c.args.all.now c.args.values.now c.args.span.now _ (rw c.in-Err-Fault.field-0-is at c.in-Err-Fault.ensures) (sym c.is_incomparable.ensures ∙ c.if-is_incomparable.false)
