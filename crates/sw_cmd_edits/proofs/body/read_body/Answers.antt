use Rattle.std.proofs.Common.{[], ◌∷◌, ◌++◌, refl, ◌∙◌, arith}
use Rattle.std.proofs.lemmas.Result.{err_from_is_err_and}
use Rattle.sw_io.specs.declared.stop.ReadStop.TheVariants.{Failed}
use Rattle.sw_io.proofs.Causes.{went_well, failed_so, failed_else, fine_ok}
use Rattle.sw_io.proofs.Reading.{reads_on, reads_then_none}
use Rattle.sw_cmd_protocol.specs.declared.stop.Stop.TheVariants.{Wrong, CutOff, SourceFailed}
use Rattle.sw_cmd_protocol.proofs.Fronts.{line_cause}
use Rattle.sw_cmd_edits.proofs.body.read_body.Goals as goal

pub returns-in-Ok-None-clause-err : goal.returns-in-Ok-None-clause-err
returns-in-Ok-None-clause-err g c =
    let b = c.in_ok-read_bytes.ensures.ok in
    let e = rw c.in-Ok-None.field-0-is at c.in-Ok-None.ensures in
    (b.0, reads_then_none _ _ _ _ _ _ _ b.1 e.read, (omega (arith, b.2), e.none.0, e.none.1))

pub returns-in-Ok-Some-eq10-clause-ok : goal.returns-in-Ok-Some-eq10-clause-ok
returns-in-Ok-Some-eq10-clause-ok g c =
    let b = c.in_ok-read_bytes.ensures.ok in
    let e = rw (c.in-Ok-Some-eq10.field-0-is, c.in-Ok-Some-eq10.field-0-0-test) at c.in-Ok-Some-eq10.ensures.read in
    (b.0, reads_on _ _ _ _ _ _ _ _ b.1 e, b.2, b.3)

pub returns-in-Ok-Some-clause-err : goal.returns-in-Ok-Some-clause-err
returns-in-Ok-Some-clause-err g c =
    let b = c.in_ok-read_bytes.ensures.ok in
    let byte = c.in-Ok-Some.field-0-0 in
    let e = rw c.in-Ok-Some.field-0-is at c.in-Ok-Some.ensures.read in
    (b.0 ++ byte ∷ [], reads_on _ _ _ _ _ _ _ _ b.1 e, (b.0, byte, refl, b.2, c.in-Ok-Some.field-0-0-test.1))

pub returns-in_err-read_bytes-clause-cause : goal.returns-in_err-read_bytes-clause-cause
returns-in_err-read_bytes-clause-cause g c =
    let q = err_from_is_err_and c.from_residual.result c.from_residual.ensures.1 in
    rw (q.1, q.2) (line_cause _ _ _ c.in_err-read_bytes.ensures.cause)

pub returns-in-Err-clause-cause : goal.returns-in-Err-clause-cause
returns-in-Err-clause-cause g c =
    let none = fine_ok Failed _ _ _ c.in_ok-read_bytes.ensures.cause in
    let e = c.in-Err.ensures.cause in
    failed_so SourceFailed _ _ (omega (arith, e.later, none)) (omega (arith, e.failed, none))

pub returns-in-Ok-None-clause-cause : goal.returns-in-Ok-None-clause-cause
returns-in-Ok-None-clause-cause g c = failed_else SourceFailed _ _ CutOff (λ e. cc) (c.in-Ok-None.ensures.cause.fine ∙ fine_ok Failed _ _ _ c.in_ok-read_bytes.ensures.cause)

pub returns-in-Ok-Some-eq10-clause-cause : goal.returns-in-Ok-Some-eq10-clause-cause
returns-in-Ok-Some-eq10-clause-cause g c = went_well SourceFailed _ _ _ (c.in-Ok-Some-eq10.ensures.cause.fine ∙ fine_ok Failed _ _ _ c.in_ok-read_bytes.ensures.cause)

pub returns-in-Ok-Some-clause-cause : goal.returns-in-Ok-Some-clause-cause
returns-in-Ok-Some-clause-cause g c = failed_else SourceFailed _ _ Wrong (λ e. cc) (c.in-Ok-Some.ensures.cause.fine ∙ fine_ok Failed _ _ _ c.in_ok-read_bytes.ensures.cause)
