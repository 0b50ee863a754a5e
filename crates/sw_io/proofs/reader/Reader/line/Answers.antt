use Rattle.std.proofs.Common.{◌+◌, [], ◌∷◌, ◌++◌, arith, refl, ap, ◌∙◌}
use Rattle.std.proofs.lemmas.List.{length_push}
use Rattle.std.proofs.lemmas.Result.{err_from_is_err_and}
use Rattle.sw_io.specs.declared.stop.ReadStop.TheVariants.{Failed, Ended, TooLong, Memory}
use Rattle.sw_io.proofs.Causes.{went_well, failed_so, failed_else}
use Rattle.sw_io.proofs.Reading.{reads_none, reads_on, reads_then_none}
use Rattle.sw_io.proofs.Lines.{unbroken_push, line_found, line_unended, line_too_long}
use Rattle.sw_io.proofs.reader.Reader.line.Goals as goal

pub loop-init : goal.loop-init
loop-init g c = rw c.clear.ensures.items record {
  read = reads_none _ _;
  unbroken = tt;
  count = refl;
  fine = refl;
}

pub returns-in_err-next-clause-err : goal.returns-in_err-next-clause-err
returns-in_err-next-clause-err g c =
    let p = err_from_is_err_and c.from_residual.result c.from_residual.ensures.1 in
    let i = c.loop.invariant in
    let e = c.in_err-next.ensures in
    rw (p.1, p.2) (
      c.loop.line.items,
      reads_then_none _ _ _ _ _ _ _ i.read e.err.0,
      (line_unended 1024 c.loop.line.items i.unbroken (omega arith), e.err.1, omega (arith, e.cause.failed, i.fine)),
    )

pub returns-in_err-next-clause-cause : goal.returns-in_err-next-clause-cause
returns-in_err-next-clause-cause g c =
    let p = err_from_is_err_and c.from_residual.result c.from_residual.ensures.1 in
    let i = c.loop.invariant in
    let e = c.in_err-next.ensures.cause in
    rw (p.1, p.2) (failed_so Failed _ _ (omega (arith, e.later, i.fine)) (omega (arith, e.failed, i.fine)))

pub returns-in-None-clause-err : goal.returns-in-None-clause-err
returns-in-None-clause-err g c =
    let i = c.loop.invariant in
    let e = rw c.in-None.is at c.in_ok-next.ensures in (
      c.loop.line.items,
      reads_then_none _ _ _ _ _ _ _ i.read e.read,
      (line_unended 1024 c.loop.line.items i.unbroken (omega arith), e.none.0, e.none.1),
    )

pub returns-in-None-clause-cause : goal.returns-in-None-clause-cause
returns-in-None-clause-cause g c = failed_else Failed _ _ Ended (λ e. cc) (c.in_ok-next.ensures.cause.fine ∙ c.loop.invariant.fine)

pub returns-in-Some-eq10-clause-ok : goal.returns-in-Some-eq10-clause-ok
returns-in-Some-eq10-clause-ok g c =
    let i = c.loop.invariant in
    let e = rw (c.in-Some-eq10.is, c.in-Some-eq10.field-0-test) at c.in_ok-next.ensures.read in (
      reads_on _ _ _ _ _ _ _ _ i.read e,
      λ rest. line_found 1024 c.loop.line.items rest i.unbroken (omega arith),
    )

pub returns-in-Some-eq10-clause-cause : goal.returns-in-Some-eq10-clause-cause
returns-in-Some-eq10-clause-cause g c = went_well Failed _ _ _ (c.in_ok-next.ensures.cause.fine ∙ c.loop.invariant.fine)

pub returns-in_err-push-in-Some-clause-err : goal.returns-in_err-push-in-Some-clause-err
returns-in_err-push-in-Some-clause-err g c =
    let p = err_from_is_err_and c.from_residual-in_err-push-in-Some.result c.from_residual-in_err-push-in-Some.ensures.1 in
    let i = c.loop.invariant in
    let e = rw c.in-Some.is at c.in_ok-next.ensures.read in
    rw (p.1, p.2) (c.loop.line.items ++ c.in-Some.byte ∷ [], reads_on _ _ _ _ _ _ _ _ i.read e, tt)

pub returns-in_err-push-in-Some-clause-cause : goal.returns-in_err-push-in-Some-clause-cause
returns-in_err-push-in-Some-clause-cause g c =
    let p = err_from_is_err_and c.from_residual-in_err-push-in-Some.result c.from_residual-in_err-push-in-Some.ensures.1 in
    rw (p.1, p.2) (failed_else Failed _ _ Memory (λ e. cc) (c.in_ok-next.ensures.cause.fine ∙ c.loop.invariant.fine))

pub loop-preserved : goal.loop-preserved
loop-preserved g c =
    let i = c.loop.invariant in
    let e = rw c.in-Some.is at c.in_ok-next.ensures.read in
    rw c.in_ok-push-in-Some.ensures.items record {
      read = reads_on _ _ _ _ _ _ _ _ i.read e;
      unbroken = unbroken_push c.loop.line.items c.in-Some.byte i.unbroken c.in-Some.byte-test.1;
      count = length_push c.loop.line.items c.in-Some.byte ∙ ap (λ n. n + 1) i.count;
      fine = c.in_ok-next.ensures.cause.fine ∙ i.fine;
    }

pub returns-clause-err : goal.returns-clause-err
returns-clause-err g c =
    let i = c.loop.invariant in
    (c.loop.line.items, i.read, λ rest. line_too_long 1024 c.loop.line.items rest i.unbroken (omega arith))

pub returns-clause-cause : goal.returns-clause-cause
returns-clause-cause g c = failed_else Failed _ _ TooLong (λ e. cc) c.loop.invariant.fine
