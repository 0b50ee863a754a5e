use Rattle.std.proofs.Common.{[], ◌∷◌, ◌++◌, length, ap, arith, refl, ◌∙◌}
use Rattle.std.proofs.lemmas.List.{length_push}
use Rattle.std.proofs.lemmas.Result.{err_from_is_err_and}
use Rattle.sw_io.specs.declared.stop.ReadStop.TheVariants.{Failed, TooLong, Memory}
use Rattle.sw_io.proofs.Causes.{went_well, failed_so, failed_else}
use Rattle.sw_io.proofs.Reading.{reads_none, reads_on, reads_then_none}
use Rattle.sw_io.proofs.reader.Reader.rest.Goals as goal

pub loop-byte-init : goal.loop-byte-init
loop-byte-init g c = rw c.clear.ensures.items record { read = reads_none _ _; count = omega arith; fine = refl }

pub returns-in_err-byte-clause-err : goal.returns-in_err-byte-clause-err
returns-in_err-byte-clause-err g c =
    let p = err_from_is_err_and c.from_residual.result c.from_residual.ensures.1 in
    let i = c.loop-byte.invariant in
    let e = c.in_err-byte.ensures in
    rw (p.1, p.2) (
      c.loop-byte.out.items,
      reads_then_none _ _ _ _ _ _ _ i.read e.err.0,
      (i.count, e.err.1, omega (arith, e.cause.failed, i.fine)),
    )

pub returns-in_err-byte-clause-cause : goal.returns-in_err-byte-clause-cause
returns-in_err-byte-clause-cause g c =
    let p = err_from_is_err_and c.from_residual.result c.from_residual.ensures.1 in
    let i = c.loop-byte.invariant in
    let e = c.in_err-byte.ensures.cause in
    rw (p.1, p.2) (failed_so Failed _ _ (omega (arith, e.later, i.fine)) (omega (arith, e.failed, i.fine)))

pub returns-then-len-most-clause-err : goal.returns-then-len-most-clause-err
returns-then-len-most-clause-err g c =
    let e = rw c.in-Some.is at c.in_ok-byte.ensures.read in (
      c.loop-byte.out.items ++ c.in-Some.byte ∷ [],
      reads_on _ _ _ _ _ _ _ _ c.loop-byte.invariant.read e,
      omega (arith, length_push c.loop-byte.out.items c.in-Some.byte, c.len.ensures, c.if-len-most.true, c.loop-byte.out.ok.0),
    )

pub returns-then-len-most-clause-cause : goal.returns-then-len-most-clause-cause
returns-then-len-most-clause-cause g c = failed_else Failed _ _ TooLong (λ e. cc) (c.in_ok-byte.ensures.cause.fine ∙ c.loop-byte.invariant.fine)

pub loop-byte-smaller : goal.loop-byte-smaller
loop-byte-smaller g c =
    let n = ap length c.in_ok-push.ensures.items ∙ length_push c.loop-byte.out.items c.in-Some.byte in
    omega (arith, n, c.len.ensures, c.if-len-most.false, c.loop-byte.out.ok.0, c.loop-byte.invariant.count)

pub loop-byte-preserved : goal.loop-byte-preserved
loop-byte-preserved g c =
    let i = c.loop-byte.invariant in
    let e = rw c.in-Some.is at c.in_ok-byte.ensures.read in
    rw c.in_ok-push.ensures.items record {
      read = reads_on _ _ _ _ _ _ _ _ i.read e;
      count = omega (arith, length_push c.loop-byte.out.items c.in-Some.byte, c.len.ensures, c.if-len-most.false, c.loop-byte.out.ok.0, i.count);
      fine = c.in_ok-byte.ensures.cause.fine ∙ i.fine;
    }

pub returns-in_err-push-clause-err : goal.returns-in_err-push-clause-err
returns-in_err-push-clause-err g c =
    let p = err_from_is_err_and c.from_residual-in_err-push.result c.from_residual-in_err-push.ensures.1 in
    let e = rw c.in-Some.is at c.in_ok-byte.ensures.read in
    rw (p.1, p.2) (c.loop-byte.out.items ++ c.in-Some.byte ∷ [], reads_on _ _ _ _ _ _ _ _ c.loop-byte.invariant.read e, tt)

pub returns-in_err-push-clause-cause : goal.returns-in_err-push-clause-cause
returns-in_err-push-clause-cause g c =
    let p = err_from_is_err_and c.from_residual-in_err-push.result c.from_residual-in_err-push.ensures.1 in
    rw (p.1, p.2) (failed_else Failed _ _ Memory (λ e. cc) (c.in_ok-byte.ensures.cause.fine ∙ c.loop-byte.invariant.fine))

pub returns-clause-ok : goal.returns-clause-ok
returns-clause-ok g c =
    let i = c.loop-byte.invariant in
    let e = rw c.in_default.is at c.in_ok-byte.ensures in
    (reads_then_none _ _ _ _ _ _ _ i.read e.read, e.none.0, e.none.1, i.count)

pub returns-clause-cause : goal.returns-clause-cause
returns-clause-cause g c = went_well Failed _ _ _ (c.in_ok-byte.ensures.cause.fine ∙ c.loop-byte.invariant.fine)
