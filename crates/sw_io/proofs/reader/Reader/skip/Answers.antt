use Rattle.std.proofs.Common.{◌≡◌, [], ◌++◌, length, take, arith, ap, refl, ◌∙◌}
use Rattle.std.proofs.lemmas.List.{length-take, length-append}
use Rattle.std.proofs.lemmas.Result.{err_from_is_err_and}
use Rattle.sw_io.specs.declared.stop.ReadStop.TheVariants.{Failed, Ended}
use Rattle.sw_io.proofs.Causes.{went_well, failed_so, failed_else}
use Rattle.sw_io.proofs.Reading.{empty, reads_none, reads_then_none, reads_then_take}
use Rattle.sw_io.proofs.reader.Reader.skip.Goals as goal

pub loop-left-init : goal.loop-left-init
loop-left-init g c = record { used = ([], reads_none _ _, omega arith); fine = refl }

pub returns-in_err-fill-clause-err : goal.returns-in_err-fill-clause-err
returns-in_err-fill-clause-err g c =
    let p = err_from_is_err_and c.from_residual.result c.from_residual.ensures.1 in
    let i = c.loop-left.invariant in
    let e = c.in_err-fill.ensures in
    rw (p.1, p.2) (
      i.used.0,
      reads_then_none _ _ _ _ _ _ _ i.used.1 e.read,
      (omega (arith, c.loop-left-test.true, i.used.2), e.err, omega (arith, e.cause.failed, i.fine)),
    )

pub returns-in_err-fill-clause-cause : goal.returns-in_err-fill-clause-cause
returns-in_err-fill-clause-cause g c =
    let p = err_from_is_err_and c.from_residual.result c.from_residual.ensures.1 in
    let i = c.loop-left.invariant in
    let e = c.in_err-fill.ensures.cause in
    rw (p.1, p.2) (failed_so Failed _ _ (omega (arith, e.later, i.fine)) (omega (arith, e.failed, i.fine)))

pub returns-then-taken-eq0-clause-err : goal.returns-then-taken-eq0-clause-err
returns-then-taken-eq0-clause-err g c =
    let i = c.loop-left.invariant in
    let e = c.in_ok-fill.ensures in
    let none : c.fill.new.self ≡ [] = empty _ (omega (arith, ap length c.ahead.ensures, c.min-taken.ensures, c.if-taken-eq0.true, c.loop-left-test.true)) in
    (i.used.0, reads_then_none _ _ _ _ _ _ _ i.used.1 e.read, (omega (arith, c.loop-left-test.true, i.used.2), none, e.ok none))

pub returns-then-taken-eq0-clause-cause : goal.returns-then-taken-eq0-clause-cause
returns-then-taken-eq0-clause-cause g c = failed_else Failed _ _ Ended (λ e. cc) (c.in_ok-fill.ensures.cause.fine ∙ c.loop-left.invariant.fine)

pub loop-left-preserved : goal.loop-left-preserved
loop-left-preserved g c =
    let i = c.loop-left.invariant in
    let e = c.in_ok-fill.ensures in
    let k = c.min-taken.result in
    rw c.consume.ensures record {
      used = (
        i.used.0 ++ take k c.fill.new.self,
        reads_then_take _ _ _ _ _ _ _ k i.used.1 e.read,
        omega (arith, length-append i.used.0 (take k c.fill.new.self), length-take k c.fill.new.self, ap length c.ahead.ensures, c.min-taken.ensures, i.used.2),
      );
      fine = e.cause.fine ∙ i.fine;
    }

pub returns-clause-ok : goal.returns-clause-ok
returns-clause-ok g c = let i = c.loop-left.invariant in (i.used.0, i.used.1, omega (arith, c.loop-left-test.false, i.used.2))

pub returns-clause-cause : goal.returns-clause-cause
returns-clause-cause g c = went_well Failed _ _ _ c.loop-left.invariant.fine
