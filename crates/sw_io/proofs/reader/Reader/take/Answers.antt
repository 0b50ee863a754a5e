use Rattle.std.proofs.Common.{◌≡◌, [], length, take, arith, ap, refl, ◌∙◌}
use Rattle.std.proofs.lemmas.List.{length-take, length-append}
use Rattle.std.proofs.lemmas.Result.{err_from_is_err_and}
use Rattle.sw_io.specs.declared.stop.ReadStop.TheVariants.{Failed, Ended, Memory}
use Rattle.sw_io.proofs.Causes.{went_well, failed_so, failed_else}
use Rattle.sw_io.proofs.Reading.{empty, reads_none, reads_then_none, reads_then_take}
use Rattle.sw_io.proofs.reader.Reader.take.Goals as goal

pub loop-self-init : goal.loop-self-init
loop-self-init g c = rw c.clear.ensures.items record {
  read = reads_none _ _;
  most = omega arith;
  fine = refl;
}

pub returns-in_err-fill-clause-err : goal.returns-in_err-fill-clause-err
returns-in_err-fill-clause-err g c =
    let p = err_from_is_err_and c.from_residual.result c.from_residual.ensures.1 in
    let i = c.loop-self.invariant in
    let e = c.in_err-fill.ensures in
    rw (p.1, p.2) (
      c.loop-self.out.items,
      reads_then_none _ _ _ _ _ _ _ i.read e.read,
      (omega (arith, c.loop-self-test.true), e.err, omega (arith, e.cause.failed, i.fine)),
    )

pub returns-in_err-fill-clause-cause : goal.returns-in_err-fill-clause-cause
returns-in_err-fill-clause-cause g c =
    let p = err_from_is_err_and c.from_residual.result c.from_residual.ensures.1 in
    let i = c.loop-self.invariant in
    let e = c.in_err-fill.ensures.cause in
    rw (p.1, p.2) (failed_so Failed _ _ (omega (arith, e.later, i.fine)) (omega (arith, e.failed, i.fine)))

pub returns-then-taken-eq0-clause-err : goal.returns-then-taken-eq0-clause-err
returns-then-taken-eq0-clause-err g c =
    let i = c.loop-self.invariant in
    let e = c.in_ok-fill.ensures in
    let none : c.fill.new.self ≡ [] = empty _ (omega (arith, ap length c.ahead-piece.ensures, c.min-taken.ensures, c.if-taken-eq0.true, c.loop-self-test.true, c.len-in-loop-self.ensures, c.len.ensures)) in
    (c.loop-self.out.items, reads_then_none _ _ _ _ _ _ _ i.read e.read, (omega (arith, c.loop-self-test.true), none, e.ok none))

pub returns-then-taken-eq0-clause-cause : goal.returns-then-taken-eq0-clause-cause
returns-then-taken-eq0-clause-cause g c = failed_else Failed _ _ Ended (λ e. cc) (c.in_ok-fill.ensures.cause.fine ∙ c.loop-self.invariant.fine)

pub returns-in_err-extend_from_slice-clause-err : goal.returns-in_err-extend_from_slice-clause-err
returns-in_err-extend_from_slice-clause-err g c =
    let p = err_from_is_err_and c.from_residual-in_err-extend_from_slice.result c.from_residual-in_err-extend_from_slice.ensures.1 in
    let i = c.loop-self.invariant in
    rw (p.1, p.2) (c.loop-self.out.items, reads_then_none _ _ _ _ _ _ _ i.read c.in_ok-fill.ensures.read, tt)

pub returns-in_err-extend_from_slice-clause-cause :
    goal.returns-in_err-extend_from_slice-clause-cause
returns-in_err-extend_from_slice-clause-cause g c =
    let p = err_from_is_err_and c.from_residual-in_err-extend_from_slice.result c.from_residual-in_err-extend_from_slice.ensures.1 in
    rw (p.1, p.2) (failed_else Failed _ _ Memory (λ e. cc) (c.in_ok-fill.ensures.cause.fine ∙ c.loop-self.invariant.fine))

pub loop-self-smaller : goal.loop-self-smaller
loop-self-smaller g c =
    let n = simp (length-append, length-take) at (ap length c.in_ok-extend_from_slice.ensures.items) in
    omega (arith, n, c.min-taken.ensures, c.if-taken-eq0.false, c.len-in-loop-self.ensures, c.loop-self.out.ok.0)

pub loop-self-preserved : goal.loop-self-preserved
loop-self-preserved g c =
    let i = c.loop-self.invariant in
    let e = c.in_ok-fill.ensures in
    let k = c.min-taken.result in
    rw (c.consume.ensures, c.in_ok-extend_from_slice.ensures.items, c.ahead-piece.ensures) record {
      read = reads_then_take _ _ _ _ _ _ _ k i.read e.read;
      most = omega (arith, length-append c.loop-self.out.items (take k c.fill.new.self), length-take k c.fill.new.self, c.min-taken.ensures, c.len-in-loop-self.ensures, c.loop-self.out.ok.0, i.most);
      fine = e.cause.fine ∙ i.fine;
    }

pub returns-clause-ok : goal.returns-clause-ok
returns-clause-ok g c = let i = c.loop-self.invariant in (i.read, omega (arith, c.loop-self-test.false, i.most))

pub returns-clause-cause : goal.returns-clause-cause
returns-clause-cause g c = went_well Failed _ _ _ c.loop-self.invariant.fine
