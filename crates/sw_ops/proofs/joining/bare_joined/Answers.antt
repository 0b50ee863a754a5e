use Rattle.sw_ops.specs.Joined.{bare}
use Rattle.sw_ops.proofs.Heavy.{left_fault, right_fault}
use Rattle.sw_ops.proofs.joining.bare_joined.Goals as goal

pub returns-in-Err : goal.returns-in-Err
returns-in-Err c = left_fault _ _ _ (bare c.args.a.now) (bare c.args.b.now) (rw (← c.is_bare.ensures, ← c.is_bare-2.ensures, ← c.both.ensures) c.if-not-both.false) c.in-Err.ensures

pub returns-in-Err-bare : goal.returns-in-Err-bare
returns-in-Err-bare c = right_fault _ _ _ (bare c.args.a.now) (bare c.args.b.now) (rw (← c.is_bare.ensures, ← c.is_bare-2.ensures, ← c.both.ensures) c.if-not-both.false) c.in-Err-bare.ensures
