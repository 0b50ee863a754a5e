use Rattle.std.proofs.Common.{◌≡◌, ◌+◌, drop, arith}
use Rattle.sw_css_print.specs.Page.{shared}
use Rattle.sw_css_print.proofs.Indents.{shared_past}
use Rattle.sw_css_print.proofs.line.shared.Goals as goal

pub returns-else-count-other : goal.returns-else-count-other
returns-else-count-other c =
    let past : shared (drop c.loop-count.count c.args.one.now) (drop c.loop-count.count c.args.other.now) ≡ 0 = shared_past c.args.one.now c.args.other.now c.loop-count.count (omega arith) in
    let all : c.loop-count.count + shared (drop c.loop-count.count c.args.one.now) (drop c.loop-count.count c.args.other.now) ≡ shared c.args.one.now c.args.other.now = c.loop-count.invariant in
    omega arith
