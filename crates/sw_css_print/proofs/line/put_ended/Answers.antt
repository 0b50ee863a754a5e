use Rattle.std.proofs.Common.{◌-◌, codes, arith, ◌∙◌, ◌<◌}
use Rattle.sw_css_print.specs.Page.{indent, ended}
use Rattle.sw_css_print.proofs.Indents.{behind, ended_less}
use Rattle.sw_css_print.proofs.line.put_ended.Goals as goal

pub loop-depth-preserved : goal.loop-depth-preserved
loop-depth-preserved c =
    let lt : c.args.low < c.loop-depth.depth = omega arith in
    rw (c.in_ok-extend_from_slice.ensures.items, c.in_ok-put_indent.ensures)
    (behind c.loop-depth.out.items (indent (c.loop-depth.depth - 1)) (codes "}\n") (ended c.args.low (c.loop-depth.depth - 1)) ∙ (rw (← ended_less c.args.low c.loop-depth.depth lt) c.loop-depth.invariant))
