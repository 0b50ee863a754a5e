use Rattle.std.proofs.Common.{[], ◌∷◌}
use Rattle.std.proofs.lemmas.List.{append_assoc}
use Rattle.sw_css_print.specs.Page.{indent}
use Rattle.sw_css_print.proofs.Indents.{indent_more}
use Rattle.sw_css_print.proofs.line.put_indent.Goals as goal

pub loop-at-preserved : goal.loop-at-preserved
loop-at-preserved c = rw (c.in_ok-extend_from_slice.ensures.items, c.loop-at.invariant, indent_more c.loop-at._at) (append_assoc c.args.out.now.items (indent c.loop-at._at) (32 ∷ 32 ∷ []))
