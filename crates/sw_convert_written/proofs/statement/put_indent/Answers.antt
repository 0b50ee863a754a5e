use Rattle.std.proofs.Common.{[], ◌∷◌}
use Rattle.std.proofs.lemmas.List.{append_assoc}
use Rattle.sw_convert_written.specs.Statements.{indent}
use Rattle.sw_convert_written.proofs.Tops.{indent_more}
use Rattle.sw_convert_written.proofs.statement.put_indent.Goals as goal

pub levels-preserved : goal.levels-preserved
levels-preserved c =
    rw (c.in_ok-put.ensures, c.levels.invariant, indent_more c.levels._at)
    (append_assoc c.args.out.now.items (indent c.levels._at) (32 ∷ 32 ∷ []))
