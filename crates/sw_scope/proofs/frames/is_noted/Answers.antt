use Rattle.std.proofs.Common.{sym, ◌∙◌, ap, arith}
use Rattle.sw_scope.proofs.Indexes.{first_index, none_of}
use Rattle.sw_scope.proofs.frames.is_noted.Goals as goal

pub returns-else-is_some : goal.returns-else-is_some
returns-else-is_some c = λ e.
    sym (first_index c.args.marks.now _ c.index-marks-count.result (omega arith) (omega arith)) ∙ ap (λ m. m.index) (sym c.index-marks-count.is) ∙ none_of _ (sym c.is_some.ensures ∙ c.if-is_some.false)
