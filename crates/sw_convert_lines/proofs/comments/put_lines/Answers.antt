use Rattle.std.proofs.Common.{◌++◌, ℕ, List, not, sym, ◌∙◌, ap, append_assoc}
use Rattle.sw_convert_lines.specs.Comments.{full_line, lines_in, lines_from}
use Rattle.sw_convert_lines.proofs.Trims.{lines_on, some_on}
use Rattle.std.proofs.Common.{◌+◌, drop}
use Rattle.sw_convert_lines.proofs.comments.put_lines.Goals as goal

pub lines-preserved : goal.lines-preserved
lines-preserved c =
    let text = c.args.text.now in
    let rest = lines_from c.args.level (not c.in_ok-some.some) (lines_in (drop (c.lines.at + (c.line_end-end.result + 1)) text)) in (
      ap (λ (t : List ℕ). t ++ rest) c.in_ok-some.ensures.text
          ∙ append_assoc c.lines.out.items (full_line c.args.level c.lines.some c.bare_line.result.now) rest
          ∙ ap (λ (t : List ℕ). c.lines.out.items ++ t)
          (sym (lines_on text c.rest_of-rest.result.now c.lines.at c.line_end-end.result c.lines.some c.in_ok-some.some c.bare_line.result.now c.rest_of-rest.ensures c.line_end-end.ensures.end c.bare_line.ensures c.in_ok-some.ensures.some c.args.level))
          ∙ c.lines.invariant.0,
      sym (some_on text c.rest_of-rest.result.now c.lines.at c.line_end-end.result c.lines.some c.in_ok-some.some c.bare_line.result.now c.rest_of-rest.ensures c.line_end-end.ensures.end c.bare_line.ensures c.in_ok-some.ensures.some)
          ∙ c.lines.invariant.1,
    )
