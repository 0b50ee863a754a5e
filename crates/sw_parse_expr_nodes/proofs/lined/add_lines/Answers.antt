use Rattle.std.proofs.Common.{◌+◌, ◌-◌, List, ℕ, ◌++◌, ap, ◌∙◌, string_bytes}
use Rattle.sw_parse_table.specs.Lined.{lines_from}
use Rattle.sw_parse_expr_nodes.proofs.TextPieces.{lines_more}
use Rattle.sw_parse_expr_nodes.proofs.lined.add_lines.Goals as goal

pub places-preserved : goal.places-preserved
places-preserved c =
    let s = c.args.source.now in
    let at = c.args.at in
    let rest = lines_from s at (c.places.place + 1) (c.args.to - (c.places.place + 1)) in
    ap (λ (x : List ℕ). x ++ rest) c.in_ok-push_str.ensures.bytes
    ∙ ap (λ (x : List ℕ). (string_bytes c.places.text ++ x) ++ rest) c.line_part.ensures
    ∙ lines_more s (string_bytes c.places.text) _ at c.places.place c.args.to c.places-test.true c.places.invariant
