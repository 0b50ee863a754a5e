use Rattle.std.proofs.Common.{◌≡◌, List, ℕ, ◌++◌, reverse, sym, ◌∙◌, ap, append_assoc}
use Rattle.sw_tree.specs.declared.text.Piece.{Piece}
use Rattle.sw_parse_table.specs.Sources.{pieces_in, text_piece}
use Rattle.sw_parse_expr_nodes.proofs.TextPieces.{pieces_in_more}
use Rattle.sw_parse_expr_nodes.proofs.text.push_names.Goals as goal

pub texts-preserved : goal.texts-preserved
texts-preserved c =
    let text = c.in-Some.text in
    let front = pieces_in c.pop.new.self in
    ap (λ (x : List Piece). front ++ x) c.in_ok-push_name.ensures
    ∙ sym (append_assoc front (text_piece text) (reverse c.texts.pieces.items))
    ∙ ap (λ (x : List Piece). x ++ reverse c.texts.pieces.items) (sym (pieces_in_more c.pop.new.self text))
    ∙ ap (λ (x : List (List ℕ)). pieces_in x ++ reverse c.texts.pieces.items) (sym c.in-Some.ensures)
    ∙ c.texts.invariant
