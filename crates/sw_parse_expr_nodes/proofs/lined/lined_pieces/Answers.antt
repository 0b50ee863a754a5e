use Rattle.std.proofs.Common.{◌≡◌, List, ◌∷◌, ◌++◌, map, reverse, sym, ◌∙◌, ap, append_assoc}
use Rattle.sw_tree.specs.declared.text.Piece.{Piece}
use Rattle.sw_parse_table.specs.Sources.{text_piece}
use Rattle.sw_parse_table.specs.Lined.{lined_pieces}
use Rattle.sw_parse_expr_nodes.specs.declared.build.Inserted.{Inserted}
use Rattle.sw_parse_expr_nodes.specs.Views.{insert_of, inserted_piece}
use Rattle.sw_parse_expr_nodes.proofs.TextPieces.{reverse_more, lined_pieces_more, lined_tail}
use Rattle.sw_parse_expr_nodes.proofs.lined.lined_pieces.Goals as goal

pub items-preserved : goal.items-preserved
items-preserved c =
    let s = c.args.source.now in
    let at = c.args.at in
    let last = c.in-Some.last in
    let inserts = map insert_of c.pop.new.self in
    let front = lined_pieces s at at last.from inserts in
    let rev = reverse c.items.pieces.items in
    let more : reverse c.push.new.self.items ≡ inserted_piece last ∷ reverse c.push_name.new.pieces.items =
    ap (λ (x : List Piece). reverse x) c.in_ok-push.ensures.items ∙ reverse_more c.push_name.new.pieces.items c.piece_of.result ∙ ap (λ (x : Piece). x ∷ reverse c.push_name.new.pieces.items) c.piece_of.ensures in
    ap (λ (x : List Piece). front ++ x) more
    ∙ ap (λ (x : List Piece). front ++ inserted_piece last ∷ x) c.in_ok-push_name.ensures
    ∙ ap (λ x. front ++ inserted_piece last ∷ (text_piece x ++ rev)) c.in_ok-tail.ensures
    ∙ sym (append_assoc front (lined_tail s at c.items.end last) rev)
    ∙ ap (λ (x : List Piece). x ++ rev) (sym (lined_pieces_more s c.pop.new.self last at at c.items.end))
    ∙ ap (λ (x : List Inserted). lined_pieces s at at c.items.end (map insert_of x) ++ rev) (sym c.in-Some.ensures)
    ∙ c.items.invariant
