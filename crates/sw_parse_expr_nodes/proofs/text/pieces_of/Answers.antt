use Rattle.std.proofs.Common.{◌≡◌, List, ◌∷◌, ◌++◌, map, reverse, sym, ◌∙◌, ap, append_assoc}
use Rattle.sw_tree.specs.declared.text.Piece.{Piece}
use Rattle.sw_parse_table.specs.declared.gap.Stretch.{Stretch}
use Rattle.sw_parse_table.specs.Sources.{texts, pieces_from, text_pieces}
use Rattle.sw_parse_expr_nodes.specs.declared.build.Inserted.{Inserted}
use Rattle.sw_parse_expr_nodes.specs.Views.{insert_of, inserted_piece}
use Rattle.sw_parse_expr_nodes.proofs.TextPieces.{reverse_more, pieces_more, tail}
use Rattle.sw_parse_expr_nodes.proofs.text.pieces_of.Goals as goal

pub items-preserved : goal.items-preserved
items-preserved c =
    let s = c.args.source.now in
    let last = c.in-Some.last in
    let inserts = map insert_of c.pop.new.self in
    let front = pieces_from s c.up_to-before.result inserts in
    let rev = reverse c.items.pieces.items in
    let more : reverse c.push.new.self.items ≡ inserted_piece last ∷ reverse c.push_text.new.pieces.items =
    ap (λ (x : List Piece). reverse x) c.in_ok-push.ensures.items ∙ reverse_more c.push_text.new.pieces.items c.piece_of.result ∙ ap (λ (x : Piece). x ∷ reverse c.push_text.new.pieces.items) c.piece_of.ensures in
    record {
      pieces =
          ap (λ (x : List Piece). front ++ x) more
          ∙ ap (λ (x : List Piece). front ++ inserted_piece last ∷ x) c.in_ok-push_text.ensures
          ∙ ap (λ (x : Stretch). front ++ inserted_piece last ∷ (text_pieces (texts s x) ++ rev)) c.behind-tail.ensures.stretch
          ∙ sym (append_assoc front (tail s c.items.left last) rev)
          ∙ ap (λ (x : Stretch). (pieces_from s x inserts ++ tail s c.items.left last) ++ rev) c.up_to-before.ensures.stretch
          ∙ ap (λ (x : List Piece). x ++ rev) (sym (pieces_more s c.pop.new.self last c.items.left))
          ∙ ap (λ (x : List Inserted). pieces_from s c.items.left (map insert_of x) ++ rev) (sym c.in-Some.ensures)
          ∙ c.items.invariant.pieces;
      cut = c.up_to-before.ensures.cut;
    }
