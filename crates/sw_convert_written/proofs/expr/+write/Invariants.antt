use Rattle.std.proofs.Common.{◌≡◌, ◌≤◌, true, [], ◌++◌, length, drop, map}
use Rattle.sw_convert_written.specs.Expressions.{with_commas, links_text, items_behind, argument_text, expr_text, link_shown, pair_text, piece_written}
use Rattle.sw_convert_written.specs.Pieces.{pieces_text}
use Rattle.sw_convert_written.proofs.expr.+write.Given as goal

abbrev pub invariant-put_pieces-pieces : goal.invariant-put_pieces-pieces
invariant-put_pieces-pieces l =
    l.out.items ++ pieces_text l.manner (map piece_written (drop l.i l.pieces))
    ≡ l.initial.out.items ++ pieces_text l.manner (map piece_written l.pieces)

abbrev pub invariant-put_arguments-arguments : goal.invariant-put_arguments-arguments
invariant-put_arguments-arguments l =
    l.out.items ++ with_commas l.first (map argument_text (drop l.argument-index l.arguments))
    ≡ l.initial.out.items ++ with_commas true (map argument_text l.arguments)

abbrev pub invariant-put_links-links : goal.invariant-put_links-links
invariant-put_links-links l =
    (l.start ≤ length l.out.items)
    × (l.out.items ++ links_text l.quotient (drop l.start l.out.items) (map link_shown (drop l.link-index l.rest))
    ≡ l.initial.out.items ++ links_text l.quotient (drop l.initial.start l.initial.out.items) (map link_shown l.rest))

abbrev pub invariant-put_items-items : goal.invariant-put_items-items
invariant-put_items-items l =
    (l.start ≤ length l.out.items)
    × (l.out.items ++ items_behind l.separator l.first (drop l.start l.out.items) (map expr_text (drop l.item-index l.items))
    ≡ l.initial.out.items ++ items_behind l.separator true [] (map expr_text l.items))

abbrev pub invariant-put_pairs-pairs : goal.invariant-put_pairs-pairs
invariant-put_pairs-pairs l =
    l.out.items ++ with_commas l.first (map pair_text (drop l.pair-index l.pairs))
    ≡ l.initial.out.items ++ with_commas true (map pair_text l.pairs)
