use Rattle.std.proofs.Common.{◌≡◌, ◌-◌, length, map}
use Rattle.sw_parse_grammar.specs.Grammar.{many, prepend}
use Rattle.sw_parse_table.specs.Reads.{reader}
use Rattle.sw_parse_expr_lists.specs.Inserts.{piece_of}
use Rattle.sw_parse_expr_nodes.specs.Views.{insert_of}
use Rattle.sw_parse_expr_lists.proofs.word.pieces_at.Given as goal

abbrev pub invariant-items : goal.invariant-items
invariant-items g l = prepend (map insert_of l.list) (reader l.source l.levels (many (piece_of l.source l.kind)) l.place) ≡ reader l.source l.levels (many (piece_of l.source l.kind)) l.at

abbrev pub decreases-items : goal.decreases-items
decreases-items g l = length l.source.lexemes.now - l.place
