use Rattle.std.proofs.Common.{◌≡◌, ◌-◌, length, map}
use Rattle.sw_parse_grammar.specs.Grammar.{many, prepend}
use Rattle.sw_parse_table.specs.Parts.{Values}
use Rattle.sw_parse_table.specs.Expressions.{space_item}
use Rattle.sw_parse_table.specs.Reads.{reader}
use Rattle.sw_expr_parse.proofs.space.space_items_at.Given as goal

abbrev pub invariant-items : goal.invariant-items
invariant-items g l =
    prepend (map Values l.list.items) (reader l.source l.levels (many (space_item l.source)) l.place)
    ≡ reader l.source l.levels (many (space_item l.source)) l.at

abbrev pub decreases-items : goal.decreases-items
decreases-items g l = length l.source.lexemes.now - l.place
