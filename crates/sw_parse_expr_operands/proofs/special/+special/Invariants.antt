use Rattle.std.proofs.Common.{◌≡◌, ◌+◌, ◌-◌, ◌*◌, length, map}
use Rattle.sw_parse_grammar.specs.Grammar.{many, prepend}
use Rattle.sw_parse_table.specs.Expressions.{special_item}
use Rattle.sw_parse_table.specs.Reads.{reader}
use Rattle.sw_parse_expr_nodes.specs.Views.{insert_of}
use Rattle.sw_parse_expr_operands.proofs.special.+special.Given as goal

abbrev pub decreases-special_parens_at : goal.decreases-special_parens_at
decreases-special_parens_at g l = 3 * l.levels

abbrev pub decreases-special_brackets_at : goal.decreases-special_brackets_at
decreases-special_brackets_at g l = 3 * l.levels

abbrev pub decreases-special_item_at : goal.decreases-special_item_at
decreases-special_item_at g l = 3 * l.levels + 1

abbrev pub decreases-special_items_at : goal.decreases-special_items_at
decreases-special_items_at g l = 3 * l.levels + 2

abbrev pub invariant-special_items_at-items : goal.invariant-special_items_at-items
invariant-special_items_at-items g l =
    prepend (map insert_of l.list) (reader l.source l.levels (many (special_item l.source)) l.place)
    ≡ reader l.source l.levels (many (special_item l.source)) l.at

abbrev pub decreases-special_items_at-items : goal.decreases-special_items_at-items
decreases-special_items_at-items g l = length l.source.lexemes.now - l.place
