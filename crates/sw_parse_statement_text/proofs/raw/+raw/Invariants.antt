use Rattle.std.proofs.Common.{◌≡◌, ◌+◌, ◌-◌, ◌*◌, length, map}
use Rattle.sw_parse_grammar.specs.Grammar.{many, prepend}
use Rattle.sw_parse_table.specs.Statements.{raw_item}
use Rattle.sw_parse_table.specs.Reads.{reader}
use Rattle.sw_parse_expr_nodes.specs.Views.{insert_of}
use Rattle.sw_parse_statement_text.proofs.raw.+raw.Given as goal

abbrev pub decreases-raw_group_at : goal.decreases-raw_group_at
decreases-raw_group_at g l = 3 * l.levels

abbrev pub decreases-raw_item_at : goal.decreases-raw_item_at
decreases-raw_item_at g l = 3 * l.levels + 1

abbrev pub decreases-raw_items_at : goal.decreases-raw_items_at
decreases-raw_items_at g l = 3 * l.levels + 2

abbrev pub invariant-raw_items_at-items : goal.invariant-raw_items_at-items
invariant-raw_items_at-items g l =
    prepend (map insert_of l.list) (reader l.source l.levels (many (raw_item l.source)) l.place)
    ≡ reader l.source l.levels (many (raw_item l.source)) l.at

abbrev pub decreases-raw_items_at-items : goal.decreases-raw_items_at-items
decreases-raw_items_at-items g l = length l.source.lexemes.now - l.place
