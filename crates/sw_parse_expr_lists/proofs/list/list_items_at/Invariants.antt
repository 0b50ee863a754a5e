use Rattle.std.proofs.Common.{◌≡◌, ◌-◌, length, map}
use Rattle.sw_parse_grammar.specs.Grammar.{sep, prepend}
use Rattle.sw_parse_terminals.specs.declared.terminal.Terminal.TheVariants.{Comma}
use Rattle.sw_parse_terminals.specs.Numbers.{just}
use Rattle.sw_parse_table.specs.Parts.{Values}
use Rattle.sw_parse_table.specs.Expressions.{list_item}
use Rattle.sw_parse_table.specs.Reads.{reader}
use Rattle.sw_parse_expr_lists.proofs.list.list_items_at.Given as goal

abbrev pub invariant-items : goal.invariant-items
invariant-items g l = prepend (map Values l.list.items) (reader l.source l.levels (sep (just Comma) (list_item l.source)) l.place) ≡ reader l.source l.levels (sep (just Comma) (list_item l.source)) l.at

abbrev pub decreases-items : goal.decreases-items
decreases-items g l = length l.source.lexemes.now - l.place
