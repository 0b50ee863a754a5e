use Rattle.std.proofs.Common.{◌≡◌, ◌-◌, length, map}
use Rattle.sw_parse_grammar.specs.Grammar.{sep, prepend}
use Rattle.sw_parse_terminals.specs.declared.terminal.Terminal.TheVariants.{Comma}
use Rattle.sw_parse_terminals.specs.Numbers.{just}
use Rattle.sw_parse_table.specs.Parts.{Argues}
use Rattle.sw_parse_table.specs.Expressions.{argument}
use Rattle.sw_parse_table.specs.Reads.{reader}
use Rattle.sw_parse_expr_lists.proofs.argument.arguments_at.Given as goal

abbrev pub invariant-items : goal.invariant-items
invariant-items g l = prepend (map Argues l.list.items) (reader l.source l.levels (sep (just Comma) (argument l.source)) l.place) ≡ reader l.source l.levels (sep (just Comma) (argument l.source)) l.at

abbrev pub decreases-items : goal.decreases-items
decreases-items g l = length l.source.lexemes.now - l.place
