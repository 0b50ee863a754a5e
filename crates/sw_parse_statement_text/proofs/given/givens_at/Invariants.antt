use Rattle.std.proofs.Common.{◌≡◌, ◌-◌, length, map}
use Rattle.sw_parse_grammar.specs.Grammar.{sep, prepend}
use Rattle.sw_parse_terminals.specs.declared.terminal.Terminal.TheVariants.{Comma}
use Rattle.sw_parse_terminals.specs.Numbers.{just}
use Rattle.sw_parse_table.specs.Parts.{Gives}
use Rattle.sw_parse_table.specs.Reads.{reader}
use Rattle.sw_parse_statement_text.specs.Loads.{given_row}
use Rattle.sw_parse_statement_text.proofs.given.givens_at.Given as goal

abbrev pub invariant-items : goal.invariant-items
invariant-items g l =
    prepend (map Gives l.list) (reader l.source l.levels (sep (just Comma) (given_row l.source l.load)) l.place)
    ≡ reader l.source l.levels (sep (just Comma) (given_row l.source l.load)) l.at

abbrev pub decreases-items : goal.decreases-items
decreases-items g l = length l.source.lexemes.now - l.place
