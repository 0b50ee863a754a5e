use Rattle.std.proofs.Common.{◌≡◌, ◌-◌, length, map}
use Rattle.sw_parse_grammar.specs.Grammar.{sep, prepend}
use Rattle.sw_parse_terminals.specs.declared.terminal.Terminal.TheVariants.{Comma}
use Rattle.sw_parse_terminals.specs.Numbers.{just}
use Rattle.sw_parse_table.specs.Statements.{param}
use Rattle.sw_parse_table.specs.Reads.{reader}
use Rattle.sw_parse_statement_heads.specs.CallableRows.{parameter_part}
use Rattle.sw_parse_statement_heads.proofs.param.more_params_at.Given as goal

abbrev pub invariant-items : goal.invariant-items
invariant-items l =
    prepend (map parameter_part l.list) (reader l.source l.levels (sep (just Comma) (param l.source)) l.place)
    ≡ reader l.source l.levels (sep (just Comma) (param l.source)) l.at

abbrev pub decreases-items : goal.decreases-items
decreases-items l = length l.source.lexemes.now - l.place
