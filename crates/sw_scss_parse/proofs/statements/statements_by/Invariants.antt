use Rattle.std.proofs.Common.{◌≡◌, ◌-◌, length, map}
use Rattle.sw_parse_grammar.specs.Grammar.{many, prepend}
use Rattle.sw_parse_table.specs.Parts.{States}
use Rattle.sw_parse_table.specs.Statements.{statement}
use Rattle.sw_parse_table.specs.Reads.{reader}
use Rattle.sw_scss_parse.proofs.statements.statements_by.Given as goal

abbrev pub invariant-items : goal.invariant-items
invariant-items g l =
    prepend (map States l.list.items) (reader l.source l.levels (many (statement l.source)) l.place)
    ≡ reader l.source l.levels (many (statement l.source)) l.at

abbrev pub decreases-items : goal.decreases-items
decreases-items g l = length l.source.lexemes.now - l.place
