use Rattle.std.proofs.Common.{◌≡◌, ◌-◌, length, map}
use Rattle.sw_parse_grammar.specs.Grammar.{many, prepend}
use Rattle.sw_parse_table.specs.Parts.{Branches}
use Rattle.sw_parse_table.specs.Statements.{else_if}
use Rattle.sw_parse_table.specs.Reads.{reader}
use Rattle.sw_parse_statement_blocks.proofs.branch.else_ifs_at.Given as goal

abbrev pub invariant-items : goal.invariant-items
invariant-items g l =
    prepend (map Branches l.list) (reader l.source l.levels (many (else_if l.source)) l.place)
    ≡ reader l.source l.levels (many (else_if l.source)) l.at

abbrev pub decreases-items : goal.decreases-items
decreases-items g l = length l.source.lexemes.now - l.place
