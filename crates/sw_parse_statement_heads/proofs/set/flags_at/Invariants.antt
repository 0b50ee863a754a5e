use Rattle.std.proofs.Common.{◌≡◌, ◌-◌, length, map}
use Rattle.sw_parse_grammar.specs.Grammar.{many, prepend}
use Rattle.sw_parse_table.specs.Parts.{Place}
use Rattle.sw_parse_table.specs.Reads.{reader}
use Rattle.sw_parse_statement_heads.specs.Rows.{flag_row}
use Rattle.sw_parse_statement_heads.proofs.set.flags_at.Given as goal

abbrev pub invariant-items : goal.invariant-items
invariant-items l =
    prepend (map Place l.list) (reader l.source l.levels (many (flag_row l.target)) l.place)
    ≡ reader l.source l.levels (many (flag_row l.target)) l.at

abbrev pub decreases-items : goal.decreases-items
decreases-items l = length l.source.lexemes.now - l.place
