use Rattle.std.proofs.Common.{◌≡◌, ◌-◌, length, map}
use Rattle.sw_parse_grammar.specs.Grammar.{many, prepend}
use Rattle.sw_parse_table.specs.Parts.{States}
use Rattle.sw_parse_css.specs.Seen.{seen}
use Rattle.sw_parse_css.specs.Rows.{statement_of}
use Rattle.sw_parse_css.specs.Reads.{reader}
use Rattle.sw_parse_css.proofs.read.statements_by.Given as goal

abbrev pub invariant-items : goal.invariant-items
invariant-items g l =
    prepend (map States l.list) (reader (seen l.source) l.levels (many (statement_of (seen l.source) l.within)) l.place)
    ≡ reader (seen l.source) l.levels (many (statement_of (seen l.source) l.within)) l.at

abbrev pub decreases-items : goal.decreases-items
decreases-items g l = length l.source.lexemes.now - l.place
