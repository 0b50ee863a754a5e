use Rattle.std.proofs.Common.{◌≡◌, ◌-◌, length, map}
use Rattle.sw_parse_grammar.specs.Grammar.{many, prepend}
use Rattle.sw_parse_table.specs.Parts.{Members}
use Rattle.sw_parse_table.specs.Reads.{reader}
use Rattle.sw_parse_statement_text.specs.Rows.{comma_member}
use Rattle.sw_parse_statement_text.proofs.filter.members_at.Given as goal

abbrev pub invariant-items : goal.invariant-items
invariant-items l =
    prepend (map Members l.list) (reader l.source l.levels (many (comma_member l.source)) l.place)
    ≡ reader l.source l.levels (many (comma_member l.source)) l.at

abbrev pub decreases-items : goal.decreases-items
decreases-items l = length l.source.lexemes.now - l.place
