use Rattle.std.proofs.Common.{◌≡◌, ◌-◌, length, map}
use Rattle.sw_parse_grammar.specs.Grammar.{many, prepend}
use Rattle.sw_parse_table.specs.Parts.{Signs}
use Rattle.sw_parse_table.specs.Expressions.{prefix}
use Rattle.sw_parse_table.specs.Reads.{reader}
use Rattle.sw_parse_expr_lists.proofs.sign.prefixes_at.Given as goal

abbrev pub invariant-items : goal.invariant-items
invariant-items l = prepend (map Signs l.list.items) (reader l.source l.levels (many (prefix l.source)) l.place) ≡ reader l.source l.levels (many (prefix l.source)) l.at

abbrev pub decreases-items : goal.decreases-items
decreases-items l = length l.source.lexemes.now - l.place
