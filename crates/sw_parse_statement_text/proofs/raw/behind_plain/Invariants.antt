use Rattle.std.proofs.Common.{◌≡◌, ℕ, ◌-◌, length}
use Rattle.sw_parse_grammar.specs.Grammar.{many}
use Rattle.sw_parse_table.specs.Statements.{raw_item}
use Rattle.sw_parse_table.specs.Reads.{reader}
use Rattle.sw_parse_statement_text.proofs.raw.behind_plain.Given as goal

abbrev pub invariant-items : goal.invariant-items
invariant-items l =
    (levels : ℕ) → reader l.source levels (many (raw_item l.source)) l.place
    ≡ reader l.source levels (many (raw_item l.source)) l.at

abbrev pub decreases-items : goal.decreases-items
decreases-items l = length l.source.lexemes.now - l.place
