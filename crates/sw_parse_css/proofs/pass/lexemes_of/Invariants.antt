use Rattle.std.proofs.Common.{◌≡◌, ◌-◌, ◌++◌, length, drop, All}
use Rattle.sw_parse_terminals.specs.Lies.{LexemeLies}
use Rattle.sw_parse_css.specs.Lexemes.{lexemes_from, lexemes_of}
use Rattle.sw_parse_css.proofs.pass.lexemes_of.Given as goal

abbrev pub invariant-tokens : goal.invariant-tokens
invariant-tokens l = record {
  lexemes : l.lexemes.items ++ lexemes_from l.tokens.sheet.bytes l.state l.at (drop l.at l.tokens.list) ≡ lexemes_of l.tokens.sheet.bytes l.tokens.list;
  lie : All (LexemeLies l.tokens.sheet.bytes) l.lexemes.items;
}

abbrev pub decreases-tokens : goal.decreases-tokens
decreases-tokens l = length l.tokens.list - l.at
