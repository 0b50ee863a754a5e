use Rattle.std.proofs.Common.{◌≡◌, ◌++◌, ◌≤◌, drop}
use Rattle.sw_parse_lexemes.specs.Lexemes.{lexemes_from, lexemes_by}
use Rattle.sw_parse_lexemes.proofs.pass.lexemes_by.Given as goal

abbrev pub invariant-tokens : goal.invariant-tokens
invariant-tokens l = record {
  lexemes : l.lexemes.items ++ lexemes_from l.plains l.state l.at (drop l.at l.plains) ≡ lexemes_by l.plains l.fn.first l.fn.from;
  ignored : l.state.ignored ≤ l.at;
}
