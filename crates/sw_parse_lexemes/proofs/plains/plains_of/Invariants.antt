use Rattle.std.proofs.Common.{◌≡◌, ◌-◌, ◌++◌, length, drop, All}
use Rattle.sw_parse_lexemes.specs.Cursors.{Stands}
use Rattle.sw_parse_lexemes.specs.Plains.{plains_from, plains_of, PlainLies}
use Rattle.sw_parse_lexemes.proofs.plains.plains_of.Given as goal

abbrev pub invariant-tokens : goal.invariant-tokens
invariant-tokens l = record {
  plains : l.plains.items ++ plains_from l.tokens.sheet.bytes l.gap (drop l.at l.tokens.list) ≡ plains_of l.tokens.sheet.bytes l.tokens.list;
  lie : All (PlainLies l.tokens.sheet.bytes) l.plains.items;
  text : l.text.sheet.now ≡ l.tokens.sheet;
  near : Stands l.text.bytes.now l.gap l.near;
}

abbrev pub decreases-tokens : goal.decreases-tokens
decreases-tokens l = length l.tokens.list - l.at
