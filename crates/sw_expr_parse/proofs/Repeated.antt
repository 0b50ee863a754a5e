-- An item of a space list is an operand with any operators, where no ending stands.
use Rattle.std.proofs.Common.{◌≡◌, ℕ, true, length}
use Rattle.sw_parse_grammar.specs.Grammar.{member, without, Answer}
use Rattle.sw_parse_grammar.specs.Readers.{Fails}
use Rattle.sw_parse_grammar.specs.declared.ReadError.{ReadError}
use Rattle.sw_parse_grammar.proofs.Seps.{guarded, guarded_fails}
use Rattle.sw_parse_table.specs.declared.source.Source.{Source}
use Rattle.sw_parse_table.specs.Parts.{Part}
use Rattle.sw_parse_table.specs.Sources.{text_of, terminal_at}
use Rattle.sw_parse_table.specs.Sets.{endings, starts}
use Rattle.sw_parse_table.specs.Table.{forms}
use Rattle.sw_parse_table.specs.Expressions.{space_item, disjunction}
use Rattle.sw_parse_table.specs.Reads.{reader}
use Rattle.sw_parse_table.proofs.Decided.{loops}

module _ (source : Source) (n : ℕ) (i : ℕ) where
  pub item_read : (a : Answer Part) → member (terminal_at source i) (without endings starts) ≡ true
      → reader source n (disjunction source) i ≡ a → reader source n (space_item source) i ≡ a
  unfolding space_item
  item_read a at e =
      guarded (forms source) (text_of source) (length source.lexemes.now) n endings _ (disjunction source) i a
      (loops source).space_items.starts at e

  pub item_fails : (e : ReadError) → member (terminal_at source i) (without endings starts) ≡ true
      → Fails e (reader source n (disjunction source) i) → Fails e (reader source n (space_item source) i)
  unfolding space_item
  item_fails e at x =
      guarded_fails (forms source) (text_of source) (length source.lexemes.now) n endings _ (disjunction source) i e
      (loops source).space_items.starts at x
