-- What loops cite of their items.
use Rattle.std.proofs.Common.{◌≡◌, ℕ, true, ◌++◌, length}
use Rattle.sw_parse_grammar.specs.Grammar.{member, without, Answer}
use Rattle.sw_parse_grammar.specs.Readers.{Fails}
use Rattle.sw_parse_grammar.specs.declared.ReadError.{ReadError}
use Rattle.sw_parse_grammar.proofs.Seps.{guarded, guarded_fails}
use Rattle.sw_parse_terminals.specs.Numbers.{just}
use Rattle.sw_parse_table.specs.declared.source.Source.{Source}
use Rattle.sw_parse_table.specs.Parts.{Part}
use Rattle.sw_parse_table.specs.Sources.{text_of, terminal_at}
use Rattle.sw_parse_table.specs.Sets.{endings, starts}
use Rattle.sw_parse_table.specs.Table.{forms}
use Rattle.sw_parse_table.specs.Expressions.{url_item, word_part, part_insert, insert, space, list_item}
use Rattle.sw_parse_table.specs.Reads.{reader}
use Rattle.sw_parse_table.proofs.Decided.{Repeats, loops}
use Rattle.sw_parse_expr_lists.specs.declared.word.Pieces.{Pieces}
use Rattle.sw_parse_expr_lists.specs.declared.word.Pieces.TheVariants as kinds
use Rattle.sw_parse_expr_lists.specs.Inserts.{piece_of, plain_of, opening_of}

module _ (source : Source) where
  pub piece_repeats : (kind : Pieces) → Repeats source (piece_of source kind) (just (plain_of kind) ++ just
      (opening_of kind))
  unfolding url_item word_part part_insert insert
  piece_repeats kinds.Url = (loops source).url_items
  piece_repeats kinds.Word = (loops source).word_parts

  -- an item of a list with commas is a space list where no ending stands
  pub list_item_read : (n i : ℕ) (a : Answer Part) → member (terminal_at source i) (without endings starts) ≡ true
      → reader source n (space source) i ≡ a → reader source n (list_item source) i ≡ a
  unfolding list_item
  list_item_read n i a at e =
      guarded (forms source) (text_of source) (length source.lexemes.now) n endings _ (space source) i a
      (loops source).list_items.starts at e

  pub list_item_fails : (n i : ℕ) (e : ReadError) → member (terminal_at source i) (without endings starts) ≡ true
      → Fails e (reader source n (space source) i) → Fails e (reader source n (list_item source) i)
  unfolding list_item
  list_item_fails n i e at x =
      guarded_fails (forms source) (text_of source) (length source.lexemes.now) n endings _ (space source) i e
      (loops source).list_items.starts at x
