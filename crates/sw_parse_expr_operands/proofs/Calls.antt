-- A word, and a word with arguments directly behind it.
use Rattle.std.proofs.Common.{◌≡◌, ℕ, true, false, List, [], ◌++◌, refl, ◌∙◌, length}
use Rattle.sw_parse_grammar.specs.Grammar.{alt, seq, empty, first, member, Got}
use Rattle.sw_parse_grammar.specs.Readers.{parse, Fails}
use Rattle.sw_parse_grammar.specs.declared.ReadError.{ReadError}
use Rattle.sw_parse_grammar.proofs.Loops.{at_first, fails_left, fails_act, fails_first, fails_seq, read_act, read_both}
use Rattle.sw_parse_terminals.specs.declared.terminal.Terminal.TheVariants.{CallParen}
use Rattle.sw_parse_terminals.specs.Numbers.{just}
use Rattle.sw_parse_table.specs.declared.source.Source.{Source}
use Rattle.sw_parse_table.specs.Parts.{Part}
use Rattle.sw_parse_table.specs.Sources.{text_of, terminal_at}
use Rattle.sw_parse_table.specs.Values.{to_called}
use Rattle.sw_parse_table.specs.Table.{forms}
use Rattle.sw_parse_table.specs.Expressions.{word, arguments_in, called}
use Rattle.sw_parse_table.specs.Reads.{reader, reads}
use Rattle.sw_parse_expr_lists.proofs.Choices.{goes_left, goes_right}

module _ (source : Source) (n : ℕ) where
  arguments_first : first (arguments_in source) ≡ just CallParen
  unfolding arguments_in
  arguments_first = refl

  empty_read : (i : ℕ) → reader source n empty i ≡ Got [] i
  unfolding parse
  empty_read i = refl

  pub called_fails : (i : ℕ) (e : ReadError) → Fails e (reads source n word i) → Fails e (reads source n called i)
  unfolding called
  called_fails i e x =
      fails_act (forms source) (text_of source) (length source.lexemes.now) n (to_called source) (seq (word source) (alt
      (arguments_in source) empty)) i e
      (fails_first (forms source) (text_of source) (length source.lexemes.now) n (word source) (alt
      (arguments_in source) empty) i e x)

  pub called_word : (i p : ℕ) (u : List Part) → reads source n word i ≡ Got u p
      → member (terminal_at source p) (just CallParen) ≡ false → reads source n called i ≡ Got (to_called source i p
      (u ++ [])) p
  unfolding called
  called_word i p u w off =
      read_act (forms source) (text_of source) (length source.lexemes.now) n (to_called source) (seq (word source) (alt
      (arguments_in source) empty)) i p (u ++ [])
      (read_both (forms source) (text_of source) (length source.lexemes.now) n (word source) (alt
      (arguments_in source) empty) i p p u [] w
      (goes_right source n (arguments_in source) empty (just CallParen) p arguments_first off ∙ empty_read p))

  pub called_arguments_fail : (i p : ℕ) (u : List Part) (e : ReadError) → reads source n word i ≡ Got u p
      → member (terminal_at source p) (just CallParen) ≡ true → Fails e (reads source n arguments_in p) → Fails e
      (reads source n called i)
  unfolding called
  called_arguments_fail i p u e w on x =
      fails_act (forms source) (text_of source) (length source.lexemes.now) n (to_called source) (seq (word source) (alt
      (arguments_in source) empty)) i e
      (fails_seq (forms source) (text_of source) (length source.lexemes.now) n (word source) (alt
      (arguments_in source) empty) i p u e w
      (fails_left (forms source) (text_of source) (length source.lexemes.now) n (arguments_in source) empty p e
      (at_first (arguments_in source) (just CallParen) (terminal_at source p) true arguments_first on) x))

  pub called_call : (i p q : ℕ) (u v : List Part) → reads source n word i ≡ Got u p
      → member (terminal_at source p) (just CallParen) ≡ true → reads source n arguments_in p ≡ Got v q
      → reads source n called i ≡ Got (to_called source i q (u ++ v)) q
  unfolding called
  called_call i p q u v w on r =
      read_act (forms source) (text_of source) (length source.lexemes.now) n (to_called source) (seq (word source) (alt
      (arguments_in source) empty)) i q (u ++ v)
      (read_both (forms source) (text_of source) (length source.lexemes.now) n (word source) (alt
      (arguments_in source) empty) i p q u v w
      (goes_left source n (arguments_in source) empty (just CallParen) p arguments_first on ∙ r))
