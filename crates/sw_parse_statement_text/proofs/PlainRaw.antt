-- Tokens of raw text that stand in a row, with nothing inserted between them.
use Rattle.std.proofs.Common.{◌≡◌, ℕ, ◌+◌, Bool, true, false, ◌||◌, [], ◌∷◌, refl, sym, ◌∙◌, arith, eqb, length}
use Rattle.sw_parse_grammar.specs.Grammar.{Answer, Got, Unexpected, TooDeep, many, prepend, member}
use Rattle.sw_parse_grammar.proofs.Loops.{at_first, loop_step, loop_end, read_skip, read_act, read_both}
use Rattle.sw_parse_terminals.specs.declared.terminal.Terminal.TheVariants as T
use Rattle.sw_parse_terminals.specs.Numbers.{number_of, just}
use Rattle.sw_parse_table.specs.declared.source.Source.{Source}
use Rattle.sw_parse_table.specs.Parts.{Part, Texts}
use Rattle.sw_parse_table.specs.Sources.{text_of, terminal_at, text_between}
use Rattle.sw_parse_table.specs.Values.{to_text}
use Rattle.sw_parse_table.specs.Table.{forms}
use Rattle.sw_parse_table.specs.Statements.{raw_item, raw}
use Rattle.sw_parse_table.specs.Reads.{reader, reads}
use Rattle.sw_parse_table.proofs.Decided.{fit}
use Rattle.sw_parse_statement_text.specs.Rows.{raw_starts}
use Rattle.sw_parse_statement_text.proofs.Choices.{raw_items, item_raw}

prepend_nothing : (a : Answer Part) → prepend [] a ≡ a
prepend_nothing (Got u j) = refl
prepend_nothing (Unexpected k) = refl
prepend_nothing (TooDeep k) = refl

only_one : (a : Bool) → (a || false) ≡ true → a ≡ true
only_one true e = refl
only_one false e = e

same_number : (a b : ℕ) → eqb a b ≡ true → a ≡ b
same_number a b e = grind (arith, e)

begins : (k : ℕ) → member k (just T.Raw) ≡ true → member k raw_starts ≡ true
begins k e = let there : k ≡ number_of T.Raw = same_number _ _ (only_one _ e) in rw there refl

module _ (source : Source) (n : ℕ) where
  plain_item : (i : ℕ) → member (terminal_at source i) (just T.Raw) ≡ true → reads source n raw_item i ≡ Got [] (i + 1)
  plain_item i e =
      item_raw source n i e
      ∙ read_skip (forms source) (text_of source) (length source.lexemes.now) n (just T.Raw) i e

  pub plain_step : (at place : ℕ)
      → reader source n (many (raw_item source)) place ≡ reader source n (many (raw_item source)) at
      → member (terminal_at source place) (just T.Raw) ≡ true
      → reader source n (many (raw_item source)) (place + 1) ≡ reader source n (many (raw_item source)) at
  plain_step at place same e =
      sym (prepend_nothing _)
      ∙ loop_step (fit source) n (raw_item source) (raw_items source).all [] [] at place (place + 1)
      (prepend_nothing _ ∙ same)
      (at_first (raw_item source) _ _ true (raw_items source).starts (begins _ e)) (plain_item place e)

  -- the whole of it, where no raw text goes on behind
  pub plain_raw : (at place : ℕ) → member (terminal_at source at) (just T.Raw) ≡ true
      → reader source n (many (raw_item source)) place ≡ reader source n (many (raw_item source)) (at + 1)
      → member (terminal_at source place) raw_starts ≡ false
      → reads source n raw at ≡ Got (Texts (text_between source at place []) ∷ []) place
  unfolding raw
  plain_raw at place e same off =
      read_act (forms source) (text_of source) (length source.lexemes.now) n (to_text source) _ at place []
      (read_both (forms source) (text_of source) (length source.lexemes.now) n (raw_item source)
      (many (raw_item source)) at (at + 1) place [] [] (plain_item at e)
      (loop_end (fit source) n (raw_item source) (raw_items source).all [] (at + 1) place (prepend_nothing _ ∙ same)
      (at_first (raw_item source) _ _ false (raw_items source).starts off)))
