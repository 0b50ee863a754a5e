-- A word with a `:` behind it is a whole property.
use Rattle.std.proofs.Common.{◌≡◌, ℕ, ◌+◌, Bool, true, false, ◌||◌, [], ◌∷◌, refl, arith, eqb, length}
use Rattle.sw_parse_grammar.specs.Grammar.{skip, seq, member, Got}
use Rattle.sw_parse_grammar.proofs.Loops.{read_skip, read_act, read_both}
use Rattle.sw_parse_terminals.specs.declared.terminal.Terminal.TheVariants as T
use Rattle.sw_parse_terminals.specs.Numbers.{number_of, just}
use Rattle.sw_parse_table.specs.declared.source.Source.{Source}
use Rattle.sw_parse_table.specs.Parts.{Texts, Behind}
use Rattle.sw_parse_table.specs.Sources.{text_of, terminal_at, text_between}
use Rattle.sw_parse_table.specs.Table.{forms}
use Rattle.sw_parse_table.specs.Actions.{to_behind}
use Rattle.sw_parse_table.specs.Expressions.{word}
use Rattle.sw_parse_table.specs.Statements.{property}
use Rattle.sw_parse_table.specs.Reads.{reads}
use Rattle.sw_expr_parse.proofs.Alone.{word_alone}

only_one : (a : Bool) → (a || false) ≡ true → a ≡ true
only_one true e = refl
only_one false e = e

same_number : (a b : ℕ) → eqb a b ≡ true → a ≡ b
same_number a b e = grind (arith, e)

module _ (source : Source) (n at : ℕ) where
  by_terminals : terminal_at source at ≡ number_of T.Word → terminal_at source (at + 1) ≡ number_of T.Colon
      → reads source n property at ≡ Got (Texts (text_between source at (at + 1) []) ∷ Behind (at + 1 + 1) ∷ []) (at + 1 + 1)
  unfolding property
  by_terminals there behind =
      read_act (forms source) (text_of source) (length source.lexemes.now) n to_behind
      (seq (word source) (skip (just T.Colon))) at (at + 1 + 1) (Texts (text_between source at (at + 1) []) ∷ [])
      (read_both (forms source) (text_of source) (length source.lexemes.now) n (word source) (skip (just T.Colon)) at
      (at + 1) (at + 1 + 1) (Texts (text_between source at (at + 1) []) ∷ []) []
      (word_alone source n at there (rw behind refl))
      (read_skip (forms source) (text_of source) (length source.lexemes.now) n (just T.Colon) (at + 1) (rw behind refl)))

  pub property_plain : member (terminal_at source at) (just T.Word) ≡ true
      → member (terminal_at source (at + 1)) (just T.Colon) ≡ true
      → reads source n property at ≡ Got (Texts (text_between source at (at + 1) []) ∷ Behind (at + 1 + 1) ∷ []) (at + 1 + 1)
  property_plain there behind = by_terminals (same_number _ _ (only_one _ there)) (same_number _ _ (only_one _ behind))
