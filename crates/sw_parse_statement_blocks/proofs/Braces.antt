-- How a block is read between its braces, of what is read of the statements in it.
use Rattle.std.proofs.Common.{◌≡◌, ℕ, ◌+◌, ◌-◌, ◌≤◌, true, false, List, [], ◌∷◌, map, refl, sym, ap, ◌∙◌, length}
use Rattle.sw_parse_grammar.specs.Grammar.{Grammar, Answer, Got, Unexpected, group, anywhere, member}
use Rattle.sw_parse_grammar.specs.Readers.{Fails}
use Rattle.sw_parse_grammar.specs.declared.ReadError.{ReadError}
use Rattle.sw_parse_grammar.specs.declared.ReadError.TheVariants as ends
use Rattle.sw_parse_grammar.proofs.Loops.{read_act, fails_act, group_got, group_unclosed, group_fails}
use Rattle.sw_parse_terminals.specs.declared.terminal.Terminal.TheVariants as T
use Rattle.sw_parse_terminals.specs.Numbers.{just}
use Rattle.sw_tree.specs.declared.statement.Statement.{Statement}
use Rattle.sw_parse_table.specs.declared.source.Source.{Source}
use Rattle.sw_parse_table.specs.Sources.{terminal_at, text_of}
use Rattle.sw_parse_table.specs.Table.{forms}
use Rattle.sw_parse_table.specs.Parts.{Part, Form, Block, Blocks, States, statements_of}
use Rattle.sw_parse_table.specs.Statements.{block}
use Rattle.sw_parse_table.specs.Actions.{to_block}
use Rattle.sw_parse_table.specs.Reads.{reader, reads}
use Rattle.sw_parse_statement_blocks.specs.Inner.{statements}

statements_of_statements : (xs : List Statement) → statements_of (map States xs) ≡ xs
statements_of_statements [] = refl
statements_of_statements (x ∷ xs) = ap (λ (y : List Statement). x ∷ y) (statements_of_statements xs)

abbrev braced : Grammar Part Form
braced = group (just T.Open) Block (just T.Close)

module _ (source : Source) (n i : ℕ) (some : 1 ≤ n) (opens : true ≡ member (terminal_at source i) (just T.Open)) where
  pub block_fails : (e : ReadError) → Fails e (reader source (n - 1) (statements source) (i + 1))
      → Fails e (reads source n block i)
  unfolding block
  block_fails e x =
      fails_act (forms source) (text_of source) (length source.lexemes.now) n (anywhere to_block) braced i e (group_fails
      (forms source) (text_of source) (length source.lexemes.now) n (just T.Open) (just T.Close) Block i e some (sym opens) x)

  pub block_unclosed : (parts : List Part) (k : ℕ) → reader source (n - 1) (statements source) (i + 1) ≡ Got parts k
      → false ≡ member (terminal_at source k) (just T.Close) → reads source n block i ≡ Unexpected k
  unfolding block
  block_unclosed parts k read off =
      fails_act (forms source) (text_of source) (length source.lexemes.now) n (anywhere to_block) braced i
      (ends.Unexpected k) (group_unclosed (forms source) (text_of source) (length source.lexemes.now) n (just T.Open)
      (just T.Close) Block i k parts some (sym opens) read (sym off))

  pub block_read : (xs : List Statement) (k : ℕ)
      → reader source (n - 1) (statements source) (i + 1) ≡ Got (map States xs) k
      → true ≡ member (terminal_at source k) (just T.Close) → reads source n block i ≡ Got (Blocks xs ∷ []) (k + 1)
  unfolding block
  block_read xs k read closed =
      read_act (forms source) (text_of source) (length source.lexemes.now) n (anywhere to_block) braced i (k + 1) (map
      States xs) (group_got (forms source) (text_of source) (length source.lexemes.now) n (just T.Open) (just T.Close)
      Block i k (map States xs) some (sym opens) read (sym closed))
      ∙ ap (λ (ys : List Statement). let r : Answer Part = Got (Blocks ys ∷ []) (k + 1) in r) (statements_of_statements
      xs)
