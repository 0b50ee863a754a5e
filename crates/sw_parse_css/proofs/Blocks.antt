-- What is read of a block, by what is read of the statements in it.
use Rattle.std.proofs.Common.{◌≡◌, ℕ, ◌+◌, ◌-◌, ◌≤◌, true, false, List, [], ◌∷◌, map, refl, sym, ap, ◌∙◌, subst, length}
use Rattle.sw_parse_grammar.specs.Grammar.{Grammar, Answer, Got, Unexpected, group, many, member, anywhere}
use Rattle.sw_parse_grammar.specs.Readers.{Fails}
use Rattle.sw_parse_grammar.specs.declared.ReadError.{ReadError}
use Rattle.sw_parse_grammar.specs.declared.ReadError.TheVariants as ends
use Rattle.sw_parse_grammar.proofs.Loops.{read_act, fails_act, group_got, group_unclosed, group_fails}
use Rattle.sw_parse_terminals.specs.declared.terminal.Terminal.TheVariants as T
use Rattle.sw_parse_terminals.specs.Numbers.{just}
use Rattle.sw_tree.specs.declared.statement.Statement.{Statement}
use Rattle.sw_parse_table.specs.Parts.{Part, States, Blocks, statements_of}
use Rattle.sw_parse_table.specs.Actions.{to_block}
use Rattle.sw_parse_css.specs.declared.body.Within.{Within}
use Rattle.sw_parse_css.specs.declared.body.Within.TheVariants as withins
use Rattle.sw_parse_css.specs.Seen.{Seen, text_of, terminal_at}
use Rattle.sw_parse_css.specs.Sheets.{Form, forms, block}
use Rattle.sw_parse_css.specs.Rows.{form_of, statement_of}
use Rattle.sw_parse_css.specs.Reads.{reader}

pub statements_of_map : (xs : List Statement) → statements_of (map States xs) ≡ xs
statements_of_map [] = refl
statements_of_map (x ∷ xs) = ap (λ (y : List Statement). x ∷ y) (statements_of_map xs)

module _ (seen : Seen) (within : Within) (n i : ℕ) where
  form_is : (w : Within) → forms seen (form_of w) ≡ many (statement_of seen w)
  form_is withins.Outside = refl
  form_is withins.Rule = refl

  abbrev inside : ℕ → Answer Part
  inside at = reader seen (n - 1) (many (statement_of seen within)) at

  abbrev braces : Grammar Part Form
  braces = group (just T.Open) (form_of within) (just T.Close)

  inside_is : (at : ℕ) (a : Answer Part) → inside at ≡ a → reader seen (n - 1) (forms seen (form_of within)) at ≡ a
  inside_is at a e = ap (λ (g : Grammar Part Form). reader seen (n - 1) g at) (form_is within) ∙ e

  pub block_got : (xs : List Statement) (k : ℕ) → 1 ≤ n → member (terminal_at seen i) (just T.Open) ≡ true
      → inside (i + 1) ≡ Got (map States xs) k → member (terminal_at seen k) (just T.Close) ≡ true
      → reader seen n (block (form_of within)) i ≡ Got (Blocks xs ∷ []) (k + 1)
  block_got xs k l o e c =
      read_act (forms seen) (text_of seen) (length seen.lexemes) n (anywhere to_block) braces i _ _ (group_got (forms seen) (text_of seen) (length seen.lexemes) n (just T.Open) (just T.Close) (form_of within) i k (map States xs) l o (inside_is (i + 1) (Got (map States xs) k) e) c)
      ∙ ap (λ (ys : List Statement). let r : Answer Part = Got (Blocks ys ∷ []) (k + 1) in r) (statements_of_map xs)

  pub block_unclosed : (u : List Part) (k : ℕ) → 1 ≤ n → member (terminal_at seen i) (just T.Open) ≡ true
      → inside (i + 1) ≡ Got u k → member (terminal_at seen k) (just T.Close) ≡ false
      → reader seen n (block (form_of within)) i ≡ Unexpected k
  block_unclosed u k l o e c =
      fails_act (forms seen) (text_of seen) (length seen.lexemes) n (anywhere to_block) braces i (ends.Unexpected k) (group_unclosed (forms seen) (text_of seen) (length seen.lexemes) n (just T.Open) (just T.Close) (form_of within) i k u l o (inside_is (i + 1) (Got u k) e) c)

  pub block_fails : (e : ReadError) → 1 ≤ n → member (terminal_at seen i) (just T.Open) ≡ true
      → Fails e (inside (i + 1)) → Fails e (reader seen n (block (form_of within)) i)
  block_fails e l o x =
      fails_act (forms seen) (text_of seen) (length seen.lexemes) n (anywhere to_block) braces i e (group_fails (forms seen) (text_of seen) (length seen.lexemes) n (just T.Open) (just T.Close) (form_of within) i e l o
      (subst (λ (g : Grammar Part Form). Fails e (reader seen (n - 1) g (i + 1))) (sym (form_is within)) x))
