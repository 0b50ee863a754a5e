-- What a load's configuration is read as, whichever statement loads.
use Rattle.std.proofs.Common.{◌≡◌, ℕ, ◌+◌, ◌-◌, ◌≤◌, true, false, List, [], ◌++◌, refl, sym, ◌∙◌, ap, subst, length, append-nil}
use Rattle.sw_parse_grammar.specs.Grammar.{Grammar, Answer, Got, Unexpected, TooDeep, alt, seq, skip, empty, first, member, and_then, prepend, acted}
use Rattle.sw_parse_grammar.specs.Readers.{parse, Fails}
use Rattle.sw_parse_grammar.specs.declared.ReadError.{ReadError}
use Rattle.sw_parse_grammar.proofs.Loops.{group_fails}
use Rattle.sw_parse_terminals.specs.declared.terminal.Terminal.TheVariants as T
use Rattle.sw_parse_terminals.specs.Numbers.{just}
use Rattle.sw_parse_table.specs.declared.source.Source.{Source}
use Rattle.sw_parse_table.specs.Parts.{Part, Form}
use Rattle.sw_parse_table.specs.Sources.{terminal_at, text_of}
use Rattle.sw_parse_table.specs.Sets.{dollars}
use Rattle.sw_parse_table.specs.Table.{forms}
use Rattle.sw_parse_table.specs.Expressions.{number, insert, quoted, text_item, url_item, template, hash, constant, url, url_template, special, variable, word_insert, part_insert, word_part, word_start, word, arguments_in, called, owned_variable, owned_call, owned, range, parent, important, parens, brackets, literal, other, primary, prefix, unary, link, product, sum, relation, equality, conjunction, disjunction, space_item, space, list_item, expr, colon_space, pair, pairs_rest, items_rest, inside, items, named_argument, plain_argument, argument, arguing, special_number, special_expr, special_value, special_parens, special_brackets, special_item, special_inside}
use Rattle.sw_parse_table.specs.Statements.{dollar_name, given_name, given, giving, passed, passing, default_flag, with_given, with_passed}
use Rattle.sw_parse_table.specs.Actions.{to_given}
use Rattle.sw_parse_table.specs.Reads.{reader}
use Rattle.sw_parse_table.proofs.Decided.{Separated}
use Rattle.sw_parse_expr_lists.proofs.Choices.{goes_left, goes_right}
use Rattle.sw_parse_statement_text.specs.declared.given.Load.{Load}
use Rattle.sw_parse_statement_text.specs.declared.given.Load.TheVariants as loads
use Rattle.sw_parse_statement_text.specs.Loads.{named_row, given_row, giving_row, form_of, configuration_row, worded_row, with_row}

module _ (source : Source) (n : ℕ) where
  -- nothing behind a grammar
  with_nothing : (a : Answer Part) → and_then a (λ u j. prepend u (Got [] j)) ≡ a
  with_nothing (Got u j) = ap (λ (w : List Part). Got w j) (append-nil u)
  with_nothing (Unexpected k) = refl
  with_nothing (TooDeep k) = refl

  seq_empty : (g : Grammar Part Form) (i : ℕ) → reader source n (seq g empty) i ≡ reader source n g i
  unfolding parse
  seq_empty g i = with_nothing (reader source n g i)

  -- what stands behind a grammar may be read by another that reads the same
  same_then : (a : Answer Part) (f g : ℕ → Answer Part) → ((j : ℕ) → f j ≡ g j)
      → and_then a (λ u j. prepend u (f j)) ≡ and_then a (λ u j. prepend u (g j))
  same_then (Got u j) f g e = ap (prepend u) (e j)
  same_then (Unexpected k) f g e = refl
  same_then (TooDeep k) f g e = refl

  pub given_is : (load : Load) (i : ℕ) → reader source n (given_row source load) i ≡ reader source n (named_row source load) i
  unfolding parse given passed
  given_is loads.Use i =
      ap (acted (to_given source i)) (same_then (reader source n (given_name source) i) (reader source n
      (colon_space source)) (reader source n (seq (colon_space source) empty)) (λ j. sym (seq_empty
      (colon_space source) j)))
  given_is loads.Forward i = refl

  no_more : (i : ℕ) → reader source n empty i ≡ Got [] i
  unfolding parse
  no_more i = refl

  -- where `with` may stand
  pub no_with : (load : Load) (i : ℕ) → member (terminal_at source i) (just T.With) ≡ false → reader source n (with_row source load) i ≡ Got [] i
  unfolding with_given with_passed
  no_with loads.Use i o = goes_right source n (worded_row loads.Use) empty (just T.With) i refl o ∙ no_more i
  no_with loads.Forward i o = goes_right source n (worded_row loads.Forward) empty (just T.With) i refl o ∙ no_more i

  pub some_with : (load : Load) (i : ℕ) → member (terminal_at source i) (just T.With) ≡ true → reader source n (with_row source load) i ≡ reader source n (worded_row load) i
  unfolding with_given with_passed
  some_with loads.Use i m = goes_left source n (worded_row loads.Use) empty (just T.With) i refl m
  some_with loads.Forward i m = goes_left source n (worded_row loads.Forward) empty (just T.With) i refl m

module _ (source : Source) where
  -- what stands in the parentheses
  pub form_is : (load : Load) → forms source (form_of load) ≡ giving_row source load
  unfolding giving passing
  form_is loads.Use = refl
  form_is loads.Forward = refl

  pub givens : (load : Load) → Separated source (just T.Comma) (given_row source load) dollars
  unfolding number insert quoted text_item url_item template hash constant url url_template special variable word_insert part_insert word_part word_start word arguments_in called owned_variable owned_call owned range parent important parens brackets literal other primary prefix unary link product sum relation equality conjunction disjunction space_item space list_item expr colon_space pair pairs_rest items_rest inside items named_argument plain_argument argument arguing special_number special_expr special_value special_parens special_brackets special_item special_inside dollar_name given_name given passed default_flag
  givens loads.Use = record { all = refl; starts = refl }
  givens loads.Forward = record { all = refl; starts = refl }

  pub configuration_fails : (n i : ℕ) (load : Load) (e : ReadError) → 1 ≤ n → member (terminal_at source i) (just T.HeadParen) ≡ true
      → Fails e (reader source (n - 1) (giving_row source load) (i + 1)) → Fails e (reader source n (configuration_row load) i)
  configuration_fails n i load e l m h =
      group_fails (forms source) (text_of source) (length source.lexemes.now) n (just T.HeadParen) (just T.ParenEnd)
      (form_of load) i e l m (subst (λ (form : Grammar Part Form). Fails e (reader source (n - 1) form (i + 1))) (sym
      (form_is load)) h)
