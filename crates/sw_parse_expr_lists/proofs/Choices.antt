-- What is read where a form may be empty, and which kind of argument stands at a place.
use Rattle.std.proofs.Common.{◌≡◌, ℕ, true, false, List, [], ◌++◌, refl, ◌∙◌, length}
use Rattle.sw_parse_grammar.specs.Grammar.{Grammar, alt, seq, sep, empty, build, anywhere, without, first, member, Got}
use Rattle.sw_parse_grammar.specs.Readers.{parse, Fails}
use Rattle.sw_parse_grammar.specs.declared.ReadError.{ReadError}
use Rattle.sw_parse_grammar.proofs.Loops.{at_first, read_left, read_right, fails_left, fails_act, fails_first, fails_seq, read_act, read_both}
use Rattle.sw_parse_terminals.specs.declared.terminal.Terminal.TheVariants as T
use Rattle.sw_parse_terminals.specs.Numbers.{just}
use Rattle.sw_parse_table.specs.declared.source.Source.{Source}
use Rattle.sw_parse_table.specs.Parts.{Part, Form}
use Rattle.sw_parse_table.specs.Sources.{text_of, terminal_at}
use Rattle.sw_parse_table.specs.Sets.{starts}
use Rattle.sw_parse_table.specs.Values.{to_arguments, sorted}
use Rattle.sw_parse_table.specs.Table.{forms}
use Rattle.sw_parse_table.specs.Expressions.{number, insert, quoted, text_item, url_item, template, hash, constant, url, url_template, special, variable, word_insert, part_insert, word_part, word_start, word, arguments_in, called, owned_variable, owned_call, owned, range, parent, important, parens, brackets, literal, other, primary, prefix, unary, link, product, sum, relation, equality, conjunction, disjunction, space_item, space, list_item, expr, colon_space, pair, pairs_rest, items_rest, inside, items, named_argument, plain_argument, argument, arguing, special_number, special_expr, special_value, special_parens, special_brackets, special_item, special_inside}
use Rattle.sw_parse_table.specs.Reads.{reader, reads}

module _ (source : Source) (n : ℕ) where
  -- the row of a choice by its first terminals
  pub goes_left : (a b : Grammar Part Form) (fs : List ℕ) (i : ℕ) → first a ≡ fs → member
      (terminal_at source i) fs ≡ true → reader source n (alt a b) i ≡ reader source n a i
  goes_left a b fs i e m =
      read_left (forms source) (text_of source) (length source.lexemes.now) n a b i (at_first a fs
      (terminal_at source i) true e m)

  pub goes_right : (a b : Grammar Part Form) (fs : List ℕ) (i : ℕ) → first a ≡ fs → member
      (terminal_at source i) fs ≡ false → reader source n (alt a b) i ≡ reader source n b i
  goes_right a b fs i e m =
      read_right (forms source) (text_of source) (length source.lexemes.now) n a b i (at_first a fs
      (terminal_at source i) false e m)

-- what each row begins with
record Firsts (source : Source) : Type 0 where
  inside : first (build (sorted source) (seq (space source) (alt (pairs_rest source) (items_rest source)))) ≡ starts
  pairs_rest : first (pairs_rest source) ≡ just T.Colon
  expr : first (expr source) ≡ starts
  named_argument : first (named_argument source) ≡ just T.DollarNamed
  arguments : first (seq (argument source) (sep (just T.Comma) (argument source))) ≡ just T.DollarNamed ++ without
      (just T.DollarNamed) starts

firsts : (source : Source) → Firsts source
unfolding number insert quoted text_item url_item template hash constant url url_template special variable word_insert part_insert word_part word_start word arguments_in called owned_variable owned_call owned range parent important parens brackets literal other primary prefix unary link product sum relation equality conjunction disjunction space_item space list_item expr colon_space pair pairs_rest items_rest inside items named_argument plain_argument argument arguing special_number special_expr special_value special_parens special_brackets special_item special_inside
firsts source = record { inside = refl; pairs_rest = refl; expr = refl; named_argument = refl; arguments = refl }

module _ (source : Source) where
  -- what stands in parentheses
  abbrev rest : Grammar Part Form
  rest = alt (pairs_rest source) (items_rest source)

  abbrev filled : Grammar Part Form
  filled = build (sorted source) (seq (space source) rest)

  empty_read : (n i : ℕ) → reader source n empty i ≡ Got [] i
  unfolding parse
  empty_read n i = refl

  pub inside_none : (n i : ℕ) → member (terminal_at source i) starts ≡ false → reads source n inside i ≡ Got [] i
  unfolding inside
  inside_none n i o = goes_right source n filled empty starts i (firsts source).inside o ∙ empty_read n i

  pub inside_fails : (n i : ℕ) (e : ReadError) → member (terminal_at source i) starts ≡ true → Fails e
      (reads source n space i) → Fails e (reads source n inside i)
  unfolding inside
  inside_fails n i e m x =
      fails_left (forms source) (text_of source) (length source.lexemes.now) n filled empty i e (at_first filled starts
      (terminal_at source i) true (firsts source).inside m)
      (fails_act (forms source) (text_of source) (length source.lexemes.now) n (sorted source) (seq
      (space source) rest) i e
      (fails_first (forms source) (text_of source) (length source.lexemes.now) n (space source) rest i e x))

  rest_fails : (n i p : ℕ) (u : List Part) (e : ReadError) → member (terminal_at source i) starts ≡ true
      → reads source n space i ≡ Got u p → Fails e (reader source n rest p) → Fails e (reads source n inside i)
  unfolding inside
  rest_fails n i p u e m s x =
      fails_left (forms source) (text_of source) (length source.lexemes.now) n filled empty i e (at_first filled starts
      (terminal_at source i) true (firsts source).inside m)
      (fails_act (forms source) (text_of source) (length source.lexemes.now) n (sorted source) (seq
      (space source) rest) i e
      (fails_seq (forms source) (text_of source) (length source.lexemes.now) n (space source) rest i p u e s x))

  pub inside_pairs_fails : (n i p : ℕ) (u : List Part) (e : ReadError) → member (terminal_at source i) starts ≡ true
      → reads source n space i ≡ Got u p → member (terminal_at source p) (just T.Colon) ≡ true
      → Fails e (reads source n pairs_rest p) → Fails e (reads source n inside i)
  inside_pairs_fails n i p u e m s c x =
      rest_fails n i p u e m s (rw (goes_left source n (pairs_rest source) (items_rest source) (just T.Colon) p
      (firsts source).pairs_rest c) x)

  pub inside_items_fails : (n i p : ℕ) (u : List Part) (e : ReadError) → member (terminal_at source i) starts ≡ true
      → reads source n space i ≡ Got u p → member (terminal_at source p) (just T.Colon) ≡ false
      → Fails e (reads source n items_rest p) → Fails e (reads source n inside i)
  inside_items_fails n i p u e m s c x =
      rest_fails n i p u e m s (rw (goes_right source n (pairs_rest source) (items_rest source) (just T.Colon) p
      (firsts source).pairs_rest c) x)

  rest_read : (n i p q : ℕ) (u v : List Part) → member (terminal_at source i) starts ≡ true
      → reads source n space i ≡ Got u p → reader source n rest p ≡ Got v q
      → reads source n inside i ≡ Got (sorted source i q (u ++ v)) q
  unfolding inside
  rest_read n i p q u v m s r =
      goes_left source n filled empty starts i (firsts source).inside m
      ∙ read_act (forms source) (text_of source) (length source.lexemes.now) n (sorted source) (seq
      (space source) rest) i q (u ++ v)
      (read_both (forms source) (text_of source) (length source.lexemes.now) n (space source) rest i p q u v s r)

  pub inside_pairs : (n i p q : ℕ) (u v : List Part) → member (terminal_at source i) starts ≡ true
      → reads source n space i ≡ Got u p → member (terminal_at source p) (just T.Colon) ≡ true
      → reads source n pairs_rest p ≡ Got v q → reads source n inside i ≡ Got (sorted source i q (u ++ v)) q
  inside_pairs n i p q u v m s c r =
      rest_read n i p q u v m s (goes_left source n (pairs_rest source) (items_rest source) (just T.Colon) p
      (firsts source).pairs_rest c ∙ r)

  pub inside_items : (n i p q : ℕ) (u v : List Part) → member (terminal_at source i) starts ≡ true
      → reads source n space i ≡ Got u p → member (terminal_at source p) (just T.Colon) ≡ false
      → reads source n items_rest p ≡ Got v q → reads source n inside i ≡ Got (sorted source i q (u ++ v)) q
  inside_items n i p q u v m s c r =
      rest_read n i p q u v m s (goes_right source n (pairs_rest source) (items_rest source) (just T.Colon) p
      (firsts source).pairs_rest c ∙ r)

  -- what stands in brackets
  pub items_none : (n i : ℕ) → member (terminal_at source i) starts ≡ false → reads source n items i ≡ Got [] i
  unfolding items
  items_none n i o = goes_right source n (expr source) empty starts i (firsts source).expr o ∙ empty_read n i

  pub items_expr : (n i : ℕ) → member (terminal_at source i) starts ≡ true
      → reads source n items i ≡ reads source n expr i
  unfolding items
  items_expr n i m = goes_left source n (expr source) empty starts i (firsts source).expr m

  pub argument_named : (n i : ℕ) → member (terminal_at source i) (just T.DollarNamed) ≡ true
      → reads source n argument i ≡ reads source n named_argument i
  unfolding argument
  argument_named n i m =
      goes_left source n (named_argument source) (plain_argument source) (just T.DollarNamed) i
      (firsts source).named_argument m

  pub argument_plain : (n i : ℕ) → member (terminal_at source i) (just T.DollarNamed) ≡ false
      → reads source n argument i ≡ reads source n plain_argument i
  unfolding argument
  argument_plain n i o =
      goes_right source n (named_argument source) (plain_argument source) (just T.DollarNamed) i
      (firsts source).named_argument o

  -- the arguments of a call
  abbrev several : Grammar Part Form
  several = seq (argument source) (sep (just T.Comma) (argument source))

  pub arguing_none : (n i : ℕ) → member (terminal_at source i) (just T.DollarNamed ++ without
      (just T.DollarNamed) starts) ≡ false → reads source n arguing i ≡ Got (to_arguments []) i
  unfolding arguing
  arguing_none n i o =
      read_act (forms source) (text_of source) (length source.lexemes.now) n (anywhere to_arguments)
      (alt several empty) i i []
      (goes_right source n several empty (just T.DollarNamed ++ without (just T.DollarNamed) starts) i
      (firsts source).arguments o ∙ empty_read n i)

  pub arguing_fails : (n i : ℕ) (e : ReadError) → member (terminal_at source i) (just T.DollarNamed ++ without
      (just T.DollarNamed) starts) ≡ true → Fails e (reads source n argument i) → Fails e (reads source n arguing i)
  unfolding arguing
  arguing_fails n i e m x =
      fails_act (forms source) (text_of source) (length source.lexemes.now) n (anywhere to_arguments)
      (alt several empty) i e
      (fails_left (forms source) (text_of source) (length source.lexemes.now) n several empty i e (at_first several
      (just T.DollarNamed ++ without (just T.DollarNamed) starts) (terminal_at source i) true
      (firsts source).arguments m)
      (fails_first (forms source) (text_of source) (length source.lexemes.now) n (argument source) (sep (just T.Comma)
      (argument source)) i e x))

  pub arguing_rest_fails : (n i p : ℕ) (u : List Part) (e : ReadError) → member (terminal_at source i)
      (just T.DollarNamed ++ without (just T.DollarNamed) starts) ≡ true → reads source n argument i ≡ Got u p
      → Fails e (reader source n (sep (just T.Comma) (argument source)) p) → Fails e (reads source n arguing i)
  unfolding arguing
  arguing_rest_fails n i p u e m a x =
      fails_act (forms source) (text_of source) (length source.lexemes.now) n (anywhere to_arguments)
      (alt several empty) i e
      (fails_left (forms source) (text_of source) (length source.lexemes.now) n several empty i e (at_first several
      (just T.DollarNamed ++ without (just T.DollarNamed) starts) (terminal_at source i) true
      (firsts source).arguments m)
      (fails_seq (forms source) (text_of source) (length source.lexemes.now) n (argument source) (sep (just T.Comma)
      (argument source)) i p u e a x))

  pub arguing_read : (n i p q : ℕ) (u v : List Part) → member (terminal_at source i) (just T.DollarNamed ++ without
      (just T.DollarNamed) starts) ≡ true → reads source n argument i ≡ Got u p
      → reader source n (sep (just T.Comma) (argument source)) p ≡ Got v q → reads source n arguing i ≡ Got
      (to_arguments (u ++ v)) q
  unfolding arguing
  arguing_read n i p q u v m a r =
      read_act (forms source) (text_of source) (length source.lexemes.now) n (anywhere to_arguments)
      (alt several empty) i q (u ++ v)
      (goes_left source n several empty (just T.DollarNamed ++ without (just T.DollarNamed) starts) i
      (firsts source).arguments m
      ∙ read_both (forms source) (text_of source) (length source.lexemes.now) n (argument source) (sep (just T.Comma)
      (argument source)) i p q u v a r)
