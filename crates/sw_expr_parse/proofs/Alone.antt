-- A word behind which the statement ends is a whole value: nothing of a value goes on there.
use Rattle.std.proofs.Common.{◌≡◌, ℕ, ◌+◌, ◌-◌, Bool, true, false, ◌&&◌, ◌||◌, ◌⊎◌, List, [], ◌∷◌, inl, inr, refl, ◌∙◌, arith, eqb, length}
use Rattle.sw_parse_grammar.specs.Grammar.{Grammar, skip, seq, alt, many, sep, empty, first, member, without, Got}
use Rattle.sw_parse_grammar.specs.Readers.{parse}
use Rattle.sw_parse_grammar.proofs.Loops.{at_first, read_skip, read_act, read_both}
use Rattle.sw_parse_grammar.proofs.Sets.{at_false}
use Rattle.sw_parse_terminals.specs.declared.terminal.Terminal.TheVariants as T
use Rattle.sw_parse_terminals.specs.Numbers.{number_of, these, just}
use Rattle.sw_tree.specs.declared.expr.Expr.{Expr}
use Rattle.sw_tree.specs.declared.text.Text.{Text}
use Rattle.sw_parse_table.specs.declared.source.Source.{Source}
use Rattle.sw_parse_table.specs.declared.operator.Precedence.TheVariants.{Product, Sum, Relation, Equality, And, Or}
use Rattle.sw_parse_table.specs.Parts.{Part, Form, Texts, Values}
use Rattle.sw_parse_table.specs.Sources.{text_of, terminal_at, text_between}
use Rattle.sw_parse_table.specs.Sets.{operators, prefixes, endings, starts}
use Rattle.sw_parse_table.specs.Values.{ends_with_comma, to_text, to_called, to_unary, to_space, to_list}
use Rattle.sw_parse_table.specs.Table.{forms}
use Rattle.sw_parse_table.specs.Expressions.{part_insert, word_part, word_start, word, arguments_in, called, primary, prefix, unary, chain, disjunction, space_item, space, list_item, expr}
use Rattle.sw_parse_table.specs.Reads.{reader, reads}
use Rattle.sw_parse_table.proofs.Decided.{loops}
use Rattle.sw_parse_expr_lists.proofs.Choices.{goes_left, goes_right}
use Rattle.sw_expr_parse.specs.Alone.{enders, is_alone, word_value}
use Rattle.sw_expr_parse.proofs.Choices.{other_called, primary_other}
use Rattle.sw_expr_parse.proofs.Climb.{chain_same}

-- a terminal that goes on with no value
record Ender (k : ℕ) : Type 0 where
  part : member k (these (T.Part ∷ T.PartInsert ∷ [])) ≡ false
  call : member k (just T.CallParen) ≡ false
  products : member k (operators Product) ≡ false
  sums : member k (operators Sum) ≡ false
  relations : member k (operators Relation) ≡ false
  equalities : member k (operators Equality) ≡ false
  ands : member k (operators And) ≡ false
  ors : member k (operators Or) ≡ false
  value : member k (without endings starts) ≡ false
  comma : member k (just T.Comma) ≡ false

semicolon : Ender 1
semicolon = record { part = refl; call = refl; products = refl; sums = refl; relations = refl; equalities = refl; ands = refl; ors = refl; value = refl; comma = refl }

close : Ender 3
close = record { part = refl; call = refl; products = refl; sums = refl; relations = refl; equalities = refl; ands = refl; ors = refl; value = refl; comma = refl }

-- what a word and what goes on with it begin with
record Firsts (source : Source) : Type 0 where
  parts : first (word_part source) ≡ these (T.Part ∷ T.PartInsert ∷ [])
  arguments : first (arguments_in source) ≡ just T.CallParen
  signs : first (prefix source) ≡ prefixes

firsts : (source : Source) → Firsts source
unfolding word_part part_insert arguments_in prefix
firsts source = record { parts = refl; arguments = refl; signs = refl }

and_left : (a b : Bool) → (a && b) ≡ true → a ≡ true
and_left true b e = refl
and_left false b e = e

and_right : (a b : Bool) → (a && b) ≡ true → b ≡ true
and_right true b e = e
and_right false b e = absurd (cc)

one_of : (a b : Bool) → (a || b) ≡ true → (a ≡ true) ⊎ (b ≡ true)
one_of true b e = inl refl
one_of false b e = inr e

only_one : (a : Bool) → (a || false) ≡ true → a ≡ true
only_one true e = refl
only_one false e = e

same_number : (a b : ℕ) → eqb a b ≡ true → a ≡ b
same_number a b e = grind (arith, e)

two : (k : ℕ) → member k enders ≡ true → (k ≡ 1) ⊎ (k ≡ 3)
two k e = elim (one_of (eqb k 1) _ e) [
  | inl x ↦ inl (same_number k 1 x)
  | inr x ↦ inr (same_number k 3 (only_one (eqb k 3) x))
]

module _ (source : Source) (n : ℕ) where
  none : (g : Grammar Part Form) (fs : List ℕ) (i : ℕ) → first g ≡ fs → member (terminal_at source i) fs ≡ false
      → reader source n (many g) i ≡ Got [] i
  unfolding parse
  none g fs i e m = at_false (member (terminal_at source i) (first g)) _ (Got [] i) (at_first g fs _ false e m)

  none_behind : (s : List ℕ) (g : Grammar Part Form) (i : ℕ) → member (terminal_at source i) s ≡ false
      → reader source n (sep s g) i ≡ Got [] i
  unfolding parse
  none_behind s g i m = at_false (member (terminal_at source i) s) _ (Got [] i) m

  nothing : (i : ℕ) → reader source n empty i ≡ Got [] i
  unfolding parse
  nothing i = refl

  module _ (at : ℕ) (there : terminal_at source at ≡ number_of T.Word) where
    word_begun : reads source n word_start at ≡ Got [] (at + 1)
    unfolding word_start
    word_begun =
        goes_left source n (skip (just T.Word)) _ (just T.Word) at refl (rw there refl)
        ∙ read_skip (forms source) (text_of source) (length source.lexemes.now) n (just T.Word) at (rw there refl)

    -- a word that nothing goes on with
    pub word_alone : member (terminal_at source (at + 1)) (these (T.Part ∷ T.PartInsert ∷ [])) ≡ false
        → reads source n word at ≡ Got (Texts (text_between source at (at + 1) []) ∷ []) (at + 1)
    unfolding word
    word_alone off =
        read_act (forms source) (text_of source) (length source.lexemes.now) n (to_text source)
        (seq (word_start source) (many (word_part source))) at (at + 1) []
        (read_both (forms source) (text_of source) (length source.lexemes.now) n
        (word_start source) (many (word_part source)) at (at + 1) (at + 1) [] [] word_begun
        (none (word_part source) (these (T.Part ∷ T.PartInsert ∷ [])) (at + 1) (firsts source).parts off))

    abbrev name : Text
    name = text_between source at (at + 1) []

    abbrev value : Expr
    value = word_value source at

    module _ (k : ℕ) (behind : terminal_at source (at + 1) ≡ k) (ends : Ender k) where
      called_alone : reads source n called at ≡ Got (Values value ∷ []) (at + 1)
      unfolding called
      called_alone =
          read_act (forms source) (text_of source) (length source.lexemes.now) n (to_called source)
          (seq (word source) (alt (arguments_in source) empty)) at (at + 1) (Texts name ∷ [])
          (read_both (forms source) (text_of source) (length source.lexemes.now) n
          (word source) (alt (arguments_in source) empty) at (at + 1) (at + 1) (Texts name ∷ []) []
          (word_alone (rw behind ends.part))
          (goes_right source n (arguments_in source) empty (just T.CallParen) (at + 1) (firsts source).arguments
          (rw behind ends.call) ∙ nothing (at + 1)))

      primary_alone : reads source n primary at ≡ Got (Values value ∷ []) (at + 1)
      primary_alone =
          primary_other source n at (rw there refl) (rw there refl) (rw there refl) (rw there refl)
          ∙ other_called source n at (rw there refl) ∙ called_alone

      unary_alone : reads source n unary at ≡ Got (Values value ∷ []) (at + 1)
      unfolding unary
      unary_alone =
          read_act (forms source) (text_of source) (length source.lexemes.now) n (to_unary source)
          (seq (many (prefix source)) (primary source)) at (at + 1) (Values value ∷ [])
          (read_both (forms source) (text_of source) (length source.lexemes.now) n
          (many (prefix source)) (primary source) at at (at + 1) [] (Values value ∷ [])
          (none (prefix source) prefixes at (firsts source).signs (rw there refl)) primary_alone)

      product_alone : reader source n (chain source Product) at ≡ Got (Values value ∷ []) (at + 1)
      product_alone = chain_same source n at Product (at + 1) value unary_alone (rw behind ends.products)

      sum_alone : reader source n (chain source Sum) at ≡ Got (Values value ∷ []) (at + 1)
      sum_alone = chain_same source n at Sum (at + 1) value product_alone (rw behind ends.sums)

      relation_alone : reader source n (chain source Relation) at ≡ Got (Values value ∷ []) (at + 1)
      relation_alone = chain_same source n at Relation (at + 1) value sum_alone (rw behind ends.relations)

      equality_alone : reader source n (chain source Equality) at ≡ Got (Values value ∷ []) (at + 1)
      equality_alone = chain_same source n at Equality (at + 1) value relation_alone (rw behind ends.equalities)

      conjunction_alone : reader source n (chain source And) at ≡ Got (Values value ∷ []) (at + 1)
      conjunction_alone = chain_same source n at And (at + 1) value equality_alone (rw behind ends.ands)

      disjunction_alone : reads source n disjunction at ≡ Got (Values value ∷ []) (at + 1)
      disjunction_alone = chain_same source n at Or (at + 1) value conjunction_alone (rw behind ends.ors)

      space_alone : reads source n space at ≡ Got (Values value ∷ []) (at + 1)
      unfolding space
      space_alone =
          read_act (forms source) (text_of source) (length source.lexemes.now) n (to_space source)
          (seq (disjunction source) (many (space_item source))) at (at + 1) (Values value ∷ [])
          (read_both (forms source) (text_of source) (length source.lexemes.now) n
          (disjunction source) (many (space_item source)) at (at + 1) (at + 1) (Values value ∷ []) []
          disjunction_alone
          (none (space_item source) (without endings starts) (at + 1) (loops source).space_items.starts (rw behind ends.value)))

      no_comma : ends_with_comma source (at + 1) ≡ false
      unfolding ends_with_comma
      no_comma = let back : (at + 1) - 1 ≡ at = omega arith in rw (back, there) refl

      ender_alone : reads source n expr at ≡ Got (Values value ∷ []) (at + 1)
      unfolding expr
      ender_alone =
          read_act (forms source) (text_of source) (length source.lexemes.now) n (to_list source)
          (seq (space source) (sep (just T.Comma) (list_item source))) at (at + 1) (Values value ∷ [])
          (read_both (forms source) (text_of source) (length source.lexemes.now) n
          (space source) (sep (just T.Comma) (list_item source)) at (at + 1) (at + 1) (Values value ∷ []) []
          space_alone (none_behind (just T.Comma) (list_item source) (at + 1) (rw behind ends.comma)))
          ∙ rw no_comma refl

pub value_alone : (source : Source) (n at : ℕ) → is_alone source at ≡ true
    → reads source n expr at ≡ Got (Values (word_value source at) ∷ []) (at + 1)
value_alone source n at e = by_end (same_number _ _ (only_one _ (and_left _ _ e))) (two _ (and_right (member (terminal_at source at) (just T.Word)) _ e))
  where
    by_end : terminal_at source at ≡ number_of T.Word → (terminal_at source (at + 1) ≡ 1) ⊎ (terminal_at source (at + 1) ≡ 3)
        → reads source n expr at ≡ Got (Values (word_value source at) ∷ []) (at + 1)
    by_end there (inl behind) = ender_alone source n at there 1 behind semicolon
    by_end there (inr behind) = ender_alone source n at there 3 behind close
