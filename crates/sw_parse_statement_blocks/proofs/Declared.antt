-- How declarations and rules are read, of what is read of their heads.
use Rattle.std.proofs.Common.{◌≡◌, ℕ, true, false, List, [], ◌∷◌, refl, ◌∙◌, ap, length}
use Rattle.sw_parse_grammar.specs.Grammar.{Answer, Got, alt, seq, first, prepend, acted, member}
use Rattle.sw_parse_grammar.specs.Readers.{parse, Fails}
use Rattle.sw_parse_grammar.specs.declared.ReadError.{ReadError}
use Rattle.sw_parse_grammar.proofs.Loops.{prepend_twice, read_seq, fails_act, fails_first}
use Rattle.sw_parse_terminals.specs.declared.terminal.Terminal.TheVariants as T
use Rattle.sw_parse_terminals.specs.Numbers.{just}
use Rattle.sw_tree.specs.declared.expr.Expr.{Expr}
use Rattle.sw_tree.specs.declared.text.Text.{Text as TreeText}
use Rattle.sw_parse_table.specs.declared.source.Source.{Source}
use Rattle.sw_parse_table.specs.Parts.{Part, Texts, Values, Behind}
use Rattle.sw_parse_table.specs.Sources.{terminal_at, text_of}
use Rattle.sw_parse_table.specs.Table.{forms}
use Rattle.sw_parse_table.specs.Actions.{to_declaration, to_rule}
use Rattle.sw_parse_table.specs.Statements.{finish, block, block_or_end, property, property_value, declaration, rule}
use Rattle.sw_parse_table.specs.Reads.{reader, reads}
use Rattle.sw_parse_expr_lists.proofs.Choices.{goes_left, goes_right}
use Rattle.sw_parse_statement_heads.specs.Heads.{value_head, rule_head}

module _ (source : Source) (n at : ℕ) where
  opens : first (block source) ≡ just T.Open
  unfolding block
  opens = refl

  pub end_block : member (terminal_at source at) (just T.Open) ≡ true
      → reads source n block_or_end at ≡ reads source n block at
  unfolding block_or_end
  end_block m = goes_left source n (block source) (finish source) (just T.Open) at opens m

  pub end_finish : member (terminal_at source at) (just T.Open) ≡ false
      → reads source n block_or_end at ≡ reads source n finish at
  unfolding block_or_end
  end_finish o = goes_right source n (block source) (finish source) (just T.Open) at opens o

  valued_block : member (terminal_at source at) (just T.Open) ≡ true
      → reader source n (alt (block source) (property_value source)) at ≡ reads source n block at
  valued_block m = goes_left source n (block source) (property_value source) (just T.Open) at opens m

  valued_value : member (terminal_at source at) (just T.Open) ≡ false
      → reader source n (alt (block source) (property_value source)) at ≡ reads source n property_value at
  valued_value o = goes_right source n (block source) (property_value source) (just T.Open) at opens o

  pub property_fails : (e : ReadError) → Fails e (reads source n property at) → Fails e (reads source n declaration at)
  unfolding declaration
  property_fails e x =
      fails_act (forms source) (text_of source) (length source.lexemes.now) n (to_declaration source)
      (seq (property source) (alt (block source) (property_value source))) at e
      (fails_first (forms source) (text_of source) (length source.lexemes.now) n (property source)
      (alt (block source) (property_value source)) at e x)

  pub selector_fails : (e : ReadError) → Fails e (reader source n (rule_head source) at) → Fails e (reads source n rule at)
  unfolding rule
  selector_fails e x =
      fails_act (forms source) (text_of source) (length source.lexemes.now) n (to_rule source)
      (seq (rule_head source) (block source)) at e
      (fails_first (forms source) (text_of source) (length source.lexemes.now) n (rule_head source) (block source) at e x)

  pub value_fails : (e : ReadError) → Fails e (reader source n (value_head source) at)
      → Fails e (reads source n property_value at)
  unfolding property_value
  value_fails e x =
      fails_first (forms source) (text_of source) (length source.lexemes.now) n (value_head source)
      (block_or_end source) at e x

module _ (source : Source) (n at place : ℕ) (text : TreeText) where
  abbrev head : List Part
  head = Texts text ∷ Behind place ∷ []

  pub ruled_by : reader source n (rule_head source) at ≡ Got head place
      → reads source n rule at ≡ acted (to_rule source at) (prepend head (reads source n block place))
  unfolding rule parse
  ruled_by read =
      ap (acted (to_rule source at)) (read_seq (forms source) (text_of source) (length source.lexemes.now) n
      (rule_head source) (block source) at place head read)

  module _ (read : reads source n property at ≡ Got head place) where
    declared_by : reads source n declaration at
        ≡ acted (to_declaration source at) (prepend head (reader source n (alt (block source) (property_value source)) place))
    unfolding declaration parse
    declared_by =
        ap (acted (to_declaration source at)) (read_seq (forms source) (text_of source) (length source.lexemes.now) n
        (property source) (alt (block source) (property_value source)) at place head read)

    pub declared_block : member (terminal_at source place) (just T.Open) ≡ true
        → reads source n declaration at ≡ acted (to_declaration source at) (prepend head (reads source n block place))
    declared_block m =
        declared_by
        ∙ ap (λ (a : Answer Part). acted (to_declaration source at) (prepend head a)) (valued_block source n place m)

    pub declared_value : member (terminal_at source place) (just T.Open) ≡ false
        → reads source n declaration at ≡ acted (to_declaration source at) (prepend head (reads source n property_value place))
    declared_value o =
        declared_by
        ∙ ap (λ (a : Answer Part). acted (to_declaration source at) (prepend head a)) (valued_value source n place o)

    module _ (off : member (terminal_at source place) (just T.Open) ≡ false) (value : Expr) (end : ℕ) (valued : reader source n (value_head source) place ≡ Got (Values value ∷ Behind end ∷ []) end) where
      abbrev held : List Part
      held = Texts text ∷ Behind place ∷ Values value ∷ Behind end ∷ []

      value_read : reads source n property_value place
          ≡ prepend (Values value ∷ Behind end ∷ []) (reads source n block_or_end end)
      unfolding property_value
      value_read =
          read_seq (forms source) (text_of source) (length source.lexemes.now) n (value_head source)
          (block_or_end source) place end (Values value ∷ Behind end ∷ []) valued

      declared_end : reads source n declaration at
          ≡ acted (to_declaration source at) (prepend held (reads source n block_or_end end))
      declared_end =
          declared_value off
          ∙ ap (λ (a : Answer Part). acted (to_declaration source at) (prepend head a)) value_read
          ∙ ap (acted (to_declaration source at)) (prepend_twice head (Values value ∷ Behind end ∷ [])
          (reads source n block_or_end end))

      pub declared_both : member (terminal_at source end) (just T.Open) ≡ true
          → reads source n declaration at ≡ acted (to_declaration source at) (prepend held (reads source n block end))
      declared_both m =
          declared_end
          ∙ ap (λ (a : Answer Part). acted (to_declaration source at) (prepend held a)) (end_block source n end m)

      pub declared_plain : member (terminal_at source end) (just T.Open) ≡ false
          → reads source n declaration at ≡ acted (to_declaration source at) (prepend held (reads source n finish end))
      declared_plain o =
          declared_end
          ∙ ap (λ (a : Answer Part). acted (to_declaration source at) (prepend held a)) (end_finish source n end o)
