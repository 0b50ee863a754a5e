-- Which row of a choice is read in the text of a special function, by the terminal that stands there.
use Rattle.std.proofs.Common.{◌≡◌, ℕ, true, false, refl, ◌∙◌}
use Rattle.sw_parse_grammar.specs.Grammar.{Grammar, alt, skip, first, member}
use Rattle.sw_parse_terminals.specs.declared.terminal.Terminal.TheVariants as T
use Rattle.sw_parse_terminals.specs.Numbers.{just}
use Rattle.sw_parse_table.specs.declared.source.Source.{Source}
use Rattle.sw_parse_table.specs.Parts.{Part, Form}
use Rattle.sw_parse_table.specs.Sources.{terminal_at}
use Rattle.sw_parse_table.specs.Sets.{numbers, dollars, special_texts, special_values}
use Rattle.sw_parse_table.specs.Expressions.{number, insert, quoted, text_item, url_item, template, hash, constant, url, url_template, special, variable, word_insert, part_insert, word_part, word_start, word, arguments_in, called, owned_variable, owned_call, owned, range, parent, important, parens, brackets, literal, other, primary, special_number, special_expr, special_value, special_parens, special_brackets, special_item}
use Rattle.sw_parse_table.specs.Reads.{reader, reads}
use Rattle.sw_parse_expr_lists.proofs.Choices.{goes_left, goes_right}

-- text as it stands
abbrev texts : Grammar Part Form
texts = skip special_texts

-- what each row begins with
record Firsts (source : Source) : Type 0 where
  of_number : first (special_number source) ≡ numbers
  of_variable : first (variable source) ≡ dollars
  of_owned : first (owned source) ≡ (just T.Owner)
  of_raw : first texts ≡ special_texts
  of_insert : first (insert source) ≡ (just T.Insert)
  of_special_value : first (special_value source) ≡ special_values
  of_special_parens : first (special_parens source) ≡ (just T.RawParen)

firsts : (source : Source) → Firsts source
unfolding number insert quoted text_item url_item template hash constant url url_template special variable word_insert part_insert word_part word_start word arguments_in called owned_variable owned_call owned range parent important parens brackets literal other primary special_number special_expr special_value special_parens special_brackets special_item
firsts source =
    record { of_number = refl; of_variable = refl; of_owned = refl; of_raw = refl; of_insert = refl; of_special_value = refl; of_special_parens = refl }

module _ (source : Source) (n : ℕ) (i : ℕ) where
  special_expr_past_1 : member (terminal_at source i) numbers ≡ false
      → reads source n special_expr i ≡ reader source n (alt (variable source) (alt (owned source) (called source))) i
  unfolding special_expr
  special_expr_past_1 o0 =
      goes_right source n (special_number source) (alt (variable source) (alt (owned source) (called source))) numbers i
      (firsts source).of_number o0

  special_expr_past_2 : member (terminal_at source i) numbers ≡ false → member (terminal_at source i) dollars ≡ false
      → reads source n special_expr i ≡ reader source n (alt (owned source) (called source)) i
  special_expr_past_2 o0 o1 =
      special_expr_past_1 o0 ∙ goes_right source n (variable source) (alt (owned source) (called source)) dollars i
      (firsts source).of_variable o1

  special_expr_past_3 : member (terminal_at source i) numbers ≡ false → member (terminal_at source i) dollars ≡ false
      → member (terminal_at source i) (just T.Owner) ≡ false
      → reads source n special_expr i ≡ reader source n (called source) i
  special_expr_past_3 o0 o1 o2 =
      special_expr_past_2 o0 o1 ∙ goes_right source n (owned source) (called source) (just T.Owner) i
      (firsts source).of_owned o2

  pub special_expr_number : member (terminal_at source i) numbers ≡ true
      → reads source n special_expr i ≡ reader source n (special_number source) i
  unfolding special_expr
  special_expr_number m =
      goes_left source n (special_number source) (alt (variable source) (alt (owned source) (called source))) numbers i
      (firsts source).of_number m

  pub special_expr_variable : member (terminal_at source i) numbers ≡ false → member
      (terminal_at source i) dollars ≡ true
      → reads source n special_expr i ≡ reader source n (variable source) i
  special_expr_variable o0 m =
      special_expr_past_1 o0 ∙ goes_left source n (variable source) (alt (owned source) (called source)) dollars i
      (firsts source).of_variable m

  pub special_expr_owned : member (terminal_at source i) numbers ≡ false → member (terminal_at source i) dollars ≡ false
      → member (terminal_at source i) (just T.Owner) ≡ true
      → reads source n special_expr i ≡ reader source n (owned source) i
  special_expr_owned o0 o1 m =
      special_expr_past_2 o0 o1 ∙ goes_left source n (owned source) (called source) (just T.Owner) i
      (firsts source).of_owned m

  pub special_expr_called : member (terminal_at source i) numbers ≡ false → member
      (terminal_at source i) dollars ≡ false → member (terminal_at source i) (just T.Owner) ≡ false
      → reads source n special_expr i ≡ reader source n (called source) i
  special_expr_called o0 o1 o2 = special_expr_past_3 o0 o1 o2

  special_item_past_1 : member (terminal_at source i) special_texts ≡ false
      → reads source n special_item i ≡ reader source n (alt (insert source) (alt (special_value source) (alt
      (special_parens source) (special_brackets source)))) i
  unfolding special_item
  special_item_past_1 o0 =
      goes_right source n texts (alt (insert source) (alt (special_value source) (alt
      (special_parens source) (special_brackets source)))) special_texts i (firsts source).of_raw o0

  special_item_past_2 : member (terminal_at source i) special_texts ≡ false → member (terminal_at source i)
      (just T.Insert) ≡ false
      → reads source n special_item i ≡ reader source n (alt (special_value source) (alt (special_parens source)
      (special_brackets source))) i
  special_item_past_2 o0 o1 =
      special_item_past_1 o0 ∙ goes_right source n (insert source) (alt (special_value source) (alt
      (special_parens source) (special_brackets source))) (just T.Insert) i (firsts source).of_insert o1

  special_item_past_3 : member (terminal_at source i) special_texts ≡ false → member (terminal_at source i)
      (just T.Insert) ≡ false → member (terminal_at source i) special_values ≡ false
      → reads source n special_item i ≡ reader source n (alt (special_parens source) (special_brackets source)) i
  special_item_past_3 o0 o1 o2 =
      special_item_past_2 o0 o1 ∙ goes_right source n (special_value source) (alt (special_parens source)
      (special_brackets source)) special_values i (firsts source).of_special_value o2

  special_item_past_4 : member (terminal_at source i) special_texts ≡ false → member (terminal_at source i)
      (just T.Insert) ≡ false → member (terminal_at source i) special_values ≡ false → member (terminal_at source i)
      (just T.RawParen) ≡ false
      → reads source n special_item i ≡ reader source n (special_brackets source) i
  special_item_past_4 o0 o1 o2 o3 =
      special_item_past_3 o0 o1 o2 ∙ goes_right source n (special_parens source) (special_brackets source)
      (just T.RawParen) i (firsts source).of_special_parens o3

  pub special_item_raw : member (terminal_at source i) special_texts ≡ true
      → reads source n special_item i ≡ reader source n texts i
  unfolding special_item
  special_item_raw m =
      goes_left source n texts (alt (insert source) (alt (special_value source) (alt
      (special_parens source) (special_brackets source)))) special_texts i (firsts source).of_raw m

  pub special_item_insert : member (terminal_at source i) special_texts ≡ false → member (terminal_at source i)
      (just T.Insert) ≡ true
      → reads source n special_item i ≡ reader source n (insert source) i
  special_item_insert o0 m =
      special_item_past_1 o0 ∙ goes_left source n (insert source) (alt (special_value source) (alt
      (special_parens source) (special_brackets source))) (just T.Insert) i (firsts source).of_insert m

  pub special_item_special_value : member (terminal_at source i) special_texts ≡ false → member (terminal_at source i)
      (just T.Insert) ≡ false → member (terminal_at source i) special_values ≡ true
      → reads source n special_item i ≡ reader source n (special_value source) i
  special_item_special_value o0 o1 m =
      special_item_past_2 o0 o1 ∙ goes_left source n (special_value source) (alt (special_parens source)
      (special_brackets source)) special_values i (firsts source).of_special_value m

  pub special_item_special_parens : member (terminal_at source i) special_texts ≡ false → member (terminal_at source i)
      (just T.Insert) ≡ false → member (terminal_at source i) special_values ≡ false → member (terminal_at source i)
      (just T.RawParen) ≡ true
      → reads source n special_item i ≡ reader source n (special_parens source) i
  special_item_special_parens o0 o1 o2 m =
      special_item_past_3 o0 o1 o2 ∙ goes_left source n (special_parens source) (special_brackets source)
      (just T.RawParen) i (firsts source).of_special_parens m

  pub special_item_special_brackets : member (terminal_at source i) special_texts ≡ false → member (terminal_at source i)
      (just T.Insert) ≡ false → member (terminal_at source i) special_values ≡ false → member (terminal_at source i)
      (just T.RawParen) ≡ false
      → reads source n special_item i ≡ reader source n (special_brackets source) i
  special_item_special_brackets o0 o1 o2 o3 = special_item_past_4 o0 o1 o2 o3
