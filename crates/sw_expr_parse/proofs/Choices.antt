-- Which operand is read, by the terminal that stands there.
use Rattle.std.proofs.Common.{◌≡◌, ℕ, true, false, refl, ◌∙◌}
use Rattle.sw_parse_grammar.specs.Grammar.{alt, first, member}
use Rattle.sw_parse_terminals.specs.declared.terminal.Terminal.TheVariants as T
use Rattle.sw_parse_terminals.specs.Numbers.{just}
use Rattle.sw_parse_table.specs.declared.source.Source.{Source}
use Rattle.sw_parse_table.specs.Sources.{terminal_at}
use Rattle.sw_parse_table.specs.Sets.{numbers, constants, words, bangs, parens_opening, literals, dollars}
use Rattle.sw_parse_table.specs.Expressions.{number, insert, quoted, text_item, url_item, template, hash, constant, url, url_template, special, variable, word_insert, part_insert, word_part, word_start, word, arguments_in, called, owned_variable, owned_call, owned, range, parent, important, parens, brackets, literal, other, primary, special_number, special_expr, special_value, special_parens, special_brackets, special_item}
use Rattle.sw_parse_table.specs.Reads.{reader, reads}
use Rattle.sw_parse_expr_lists.proofs.Choices.{goes_left, goes_right}

-- what each row begins with
record Firsts (source : Source) : Type 0 where
  of_number : first (number source) ≡ numbers
  of_quoted : first (quoted source) ≡ (just T.Quoted)
  of_template : first (template source) ≡ (just T.Template)
  of_hash : first (hash source) ≡ (just T.Hash)
  of_constant : first (constant source) ≡ constants
  of_url : first (url source) ≡ (just T.Url)
  of_called : first (called source) ≡ words
  of_range : first (range source) ≡ (just T.Range)
  of_parent : first (parent source) ≡ (just T.Ampersand)
  of_important : first (important source) ≡ bangs
  of_parens : first (parens source) ≡ parens_opening
  of_literal : first (literal source) ≡ literals
  of_special : first (special source) ≡ (just T.Special)
  of_variable : first (variable source) ≡ dollars
  of_owned : first (owned source) ≡ (just T.Owner)

firsts : (source : Source) → Firsts source
unfolding number insert quoted text_item url_item template hash constant url url_template special variable word_insert part_insert word_part word_start word arguments_in called owned_variable owned_call owned range parent important parens brackets literal other primary special_number special_expr special_value special_parens special_brackets special_item
firsts source =
    record { of_number = refl; of_quoted = refl; of_template = refl; of_hash = refl; of_constant = refl; of_url = refl; of_called = refl; of_range = refl; of_parent = refl; of_important = refl; of_parens = refl; of_literal = refl; of_special = refl; of_variable = refl; of_owned = refl }

module _ (source : Source) (n : ℕ) (i : ℕ) where
  literal_past_1 : member (terminal_at source i) numbers ≡ false
      → reads source n literal i ≡ reader source n (alt (quoted source) (alt (template source) (alt (hash source) (alt
      (constant source) (alt (url source) (url_template source)))))) i
  unfolding literal
  literal_past_1 o0 =
      goes_right source n (number source) (alt (quoted source) (alt (template source) (alt (hash source) (alt
      (constant source) (alt (url source) (url_template source)))))) numbers i (firsts source).of_number o0

  literal_past_2 : member (terminal_at source i) numbers ≡ false → member (terminal_at source i) (just T.Quoted) ≡ false
      → reads source n literal i ≡ reader source n (alt (template source) (alt (hash source) (alt (constant source) (alt
      (url source) (url_template source))))) i
  literal_past_2 o0 o1 =
      literal_past_1 o0 ∙ goes_right source n (quoted source) (alt (template source) (alt (hash source) (alt
      (constant source) (alt (url source) (url_template source))))) (just T.Quoted) i (firsts source).of_quoted o1

  literal_past_3 : member (terminal_at source i) numbers ≡ false → member (terminal_at source i) (just T.Quoted) ≡ false
      → member (terminal_at source i) (just T.Template) ≡ false
      → reads source n literal i ≡ reader source n (alt (hash source) (alt (constant source) (alt (url source)
      (url_template source)))) i
  literal_past_3 o0 o1 o2 =
      literal_past_2 o0 o1 ∙ goes_right source n (template source) (alt (hash source) (alt (constant source) (alt
      (url source) (url_template source)))) (just T.Template) i (firsts source).of_template o2

  literal_past_4 : member (terminal_at source i) numbers ≡ false → member (terminal_at source i) (just T.Quoted) ≡ false
      → member (terminal_at source i) (just T.Template) ≡ false → member (terminal_at source i) (just T.Hash) ≡ false
      → reads source n literal i ≡ reader source n (alt (constant source) (alt (url source) (url_template source))) i
  literal_past_4 o0 o1 o2 o3 =
      literal_past_3 o0 o1 o2 ∙ goes_right source n (hash source) (alt (constant source) (alt (url source)
      (url_template source))) (just T.Hash) i (firsts source).of_hash o3

  literal_past_5 : member (terminal_at source i) numbers ≡ false → member (terminal_at source i) (just T.Quoted) ≡ false
      → member (terminal_at source i) (just T.Template) ≡ false → member (terminal_at source i) (just T.Hash) ≡ false
      → member (terminal_at source i) constants ≡ false
      → reads source n literal i ≡ reader source n (alt (url source) (url_template source)) i
  literal_past_5 o0 o1 o2 o3 o4 =
      literal_past_4 o0 o1 o2 o3 ∙ goes_right source n (constant source) (alt (url source)
      (url_template source)) constants i (firsts source).of_constant o4

  literal_past_6 : member (terminal_at source i) numbers ≡ false → member (terminal_at source i) (just T.Quoted) ≡ false
      → member (terminal_at source i) (just T.Template) ≡ false → member (terminal_at source i) (just T.Hash) ≡ false
      → member (terminal_at source i) constants ≡ false → member (terminal_at source i) (just T.Url) ≡ false
      → reads source n literal i ≡ reader source n (url_template source) i
  literal_past_6 o0 o1 o2 o3 o4 o5 =
      literal_past_5 o0 o1 o2 o3 o4 ∙ goes_right source n (url source) (url_template source) (just T.Url) i
      (firsts source).of_url o5

  pub literal_number : member (terminal_at source i) numbers ≡ true
      → reads source n literal i ≡ reader source n (number source) i
  unfolding literal
  literal_number m =
      goes_left source n (number source) (alt (quoted source) (alt (template source) (alt (hash source) (alt
      (constant source) (alt (url source) (url_template source)))))) numbers i (firsts source).of_number m

  pub literal_quoted : member (terminal_at source i) numbers ≡ false → member (terminal_at source i)
      (just T.Quoted) ≡ true
      → reads source n literal i ≡ reader source n (quoted source) i
  literal_quoted o0 m =
      literal_past_1 o0 ∙ goes_left source n (quoted source) (alt (template source) (alt (hash source) (alt
      (constant source) (alt (url source) (url_template source))))) (just T.Quoted) i (firsts source).of_quoted m

  pub literal_template : member (terminal_at source i) numbers ≡ false → member (terminal_at source i)
      (just T.Quoted) ≡ false → member (terminal_at source i) (just T.Template) ≡ true
      → reads source n literal i ≡ reader source n (template source) i
  literal_template o0 o1 m =
      literal_past_2 o0 o1 ∙ goes_left source n (template source) (alt (hash source) (alt (constant source) (alt
      (url source) (url_template source)))) (just T.Template) i (firsts source).of_template m

  pub literal_hash : member (terminal_at source i) numbers ≡ false → member (terminal_at source i)
      (just T.Quoted) ≡ false → member (terminal_at source i) (just T.Template) ≡ false → member (terminal_at source i)
      (just T.Hash) ≡ true
      → reads source n literal i ≡ reader source n (hash source) i
  literal_hash o0 o1 o2 m =
      literal_past_3 o0 o1 o2 ∙ goes_left source n (hash source) (alt (constant source) (alt (url source)
      (url_template source))) (just T.Hash) i (firsts source).of_hash m

  pub literal_constant : member (terminal_at source i) numbers ≡ false → member (terminal_at source i)
      (just T.Quoted) ≡ false → member (terminal_at source i) (just T.Template) ≡ false → member (terminal_at source i)
      (just T.Hash) ≡ false → member (terminal_at source i) constants ≡ true
      → reads source n literal i ≡ reader source n (constant source) i
  literal_constant o0 o1 o2 o3 m =
      literal_past_4 o0 o1 o2 o3 ∙ goes_left source n (constant source) (alt (url source)
      (url_template source)) constants i (firsts source).of_constant m

  pub literal_url : member (terminal_at source i) numbers ≡ false → member (terminal_at source i)
      (just T.Quoted) ≡ false → member (terminal_at source i) (just T.Template) ≡ false → member (terminal_at source i)
      (just T.Hash) ≡ false → member (terminal_at source i) constants ≡ false → member (terminal_at source i)
      (just T.Url) ≡ true
      → reads source n literal i ≡ reader source n (url source) i
  literal_url o0 o1 o2 o3 o4 m =
      literal_past_5 o0 o1 o2 o3 o4 ∙ goes_left source n (url source) (url_template source) (just T.Url) i
      (firsts source).of_url m

  pub literal_url_template : member (terminal_at source i) numbers ≡ false → member (terminal_at source i)
      (just T.Quoted) ≡ false → member (terminal_at source i) (just T.Template) ≡ false → member (terminal_at source i)
      (just T.Hash) ≡ false → member (terminal_at source i) constants ≡ false → member (terminal_at source i)
      (just T.Url) ≡ false
      → reads source n literal i ≡ reader source n (url_template source) i
  literal_url_template o0 o1 o2 o3 o4 o5 = literal_past_6 o0 o1 o2 o3 o4 o5

  other_past_1 : member (terminal_at source i) words ≡ false
      → reads source n other i ≡ reader source n (alt (range source) (alt (parent source) (alt (important source) (alt
      (parens source) (brackets source))))) i
  unfolding other
  other_past_1 o0 =
      goes_right source n (called source) (alt (range source) (alt (parent source) (alt (important source) (alt
      (parens source) (brackets source))))) words i (firsts source).of_called o0

  other_past_2 : member (terminal_at source i) words ≡ false → member (terminal_at source i) (just T.Range) ≡ false
      → reads source n other i ≡ reader source n (alt (parent source) (alt (important source) (alt (parens source)
      (brackets source)))) i
  other_past_2 o0 o1 =
      other_past_1 o0 ∙ goes_right source n (range source) (alt (parent source) (alt (important source) (alt
      (parens source) (brackets source)))) (just T.Range) i (firsts source).of_range o1

  other_past_3 : member (terminal_at source i) words ≡ false → member (terminal_at source i) (just T.Range) ≡ false
      → member (terminal_at source i) (just T.Ampersand) ≡ false
      → reads source n other i ≡ reader source n (alt (important source) (alt (parens source) (brackets source))) i
  other_past_3 o0 o1 o2 =
      other_past_2 o0 o1 ∙ goes_right source n (parent source) (alt (important source) (alt (parens source)
      (brackets source))) (just T.Ampersand) i (firsts source).of_parent o2

  other_past_4 : member (terminal_at source i) words ≡ false → member (terminal_at source i) (just T.Range) ≡ false
      → member (terminal_at source i) (just T.Ampersand) ≡ false → member (terminal_at source i) bangs ≡ false
      → reads source n other i ≡ reader source n (alt (parens source) (brackets source)) i
  other_past_4 o0 o1 o2 o3 =
      other_past_3 o0 o1 o2 ∙ goes_right source n (important source) (alt (parens source) (brackets source)) bangs i
      (firsts source).of_important o3

  other_past_5 : member (terminal_at source i) words ≡ false → member (terminal_at source i) (just T.Range) ≡ false
      → member (terminal_at source i) (just T.Ampersand) ≡ false → member (terminal_at source i) bangs ≡ false → member
      (terminal_at source i) parens_opening ≡ false
      → reads source n other i ≡ reader source n (brackets source) i
  other_past_5 o0 o1 o2 o3 o4 =
      other_past_4 o0 o1 o2 o3 ∙ goes_right source n (parens source) (brackets source) parens_opening i
      (firsts source).of_parens o4

  pub other_called : member (terminal_at source i) words ≡ true
      → reads source n other i ≡ reader source n (called source) i
  unfolding other
  other_called m =
      goes_left source n (called source) (alt (range source) (alt (parent source) (alt (important source) (alt
      (parens source) (brackets source))))) words i (firsts source).of_called m

  pub other_range : member (terminal_at source i) words ≡ false → member (terminal_at source i) (just T.Range) ≡ true
      → reads source n other i ≡ reader source n (range source) i
  other_range o0 m =
      other_past_1 o0 ∙ goes_left source n (range source) (alt (parent source) (alt (important source) (alt
      (parens source) (brackets source)))) (just T.Range) i (firsts source).of_range m

  pub other_parent : member (terminal_at source i) words ≡ false → member (terminal_at source i) (just T.Range) ≡ false
      → member (terminal_at source i) (just T.Ampersand) ≡ true
      → reads source n other i ≡ reader source n (parent source) i
  other_parent o0 o1 m =
      other_past_2 o0 o1 ∙ goes_left source n (parent source) (alt (important source) (alt (parens source)
      (brackets source))) (just T.Ampersand) i (firsts source).of_parent m

  pub other_important : member (terminal_at source i) words ≡ false → member (terminal_at source i)
      (just T.Range) ≡ false → member (terminal_at source i) (just T.Ampersand) ≡ false → member
      (terminal_at source i) bangs ≡ true
      → reads source n other i ≡ reader source n (important source) i
  other_important o0 o1 o2 m =
      other_past_3 o0 o1 o2 ∙ goes_left source n (important source) (alt (parens source) (brackets source)) bangs i
      (firsts source).of_important m

  pub other_parens : member (terminal_at source i) words ≡ false → member (terminal_at source i) (just T.Range) ≡ false
      → member (terminal_at source i) (just T.Ampersand) ≡ false → member (terminal_at source i) bangs ≡ false → member
      (terminal_at source i) parens_opening ≡ true
      → reads source n other i ≡ reader source n (parens source) i
  other_parens o0 o1 o2 o3 m =
      other_past_4 o0 o1 o2 o3 ∙ goes_left source n (parens source) (brackets source) parens_opening i
      (firsts source).of_parens m

  pub other_brackets : member (terminal_at source i) words ≡ false → member (terminal_at source i)
      (just T.Range) ≡ false → member (terminal_at source i) (just T.Ampersand) ≡ false → member
      (terminal_at source i) bangs ≡ false → member (terminal_at source i) parens_opening ≡ false
      → reads source n other i ≡ reader source n (brackets source) i
  other_brackets o0 o1 o2 o3 o4 = other_past_5 o0 o1 o2 o3 o4

  primary_past_1 : member (terminal_at source i) literals ≡ false
      → reads source n primary i ≡ reader source n (alt (special source) (alt (variable source) (alt (owned source)
      (other source)))) i
  unfolding primary
  primary_past_1 o0 =
      goes_right source n (literal source) (alt (special source) (alt (variable source) (alt (owned source)
      (other source)))) literals i (firsts source).of_literal o0

  primary_past_2 : member (terminal_at source i) literals ≡ false → member (terminal_at source i)
      (just T.Special) ≡ false
      → reads source n primary i ≡ reader source n (alt (variable source) (alt (owned source) (other source))) i
  primary_past_2 o0 o1 =
      primary_past_1 o0 ∙ goes_right source n (special source) (alt (variable source) (alt (owned source)
      (other source))) (just T.Special) i (firsts source).of_special o1

  primary_past_3 : member (terminal_at source i) literals ≡ false → member (terminal_at source i)
      (just T.Special) ≡ false → member (terminal_at source i) dollars ≡ false
      → reads source n primary i ≡ reader source n (alt (owned source) (other source)) i
  primary_past_3 o0 o1 o2 =
      primary_past_2 o0 o1 ∙ goes_right source n (variable source) (alt (owned source) (other source)) dollars i
      (firsts source).of_variable o2

  primary_past_4 : member (terminal_at source i) literals ≡ false → member (terminal_at source i)
      (just T.Special) ≡ false → member (terminal_at source i) dollars ≡ false → member (terminal_at source i)
      (just T.Owner) ≡ false
      → reads source n primary i ≡ reader source n (other source) i
  primary_past_4 o0 o1 o2 o3 =
      primary_past_3 o0 o1 o2 ∙ goes_right source n (owned source) (other source) (just T.Owner) i
      (firsts source).of_owned o3

  pub primary_literal : member (terminal_at source i) literals ≡ true
      → reads source n primary i ≡ reader source n (literal source) i
  unfolding primary
  primary_literal m =
      goes_left source n (literal source) (alt (special source) (alt (variable source) (alt (owned source)
      (other source)))) literals i (firsts source).of_literal m

  pub primary_special : member (terminal_at source i) literals ≡ false → member (terminal_at source i)
      (just T.Special) ≡ true
      → reads source n primary i ≡ reader source n (special source) i
  primary_special o0 m =
      primary_past_1 o0 ∙ goes_left source n (special source) (alt (variable source) (alt (owned source)
      (other source))) (just T.Special) i (firsts source).of_special m

  pub primary_variable : member (terminal_at source i) literals ≡ false → member (terminal_at source i)
      (just T.Special) ≡ false → member (terminal_at source i) dollars ≡ true
      → reads source n primary i ≡ reader source n (variable source) i
  primary_variable o0 o1 m =
      primary_past_2 o0 o1 ∙ goes_left source n (variable source) (alt (owned source) (other source)) dollars i
      (firsts source).of_variable m

  pub primary_owned : member (terminal_at source i) literals ≡ false → member (terminal_at source i)
      (just T.Special) ≡ false → member (terminal_at source i) dollars ≡ false → member (terminal_at source i)
      (just T.Owner) ≡ true
      → reads source n primary i ≡ reader source n (owned source) i
  primary_owned o0 o1 o2 m =
      primary_past_3 o0 o1 o2 ∙ goes_left source n (owned source) (other source) (just T.Owner) i
      (firsts source).of_owned m

  pub primary_other : member (terminal_at source i) literals ≡ false → member (terminal_at source i)
      (just T.Special) ≡ false → member (terminal_at source i) dollars ≡ false → member (terminal_at source i)
      (just T.Owner) ≡ false
      → reads source n primary i ≡ reader source n (other source) i
  primary_other o0 o1 o2 o3 = primary_past_4 o0 o1 o2 o3
