-- What is written of statements with values, up to their end or their block, is their tokens, where what is written of the
-- values is.
use Rattle.std.specs.Prelude.{◌≡◌, ℕ, suc, Bool, true, false, not, ◌&&◌, ◌||◌, List, ◌∷◌, ◌++◌, take, Option, codes, []}
use Rattle.sw_text_scan.specs.declared.runs.Class.TheVariants as classes
use Rattle.sw_text_scan.specs.Runs.{run_end}
use Rattle.sw_tree.specs.declared.expr.Expr.{Expr}
use Rattle.sw_tree.specs.declared.expr.Namespaced.{Namespaced}
use Rattle.sw_tree.specs.declared.load.Namespace.{Namespace}
use Rattle.sw_tree.specs.declared.statement.Statement.{Statement}
use Rattle.sw_tree.specs.declared.text.Parts.TheVariants.{Mixed}
use Rattle.sw_parse_terminals.specs.declared.terminal.Terminal.{Terminal}
use Rattle.sw_parse_terminals.specs.declared.terminal.Terminal.TheVariants as terminals
use Rattle.sw_parse_lexemes.specs.declared.state.Mode.TheVariants as modes
use Rattle.sw_parse_lexemes.specs.Words.{word_sort}
use Rattle.sw_parse_table.specs.declared.source.Source.{Source}
use Rattle.sw_parse_terminals.specs.Urls.{has_namespace}
use Rattle.sw_parse_table.specs.Sources.{decoded_at}
use Rattle.sw_parse_table.specs.Actions.{name_at}
use Rattle.sw_convert_written.specs.Expressions.{expr_text, is_url}
use Rattle.sw_convert_written.specs.Names.{name_text}
use Rattle.sw_convert_passing.specs.Kinds.{is_bound}
use Rattle.sw_convert_again.specs.Tokens.{Tok, sign}
use Rattle.sw_convert_again.specs.Spells.{Spells, SpellsPlain}
use Rattle.sw_convert_again.specs.Statements.{SpellsStatement}
use Rattle.sw_convert_again.specs.Statements as spells
use Rattle.sw_convert_again.specs.Loads.{SpellsNamespace}
use Rattle.sw_convert_again.specs.Loads as spells_loads
use Rattle.sw_convert_again.specs.Params.{SpellsMixinName, own_name, owned_name}
use Rattle.sw_convert_tokens.specs.Written.{AsRow, AsValue, WrittenAs}
use Rattle.sw_convert_tokens.specs.Values.{WasRead}
use Rattle.sw_convert_texts.specs.Comments.{comment_known}
use Rattle.sw_convert_statements.specs.Segments.{ElseWritten}
use Rattle.sw_convert_statements.specs.Statements.{FrontIs}
use Rattle.sw_convert_statements.specs.Media.{are_queries, is_seamless}
use Rattle.sw_convert_statements.specs.Starts.{may_begin}
use Rattle.sw_convert_values.specs.Values.{is_led, goes_on}

-- what is written of each value of a sheet is its tokens, and of one that is no list with commas and without brackets
-- those of one value
pub record ValuesAreKnown (source : Source) : Type 0 where
  pub rows : (i j : ℕ) (value : Expr) (tokens : List Tok) → is_led source i ≡ false → goes_on source j ≡ false
      → Spells source i j value tokens → WrittenAs AsRow (expr_text value) tokens
  pub plains : (i j : ℕ) (value : Expr) (tokens : List Tok) → is_led source i ≡ false → goes_on source j ≡ false
      → SpellsPlain source i j value tokens
      → (signed : Bool) × WrittenAs (AsValue signed) (expr_text value) tokens

-- the name of a function or a mixin, behind which a `(` begins no url
abbrev pub is_callable : Source → ℕ → Bool
is_callable source at = not (is_url (name_text (name_at source at)))

abbrev pub is_mixin_name : (source : Source) {i j : ℕ} {namespace : Option Namespaced} {at : ℕ} {tokens : List Tok}
    → SpellsMixinName source i j namespace at tokens → Bool
is_mixin_name source (own_name {i} old) = is_callable source i
is_mixin_name source (owned_name {i} owner dot old) = is_callable source (suc (suc i))

-- the url gives a namespace, or one is written
abbrev pub is_namespace : (source : Source) {url i j : ℕ} {namespace : Namespace} {tokens : List Tok}
    → SpellsNamespace source url i j namespace tokens → Bool
is_namespace source {url = url} spells_loads.default_namespace = has_namespace (decoded_at source url)
is_namespace source _ = true

-- no word stands among these tokens
abbrev pub is_word_token : List Terminal → Bool
is_word_token (terminals.Word ∷ []) = true
is_word_token _ = false

abbrev pub wordless : List Tok → Bool
wordless [] = true
wordless (token ∷ tokens) = not (is_word_token token.kinds) && wordless tokens

-- a word that ends a bound begins the text, or begins in it
abbrev pub begins_bound : List ℕ → Bool
begins_bound text = is_bound (word_sort (take (run_end classes.Word text 0) text))

abbrev pub has_bound : List ℕ → Bool
has_bound [] = false
has_bound (b ∷ text) = begins_bound (b ∷ text) || has_bound text

-- a bound in which no word stands, or no name ends with `to` or `through`
abbrev pub is_unbounded : List ℕ → List Tok → Bool
is_unbounded text tokens = wordless tokens || not (has_bound text)

-- the statements of which it is proved: those of values, `@each`, `@for` with such bounds, variables with flags,
-- assignments, `@charset`, `@content`, `@at-root` without a selector, `@forward`, `@use`, `@media`, functions, mixins and
-- `@include`, where their names are such, and loud comments
abbrev pub is_told : {source : Source} {i j : ℕ} {statement : Statement} {tokens : List Tok}
    → SpellsStatement source i j statement tokens → Bool
is_told (spells.return_line span old inner end) = true
is_told (spells.say_line level span old inner end) = true
is_told (spells.variable_line span one two three inner flags end) = true
is_told (spells.assignment_line span target_span one two three four five inner flags end) = true
is_told (spells.charset_line span one two end) = true
is_told (spells.content_line span old given end) = true
is_told {source} (spells.include_line span name_span old mixin given using end) = is_mixin_name source mixin
is_told {source} (spells.include_block span name_span old mixin given using block) = is_mixin_name source mixin
is_told (spells.at_root_block span old block) = true
is_told (spells.forward_line span one two renamed members settings end) = true
is_told {source} (spells.use_line span one two name settings end) = is_namespace source name
is_told {source} (spells.function_block {i} span one two head block) = is_callable source (suc i)
is_told {source} (spells.mixin_block {i} span one two head block) = is_callable source (suc i)
is_told
    (spells.for_block {from = from} {to = to} {tokens = tokens} {others = others} span one two three four low old high
    block) =
    is_unbounded (expr_text from) tokens && is_unbounded (expr_text to) others
is_told (spells.while_block span old inner block) = true
is_told (spells.if_block span old inner block further otherwise) = true
is_told (spells.each_block span one two three names in_word inner block) = true
is_told {source} (spells.media_block {list = list} span text_span old queries block) =
    is_seamless (record { parts = Mixed list; span = text_span }) && are_queries source queries
is_told {source} (spells.comment_line comment) = comment_known source comment
is_told _ = false

abbrev pub FrontsAreWritten : Type 0
FrontsAreWritten =
    (source : Source) → WasRead source → ValuesAreKnown source → (i j : ℕ) (statement : Statement) (tokens : List Tok)
    → may_begin source i ≡ true → goes_on source j ≡ false → (spelt : SpellsStatement source i j statement tokens)
    → is_told spelt ≡ true → FrontIs spelt

-- the same of `@else if`
abbrev pub BranchesAreWritten : Type 0
BranchesAreWritten =
    (value : List ℕ) (tokens : List Tok) → WrittenAs AsRow value tokens
    → ElseWritten modes.Expression (codes "@else if " ++ value)
    (sign terminals.AtElseIf ∷ sign terminals.If ∷ tokens)
