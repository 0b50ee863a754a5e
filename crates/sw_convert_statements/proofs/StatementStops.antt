-- Behind the values of statements no `#{}` goes on with a word: what stands there ends them, or begins another statement.
use Rattle.std.proofs.Common.{◌≡◌, ℕ, Bool, true, false, List, refl}
use Rattle.sw_tree.specs.declared.load.Given.{Given}
use Rattle.sw_tree.specs.declared.statement.Level.{Level}
use Rattle.sw_tree.specs.declared.statement.Level.TheVariants as levels
use Rattle.sw_tree.specs.declared.statement.Statement.{Statement}
use Rattle.sw_tree.specs.declared.text.Parts.{Parts}
use Rattle.sw_tree.specs.declared.text.Piece.{Piece}
use Rattle.sw_tree.specs.declared.text.Text.{Text}
use Rattle.sw_parse_terminals.specs.declared.terminal.Terminal.TheVariants as terminals
use Rattle.sw_parse_terminals.specs.Numbers.{just}
use Rattle.sw_parse_table.specs.declared.source.Source.{Source}
use Rattle.sw_parse_table.specs.Parts.{Part}
use Rattle.sw_convert_again.specs.Tokens.{Tok, Extent}
use Rattle.sw_convert_again.specs.Comments as spells_comments
use Rattle.sw_convert_again.specs.Comments.{SpellsComment}
use Rattle.sw_convert_again.specs.Loads.{SpellsMoreConfigured, no_more_configured, more_configured}
use Rattle.sw_convert_again.specs.Params.{SpellsMoreParams, no_more_params, more_params}
use Rattle.sw_convert_again.specs.Queries.{SpellsComparison, SpellsComparisons, compared, compared_end, compared_last, compared_more}
use Rattle.sw_convert_again.specs.RawTexts.{SpellsRawText, raw_token, raw_insert, raw_brackets, raw_end, raw_more}
use Rattle.sw_convert_again.specs.RawTexts as raws
use Rattle.sw_convert_again.specs.Statements.{Ended, marked, unmarked, OldFlags, no_flags, more_flags, say_name, SpellsName, name_row, SpellsAtName, at_word, at_insert, at_minus, SpellsStatement, SpellsBlock, braces, SpellsStatements, no_statements, lone_semicolon, more_statements}
use Rattle.sw_convert_again.specs.Statements as spells
use Rattle.sw_convert_values.specs.Values.{goes_on}
use Rattle.sw_convert_values.proofs.Stops.{is_apart, before_old, before_word}

say_apart : (level : Level) → is_apart (just (say_name level)) ≡ true
say_apart levels.Warn = refl
say_apart levels.Debug = refl
say_apart levels.Error = refl

module _ {source : Source} where
  pub before_block : {k j : ℕ} {block : List Statement} {tokens : List Tok} → SpellsBlock source k j block tokens
      → goes_on source k ≡ false
  before_block (braces opens inner closes) = before_old opens refl

  pub before_close : {k j : ℕ} → Ended source k j → goes_on source j ≡ false → goes_on source k ≡ false
  before_close (marked old) end = before_old old refl
  before_close (unmarked last) end = end

  pub before_flags : {names : List ℕ} {k f : ℕ} {places : List ℕ} → OldFlags source names k f places
      → goes_on source f ≡ false → goes_on source k ≡ false
  before_flags no_flags end = end
  before_flags (more_flags one two more) end = before_old one refl

  pub before_configured : {flagged : Bool} {k j : ℕ} {givens : List Given} {tokens : List Tok}
      → SpellsMoreConfigured source flagged k j givens tokens → goes_on source j ≡ false → goes_on source k ≡ false
  before_configured no_more_configured end = end
  before_configured (more_configured comma one more) end = before_old comma refl

  pub before_params : {k j : ℕ} {parts : List Part} {texts : List (List Tok)} → SpellsMoreParams source k j parts texts
      → goes_on source j ≡ false → goes_on source k ≡ false
  before_params no_more_params end = end
  before_params (more_params comma one more) end = before_old comma refl

  before_comparison : {k j : ℕ} {list : List Piece} {tokens : List Tok} → SpellsComparison source k j list tokens
      → goes_on source k ≡ false
  before_comparison (compared old value) = before_old old refl

  pub before_comparisons : {k j : ℕ} {list : List Piece} {tokens : List Tok} → SpellsComparisons source k j list tokens
      → goes_on source j ≡ false → goes_on source k ≡ false
  before_comparisons compared_end end = end
  before_comparisons (compared_last one) end = before_comparison one
  before_comparisons (compared_more one more) end = before_comparison one

  -- ---- before a statement

  before_raw : {k j : ℕ} {parts : List Part} {tokens : List Tok} {extents : List Extent}
      → SpellsRawText source k j parts tokens extents → goes_on source j ≡ false → goes_on source k ≡ false
  before_raw raw_end end = end
  before_raw (raw_more (raw_token old) text) end = before_old old refl
  before_raw (raw_more (raw_insert opens inner close) text) end = before_old opens refl
  before_raw (raw_more (raw_brackets raws.parens opens inner close) text) end = before_old opens refl
  before_raw (raw_more (raw_brackets raws.squares opens inner close) text) end = before_old opens refl
  before_raw (raw_more (raw_brackets raws.braces opens inner close) text) end = before_old opens refl

  before_at_name : {k j : ℕ} {parts : Parts} {tokens : List Tok} → SpellsAtName source k j parts tokens
      → goes_on source k ≡ false
  before_at_name (at_word (name_row old row)) = before_old old refl
  before_at_name (at_insert one opens inner close row) = before_old one refl
  before_at_name (at_minus one minus opens inner close row) = before_old one refl

  before_custom : {k j : ℕ} {parts : Parts} {tokens : List Tok} → SpellsName source terminals.Custom k j parts tokens
      → goes_on source k ≡ false
  before_custom (name_row old row) = before_old old refl

  before_comment : {k j : ℕ} {text : Text} {tokens : List Tok} → SpellsComment source k j text tokens
      → goes_on source k ≡ false
  before_comment (spells_comments.whole_comment old) = before_old old refl
  before_comment (spells_comments.comment_template old made row close) = before_old old refl
  before_comment (spells_comments.whole_lines old made) = before_old old refl
  before_comment (spells_comments.lines_template old made lines) = before_old old refl

  before_statement : {k j : ℕ} {statement : Statement} {tokens : List Tok} → SpellsStatement source k j statement tokens
      → goes_on source k ≡ false
  before_statement (spells.return_line span old inner end) = before_old old refl
  before_statement (spells.say_line level span old inner end) = before_old old (say_apart level)
  before_statement (spells.variable_line span one two three inner flags end) = before_old one refl
  before_statement (spells.assignment_line span target_span one two three four five inner flags end) = before_old one refl
  before_statement (spells.import_line span old inner end) = before_old old refl
  before_statement (spells.extend_line span old inner end) = before_old old refl
  before_statement (spells.content_line span old given end) = before_old old refl
  before_statement (spells.charset_line span one two end) = before_old one refl
  before_statement (spells.declaration_line span text_span word mark inner end) = before_word word
  before_statement (spells.custom_line span text_span name mark inner end) = before_custom name
  before_statement (spells.function_block span one two head block) = before_old one refl
  before_statement (spells.mixin_block span one two head block) = before_old one refl
  before_statement (spells.include_line span name_span old mixin given using end) = before_old old refl
  before_statement (spells.include_block span name_span old mixin given using block) = before_old old refl
  before_statement (spells.at_rule_line span text_span name raw end) = before_at_name name
  before_statement (spells.at_rule_block span text_span name raw block) = before_at_name name
  before_statement (spells.properties_block span text_span word mark block) = before_word word
  before_statement (spells.properties_value_block span text_span word mark inner block) = before_word word
  before_statement (spells.at_root_block span old block) = before_old old refl
  before_statement (spells.at_root_text_block span old raw block) = before_old old refl
  before_statement (spells.each_block span one two three names in_word inner block) = before_old one refl
  before_statement (spells.for_block span one two three four low old high block) = before_old one refl
  before_statement (spells.while_block span old inner block) = before_old old refl
  before_statement (spells.if_block span old inner block further otherwise) = before_old old refl
  before_statement (spells.supports_block span old raw block) = before_old old refl
  before_statement (spells.rule_block span raw block) = before_raw raw (before_block block)
  before_statement (spells.comment_line comment) = before_comment comment
  before_statement (spells.use_line span one two name settings end) = before_old one refl
  before_statement (spells.forward_line span one two renamed members settings end) = before_old one refl
  before_statement (spells.media_block span text_span old queries block) = before_old old refl

  pub before_statements : {k j : ℕ} {list : List Statement} {tokens : List Tok} → SpellsStatements source k j list tokens
      → goes_on source j ≡ false → goes_on source k ≡ false
  before_statements no_statements end = end
  before_statements (lone_semicolon old more) end = before_old old refl
  before_statements (more_statements one more) end = before_statement one
