-- Sheets of which all statements are of the kinds of which it is proved that they are written as their tokens.
use Rattle.std.specs.Prelude.{◌≡◌, ℕ, Bool, true, false, ◌&&◌, ◌||◌, List, Option}
use Rattle.sw_tree.specs.declared.statement.Branch.{Branch}
use Rattle.sw_tree.specs.declared.statement.Statement.{Statement}
use Rattle.sw_parse_lexemes.specs.declared.state.Mode.TheVariants as modes
use Rattle.sw_parse_table.specs.declared.source.Source.{Source}
use Rattle.sw_convert_again.specs.Tokens.{Tok}
use Rattle.sw_convert_again.specs.Statements.{SpellsStatement, SpellsBlock, SpellsBranches, SpellsElse, SpellsStatements}
use Rattle.sw_convert_again.specs.Statements as spells
use Rattle.sw_convert_tokens.specs.Values.{WasRead}
use Rattle.sw_convert_values.specs.Values.{goes_on}
use Rattle.sw_convert_statements.specs.Statements.{ListHasFronts}
use Rattle.sw_convert_statements.specs.Starts.{may_begin}
use Rattle.sw_convert_statements.specs.Fronts.{ValuesAreKnown, is_told}
use Rattle.sw_convert_statements.specs.Texts.{TextsAreKnown, has_text}
use Rattle.sw_convert_statements.specs.Names.{SelectorsAreKnown, has_name}

-- a statement itself
abbrev pub is_known : {source : Source} {i j : ℕ} {statement : Statement} {tokens : List Tok}
    → SpellsStatement source i j statement tokens → Bool
is_known spelt = is_told spelt || (has_text spelt || has_name spelt)

-- and all statements in its blocks
abbrev mutual
  pub are_known : {source : Source} {i j : ℕ} {statement : Statement} {tokens : List Tok}
      → SpellsStatement source i j statement tokens → Bool
  are_known (spells.function_block span one two head block) =
      is_known (spells.function_block span one two head block) && block_known block
  are_known (spells.mixin_block span one two head block) =
      is_known (spells.mixin_block span one two head block) && block_known block
  are_known (spells.include_block span name_span old mixin given using block) =
      is_known (spells.include_block span name_span old mixin given using block) && block_known block
  are_known (spells.for_block span one two three four low old high block) =
      is_known (spells.for_block span one two three four low old high block) && block_known block
  are_known (spells.while_block span old inner block) = block_known block
  are_known (spells.each_block span one two three names in_word inner block) = block_known block
  are_known (spells.supports_block span old raw block) =
      is_known (spells.supports_block span old raw block) && block_known block
  are_known (spells.at_root_block span old block) = block_known block
  are_known (spells.at_root_text_block span old raw block) =
      is_known (spells.at_root_text_block span old raw block) && block_known block
  are_known (spells.at_rule_block span text_span name raw block) =
      is_known (spells.at_rule_block span text_span name raw block) && block_known block
  are_known (spells.properties_block span text_span word mark block) =
      is_known (spells.properties_block span text_span word mark block) && block_known block
  are_known (spells.properties_value_block span text_span word mark inner block) =
      is_known (spells.properties_value_block span text_span word mark inner block) && block_known block
  are_known (spells.rule_block span raw block) = is_known (spells.rule_block span raw block) && block_known block
  are_known (spells.media_block span text_span old queries block) =
      is_known (spells.media_block span text_span old queries block) && block_known block
  are_known (spells.if_block span old inner block further otherwise) =
      block_known block && (branches_known further && else_known otherwise)
  are_known spelt = is_known spelt

  pub block_known : {source : Source} {i j : ℕ} {list : List Statement} {tokens : List Tok}
      → SpellsBlock source i j list tokens → Bool
  block_known (spells.braces opens inner closes) = list_known inner

  pub branches_known : {source : Source} {i j : ℕ} {branches : List Branch} {tokens : List Tok}
      → SpellsBranches source i j branches tokens → Bool
  branches_known spells.no_branches = true
  branches_known (spells.more_branches old inner block more) = block_known block && branches_known more

  pub else_known : {source : Source} {i j : ℕ} {otherwise : Option (List Statement)} {tokens : List Tok}
      → SpellsElse source i j otherwise tokens → Bool
  else_known spells.no_else = true
  else_known (spells.else_block old block) = block_known block

  pub list_known : {source : Source} {i j : ℕ} {list : List Statement} {tokens : List Tok}
      → SpellsStatements source i j list tokens → Bool
  list_known spells.no_statements = true
  list_known (spells.lone_semicolon old more) = list_known more
  list_known (spells.more_statements one more) = are_known one && list_known more

-- such a sheet is written as its tokens up to the ends and the blocks of its statements, where its values, texts and
-- selectors are
abbrev pub KnownSheetsHaveFronts : Type 0
KnownSheetsHaveFronts =
    (source : Source) → WasRead source → ValuesAreKnown source → TextsAreKnown modes.Raw source
    → TextsAreKnown modes.Custom source → SelectorsAreKnown source → (i j : ℕ) (list : List Statement) (tokens : List Tok)
    → may_begin source i ≡ true → goes_on source j ≡ false → (spelt : SpellsStatements source i j list tokens)
    → list_known spelt ≡ true → ListHasFronts spelt
