-- Sheets of statements of the kinds that are written as their tokens.
use Rattle.std.proofs.Common.{◌≡◌, ℕ, Bool, true, false, ◌||◌, List, length, Option, refl, ap, arith}
use Rattle.std.proofs.lemmas.Option.{slice_get_past}
use Rattle.sw_tree.specs.declared.statement.Branch.{Branch}
use Rattle.sw_tree.specs.declared.statement.Statement.{Statement}
use Rattle.sw_parse_lexemes.specs.declared.state.Mode.TheVariants as modes
use Rattle.sw_parse_table.specs.declared.source.Source.{Source}
use Rattle.sw_convert_passing.proofs.Facts.{and_left, and_right}
use Rattle.sw_convert_again.specs.Tokens.{Tok}
use Rattle.sw_convert_again.specs.Statements.{SpellsStatement, SpellsBlock, SpellsBranches, SpellsElse, SpellsStatements, OldElseIf, one_word, two_words}
use Rattle.sw_convert_again.specs.Statements as spells
use Rattle.sw_convert_tokens.specs.Values.{WasRead}
use Rattle.sw_convert_values.proofs.Values.{values_written, plains_written}
use Rattle.sw_convert_statements.specs.Statements.{FrontIs, HasFronts, BlockHasFronts, BranchesHaveFronts, ElseHasFronts, ListHasFronts}
use Rattle.sw_convert_statements.specs.Fronts.{ValuesAreKnown, is_told}
use Rattle.sw_convert_statements.specs.Texts.{TextsAreKnown, has_text}
use Rattle.sw_convert_statements.specs.ReadsBack.{ScssIsReadBack}
use Rattle.sw_convert_statements.specs.Told.{is_known, are_known, block_known, branches_known, else_known, list_known, KnownSheetsHaveFronts}
use Rattle.sw_convert_sheets_again.proofs.Sheets.{all_sheets_again}
use Rattle.sw_convert_statements.proofs.ReadsBack.{sheets_read_back}
use Rattle.sw_convert_statements.proofs.Fronts.{fronts_written, branches_written}
use Rattle.sw_convert_statements.specs.Names.{SelectorsAreKnown, has_name}
use Rattle.sw_convert_statements.proofs.Names.{named_fronts_written}
use Rattle.sw_convert_statements.proofs.KnownTexts.{texts_known, rules_known}
use Rattle.sw_convert_statements.proofs.Texts.{text_fronts_written}
use Rattle.sw_convert_values.specs.Values.{is_led, part_in, goes_on}
use Rattle.sw_convert_values.proofs.Stops.{before_old}
use Rattle.sw_convert_statements.specs.Starts.{may_begin}
use Rattle.sw_convert_statements.proofs.Begins.{at_start, behind_semicolon, behind_open, behind_statement}
use Rattle.sw_convert_statements.proofs.StatementStops.{before_block, before_statements}
use Rattle.sw_convert_values.proofs.Starts.{behind_old}

behind_else : {source : Source} {i k : ℕ} → OldElseIf source i k → is_led source k ≡ false
behind_else (one_word old) = behind_old old refl
behind_else (two_words one two) = behind_old two refl

module _ (source : Source) (was : WasRead source) (values : ValuesAreKnown source) (raws : TextsAreKnown modes.Raw source)
    (customs : TextsAreKnown modes.Custom source) (selectors : SelectorsAreKnown source) where
  front : {i j : ℕ} {statement : Statement} {tokens : List Tok} → may_begin source i ≡ true → goes_on source j ≡ false
      → (spelt : SpellsStatement source i j statement tokens) → is_known spelt ≡ true → FrontIs spelt
  front begins ended spelt known = go (is_told spelt) (has_text spelt) (has_name spelt) refl refl refl known
    where
      go : (a b c : Bool) → is_told spelt ≡ a → has_text spelt ≡ b → has_name spelt ≡ c → (a || (b || c)) ≡ true
          → FrontIs spelt
      go true b c e f g k = fronts_written source was values _ _ _ _ begins ended spelt e
      go false true c e f g k = text_fronts_written source raws _ _ _ _ spelt f
      go false false true e f g k = named_fronts_written source was values raws customs selectors _ _ _ _ begins ended spelt g
      go false false false e f g k = absurd (cc)

  mutual
    fronts : {i j : ℕ} {statement : Statement} {tokens : List Tok} → may_begin source i ≡ true → goes_on source j ≡ false
        → (spelt : SpellsStatement source i j statement tokens) → are_known spelt ≡ true → HasFronts spelt
    fronts begins ended (spells.function_block span one two head block) k = (
      front begins ended (spells.function_block span one two head block)
          (and_left (is_known (spells.function_block span one two head block)) _ k),
      block_fronts block (and_right (is_known (spells.function_block span one two head block)) _ k),
    )
    fronts begins ended (spells.mixin_block span one two head block) k = (
      front begins ended (spells.mixin_block span one two head block)
          (and_left (is_known (spells.mixin_block span one two head block)) _ k),
      block_fronts block (and_right (is_known (spells.mixin_block span one two head block)) _ k),
    )
    fronts begins ended (spells.include_block span name_span old mixin given using block) k = (
      front begins ended (spells.include_block span name_span old mixin given using block)
          (and_left (is_known (spells.include_block span name_span old mixin given using block)) _ k),
      block_fronts block (and_right (is_known (spells.include_block span name_span old mixin given using block)) _ k),
    )
    fronts begins ended (spells.for_block span one two three four low old high block) k = (
      front begins ended (spells.for_block span one two three four low old high block)
          (and_left (is_known (spells.for_block span one two three four low old high block)) _ k),
      block_fronts block (and_right (is_known (spells.for_block span one two three four low old high block)) _ k),
    )
    fronts begins ended (spells.while_block span old inner block) k =
        (front begins ended (spells.while_block span old inner block) refl, block_fronts block k)
    fronts begins ended (spells.each_block span one two three names in_word inner block) k =
        (front begins ended (spells.each_block span one two three names in_word inner block) refl, block_fronts block k)
    fronts begins ended (spells.supports_block span old raw block) k = (
      front begins ended (spells.supports_block span old raw block) (and_left (is_known (spells.supports_block span old raw block)) _ k),
      block_fronts block (and_right (is_known (spells.supports_block span old raw block)) _ k),
    )
    fronts begins ended (spells.at_root_block span old block) k =
        (front begins ended (spells.at_root_block span old block) refl, block_fronts block k)
    fronts begins ended (spells.at_root_text_block span old raw block) k = (
      front begins ended (spells.at_root_text_block span old raw block) (and_left (is_known (spells.at_root_text_block span old raw block)) _ k),
      block_fronts block (and_right (is_known (spells.at_root_text_block span old raw block)) _ k),
    )
    fronts begins ended (spells.at_rule_block span text_span name raw block) k = (
      front begins ended (spells.at_rule_block span text_span name raw block) (and_left (is_known (spells.at_rule_block span text_span name raw block)) _ k),
      block_fronts block (and_right (is_known (spells.at_rule_block span text_span name raw block)) _ k),
    )
    fronts begins ended (spells.properties_block span text_span word mark block) k = (
      front begins ended (spells.properties_block span text_span word mark block) (and_left (is_known (spells.properties_block span text_span word mark block)) _ k),
      block_fronts block (and_right (is_known (spells.properties_block span text_span word mark block)) _ k),
    )
    fronts begins ended (spells.properties_value_block span text_span word mark inner block) k = (
      front begins ended (spells.properties_value_block span text_span word mark inner block) (and_left (is_known (spells.properties_value_block span text_span word mark inner block)) _ k),
      block_fronts block (and_right (is_known (spells.properties_value_block span text_span word mark inner block)) _ k),
    )
    fronts begins ended (spells.rule_block span raw block) k = (
      front begins ended (spells.rule_block span raw block) (and_left (is_known (spells.rule_block span raw block)) _ k),
      block_fronts block (and_right (is_known (spells.rule_block span raw block)) _ k),
    )
    fronts begins ended (spells.media_block span text_span old queries block) k = (
      front begins ended (spells.media_block span text_span old queries block)
          (and_left (is_known (spells.media_block span text_span old queries block)) _ k),
      block_fronts block (and_right (is_known (spells.media_block span text_span old queries block)) _ k),
    )
    fronts begins ended (spells.if_block span old inner block further otherwise) k = (
      front begins ended (spells.if_block span old inner block further otherwise) refl,
      block_fronts block (and_left (block_known block) _ k),
      branch_fronts further
          (and_left (branches_known further) _ (and_right (block_known block) _ k)),
      else_fronts otherwise
          (and_right (branches_known further) _ (and_right (block_known block) _ k)),
    )
    fronts begins ended (spells.return_line span old inner end) k = front begins ended (spells.return_line span old inner end) k
    fronts begins ended (spells.say_line level span old inner end) k = front begins ended (spells.say_line level span old inner end) k
    fronts begins ended (spells.variable_line span one two three inner flags end) k =
        front begins ended (spells.variable_line span one two three inner flags end) k
    fronts begins ended (spells.assignment_line span target_span one two three four five inner flags end) k =
        front begins ended (spells.assignment_line span target_span one two three four five inner flags end) k
    fronts begins ended (spells.import_line span old inner end) k = front begins ended (spells.import_line span old inner end) k
    fronts begins ended (spells.extend_line span old inner end) k = front begins ended (spells.extend_line span old inner end) k
    fronts begins ended (spells.include_line span name_span old mixin given using end) k =
        front begins ended (spells.include_line span name_span old mixin given using end) k
    fronts begins ended (spells.content_line span old given end) k = front begins ended (spells.content_line span old given end) k
    fronts begins ended (spells.charset_line span one two end) k = front begins ended (spells.charset_line span one two end) k
    fronts begins ended (spells.use_line span one two name settings end) k =
        front begins ended (spells.use_line span one two name settings end) k
    fronts begins ended (spells.forward_line span one two renamed members settings end) k =
        front begins ended (spells.forward_line span one two renamed members settings end) k
    fronts begins ended (spells.declaration_line span text_span word mark inner end) k =
        front begins ended (spells.declaration_line span text_span word mark inner end) k
    fronts begins ended (spells.custom_line span text_span name mark inner end) k =
        front begins ended (spells.custom_line span text_span name mark inner end) k
    fronts begins ended (spells.at_rule_line span text_span name raw end) k = front begins ended (spells.at_rule_line span text_span name raw end) k
    fronts begins ended (spells.comment_line comment) k = front begins ended (spells.comment_line comment) k

    block_fronts : {i j : ℕ} {list : List Statement} {tokens : List Tok} → (block : SpellsBlock source i j list tokens)
        → block_known block ≡ true → BlockHasFronts block
    block_fronts (spells.braces opens inner closes) k = list_fronts (behind_open opens) (before_old closes refl) inner k

    branch_fronts : {i j : ℕ} {branches : List Branch} {tokens : List Tok}
        → (further : SpellsBranches source i j branches tokens) → branches_known further ≡ true
        → BranchesHaveFronts further
    branch_fronts spells.no_branches k = tt
    branch_fronts (spells.more_branches old inner block more) k = (
      branches_written _ _ (values.rows _ _ _ _ (behind_else old) (before_block block) inner),
      block_fronts block (and_left (block_known block) _ k),
      branch_fronts more (and_right (block_known block) _ k),
    )

    else_fronts : {i j : ℕ} {otherwise : Option (List Statement)} {tokens : List Tok}
        → (last : SpellsElse source i j otherwise tokens) → else_known last ≡ true → ElseHasFronts last
    else_fronts spells.no_else k = tt
    else_fronts (spells.else_block old block) k = block_fronts block k

    list_fronts : {i j : ℕ} {list : List Statement} {tokens : List Tok} → may_begin source i ≡ true
        → goes_on source j ≡ false → (spelt : SpellsStatements source i j list tokens) → list_known spelt ≡ true
        → ListHasFronts spelt
    list_fronts begins ended spells.no_statements k = tt
    list_fronts begins ended (spells.lone_semicolon old more) k = list_fronts (behind_semicolon old) ended more k
    list_fronts begins ended (spells.more_statements one more) k =
        let known = and_left (are_known one) _ k in (
          fronts begins (before_statements more ended) one known,
          list_fronts (behind_statement one known) ended more (and_right (are_known one) _ k),
        )

pub known_sheets_have_fronts : KnownSheetsHaveFronts
known_sheets_have_fronts source was values raws customs selectors i j list tokens begins ended spelt k =
    list_fronts source was values raws customs selectors begins ended spelt k

-- no token stands at the end of a sheet
sheet_end : (source : Source) → goes_on source (length source.lexemes.now) ≡ false
sheet_end source = ap part_in (slice_get_past source.lexemes.now (length source.lexemes.now) (omega arith))

-- what is written of such a sheet reads back
pub scss_read_back : ScssIsReadBack
scss_read_back source written levels parts derived was singles =
    let again = all_sheets_again source written levels parts derived in
    let values : ValuesAreKnown source = record {
      rows = values_written source was singles;
      plains = plains_written source was singles;
    } in record {
      again = again;
      back = λ known text.
          sheets_read_back source written levels parts again
          (list_fronts source was values (texts_known source was values modes.Raw) (texts_known source was values modes.Custom)
          (rules_known source was values) (at_start source) (sheet_end source) again.spells known) text;
    }
