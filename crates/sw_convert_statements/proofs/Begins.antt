-- Behind a statement another one may begin, or none stands there.
use Rattle.std.proofs.Common.{◌≡◌, ◌⊎◌, ℕ, suc, Bool, true, false, ◌||◌, List, Option, inl, inr, refl, ◌∙◌, ap}
use Rattle.sw_tree.specs.declared.statement.Branch.{Branch}
use Rattle.sw_tree.specs.declared.statement.Statement.{Statement}
use Rattle.sw_tree.specs.declared.text.Text.{Text}
use Rattle.sw_parse_terminals.specs.declared.terminal.Terminal.{Terminal}
use Rattle.sw_parse_terminals.specs.declared.terminal.Terminal.TheVariants as terminals
use Rattle.sw_parse_terminals.specs.Numbers.{number_of, just}
use Rattle.sw_parse_grammar.specs.Grammar.{member}
use Rattle.sw_parse_lexemes.specs.Steps.{begins_statement}
use Rattle.sw_parse_table.specs.declared.source.Source.{Source}
use Rattle.sw_convert_again.specs.Tokens.{Tok, Old}
use Rattle.sw_convert_again.specs.Statements.{Ended, marked, unmarked, SpellsStatement, SpellsBlock, SpellsBranches, SpellsElse}
use Rattle.sw_convert_again.specs.Statements as spells
use Rattle.sw_convert_again.specs.Comments.{SpellsComment, whole_comment, comment_template, whole_lines, lines_template}
use Rattle.sw_convert_texts.specs.Comments.{comment_known}
use Rattle.sw_convert_statements.specs.Starts.{begins_behind, starts, may_begin}
use Rattle.sw_convert_statements.specs.Told.{are_known}

begun_by_semicolon : (terminal : Terminal) → member (number_of terminal) (just terminals.Semicolon) ≡ true
    → begins_statement terminal ≡ true
begun_by_semicolon terminals.Semicolon m = refl
begun_by_semicolon _ m = absurd (cc)

begun_by_open : (terminal : Terminal) → member (number_of terminal) (just terminals.Open) ≡ true
    → begins_statement terminal ≡ true
begun_by_open terminals.Open m = refl
begun_by_open _ m = absurd (cc)

begun_by_close : (terminal : Terminal) → member (number_of terminal) (just terminals.Close) ≡ true
    → begins_statement terminal ≡ true
begun_by_close terminals.Close m = refl
begun_by_close _ m = absurd (cc)

begun_by_comment : (terminal : Terminal) → member (number_of terminal) (just terminals.CommentWhole) ≡ true
    → begins_statement terminal ≡ true
begun_by_comment terminals.CommentWhole m = refl
begun_by_comment _ m = absurd (cc)

begun_by_end : (terminal : Terminal) → member (number_of terminal) (just terminals.CommentEnd) ≡ true
    → begins_statement terminal ≡ true
begun_by_end terminals.CommentEnd m = refl
begun_by_end _ m = absurd (cc)

either : (a b : Bool) → (a ≡ true) ⊎ (b ≡ true) → (a || b) ≡ true
either true b e = refl
either false b (inl e) = absurd (let wrong : false ≡ true = e in cc)
either false b (inr e) = e

pub at_start : (source : Source) → may_begin source 0 ≡ true
at_start source = refl

module _ {source : Source} where
  -- behind a token at which one may begin
  started : {at : ℕ} {set : List ℕ} → (old : Old source at set) → begins_statement old.lexeme.terminal ≡ true
      → may_begin source (suc at) ≡ true
  started {at} old e = either (starts source (suc at)) _ (inl (ap begins_behind old.there ∙ e))

  pub behind_semicolon : {at : ℕ} → Old source at (just terminals.Semicolon) → may_begin source (suc at) ≡ true
  behind_semicolon old = started old (begun_by_semicolon old.lexeme.terminal old.kind)

  pub behind_open : {at : ℕ} → Old source at (just terminals.Open) → may_begin source (suc at) ≡ true
  behind_open old = started old (begun_by_open old.lexeme.terminal old.kind)

  behind_end : {k j : ℕ} → Ended source k j → may_begin source j ≡ true
  behind_end (marked old) = behind_semicolon old
  behind_end {k} (unmarked last) = either (starts source k) _ (inr last)

  behind_block : {k j : ℕ} {block : List Statement} {tokens : List Tok} → SpellsBlock source k j block tokens
      → may_begin source j ≡ true
  behind_block (spells.braces opens inner closes) = started closes (begun_by_close closes.lexeme.terminal closes.kind)

  behind_branches : {k j : ℕ} {branches : List Branch} {tokens : List Tok} → may_begin source k ≡ true
      → SpellsBranches source k j branches tokens → may_begin source j ≡ true
  behind_branches m spells.no_branches = m
  behind_branches m (spells.more_branches old inner block more) = behind_branches (behind_block block) more

  behind_else : {k j : ℕ} {otherwise : Option (List Statement)} {tokens : List Tok} → may_begin source k ≡ true
      → SpellsElse source k j otherwise tokens → may_begin source j ≡ true
  behind_else m spells.no_else = m
  behind_else m (spells.else_block old block) = behind_block block

  behind_comment : {i j : ℕ} {text : Text} {tokens : List Tok} → (comment : SpellsComment source i j text tokens)
      → comment_known source comment ≡ true → may_begin source j ≡ true
  behind_comment (whole_comment old) e = started old (begun_by_comment old.lexeme.terminal old.kind)
  behind_comment (comment_template old made row end) e = started end (begun_by_end end.lexeme.terminal end.kind)
  behind_comment (whole_lines old made) e = absurd (cc)
  behind_comment (lines_template old made lines) e = absurd (cc)

  pub behind_statement : {i j : ℕ} {statement : Statement} {tokens : List Tok}
      → (spelt : SpellsStatement source i j statement tokens) → are_known spelt ≡ true → may_begin source j ≡ true
  behind_statement (spells.return_line span old inner end) e = behind_end end
  behind_statement (spells.say_line level span old inner end) e = behind_end end
  behind_statement (spells.variable_line span one two three inner flags end) e = behind_end end
  behind_statement (spells.assignment_line span target_span one two three four five inner flags end) e = behind_end end
  behind_statement (spells.import_line span old inner end) e = behind_end end
  behind_statement (spells.extend_line span old inner end) e = behind_end end
  behind_statement (spells.content_line span old given end) e = behind_end end
  behind_statement (spells.charset_line span one two end) e = behind_end end
  behind_statement (spells.declaration_line span text_span word mark inner end) e = behind_end end
  behind_statement (spells.custom_line span text_span name mark inner end) e = behind_end end
  behind_statement (spells.function_block span one two head block) e = behind_block block
  behind_statement (spells.mixin_block span one two head block) e = behind_block block
  behind_statement (spells.include_line span name_span old mixin given using end) e = behind_end end
  behind_statement (spells.include_block span name_span old mixin given using block) e = behind_block block
  behind_statement (spells.at_rule_line span text_span name raw end) e = behind_end end
  behind_statement (spells.at_rule_block span text_span name raw block) e = behind_block block
  behind_statement (spells.properties_block span text_span word mark block) e = behind_block block
  behind_statement (spells.properties_value_block span text_span word mark inner block) e = behind_block block
  behind_statement (spells.at_root_block span old block) e = behind_block block
  behind_statement (spells.at_root_text_block span old raw block) e = behind_block block
  behind_statement (spells.each_block span one two three names in_word inner block) e = behind_block block
  behind_statement (spells.for_block span one two three four low old high block) e = behind_block block
  behind_statement (spells.while_block span old inner block) e = behind_block block
  behind_statement (spells.if_block span old inner block further otherwise) e =
      behind_else (behind_branches (behind_block block) further) otherwise
  behind_statement (spells.supports_block span old raw block) e = behind_block block
  behind_statement (spells.rule_block span raw block) e = behind_block block
  behind_statement (spells.comment_line comment) e = behind_comment comment (alone (comment_known source comment) e)
    where
      alone : (a : Bool) → (a || (false || false)) ≡ true → a ≡ true
      alone true f = refl
      alone false f = f
  behind_statement (spells.use_line span one two name settings end) e = behind_end end
  behind_statement (spells.forward_line span one two renamed members settings end) e = behind_end end
  behind_statement (spells.media_block span text_span old queries block) e = behind_block block
