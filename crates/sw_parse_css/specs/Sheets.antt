-- The grammar of plain CSS, as a table of productions (CSS Syntax, "Parsing"; Sass documentation, "Plain CSS").
-- Preludes and values are text as it is read, without comments. No rule stands in a rule.
use Rattle.std.specs.Prelude.{ℕ, List, [], ◌∷◌, ◌++◌, Option, Some, None}
use Rattle.sw_parse_grammar.specs.Grammar.{Grammar, skip, empty, ahead, seq, alt, many, group, build, anywhere}
use Rattle.sw_parse_terminals.specs.declared.terminal.Terminal.{Terminal}
use Rattle.sw_parse_terminals.specs.declared.terminal.Terminal.TheVariants as terminals
use Rattle.sw_parse_terminals.specs.Numbers.{these, just}
use Rattle.sw_tree.specs.declared.statement.Statement.{Statement}
use Rattle.sw_tree.specs.declared.statement.Statement.TheVariants as statements
use Rattle.sw_tree.specs.declared.text.Text.{Text as TreeText}
use Rattle.sw_parse_table.specs.Parts.{Part, Texts, Behind, Blocks, States, block_of}
use Rattle.sw_parse_table.specs.Actions.{to_behind, to_block}
use Rattle.sw_parse_css.specs.Seen.{Seen, text_between, span_between}

-- A whole sheet; statements outside rules, and in one; and text in brackets.
pub data Form : Type 0 where
  Whole : Form
  Outside : Form
  InRule : Form
  Text : Form

-- end = ";" | before "}" | end of text
unfoldable pub finish : Grammar Part Form
finish = alt (skip (just terminals.Semicolon)) (ahead (just terminals.Close ++ 0 ∷ []))

-- text = {token | brackets}
abbrev pub bracketed : Terminal → Terminal → Grammar Part Form
bracketed opening closing = group (just opening) Text (just closing)

unfoldable pub text_item : Grammar Part Form
text_item =
    alt (skip (just terminals.Raw)) (alt (bracketed terminals.RawParen terminals.RawParenEnd) (alt (bracketed
    terminals.RawBracket terminals.RawBracketEnd) (bracketed terminals.RawBrace terminals.RawBraceEnd)))

unfoldable pub text_items : Grammar Part Form
text_items = many text_item

-- block = "{" {statement} "}"
abbrev pub block : Form → Grammar Part Form
block form = build (anywhere to_block) (group (just terminals.Open) form (just terminals.Close))

abbrev pub block_or_end : Form → Grammar Part Form
block_or_end form = alt (block form) finish

-- `@` alone begins an at-rule, whose name can't follow it
unfoldable pub nameless : Grammar Part Form
nameless = seq (skip (just terminals.AtInsert)) (skip [])

-- statements, whose span ends before the end or the block
module _ (seen : Seen) where
  abbrev pub to_text : ℕ → ℕ → List Part → List Part
  to_text at behind parts = Texts (text_between seen at behind) ∷ []

  abbrev pub property_of : ℕ → ℕ → TreeText → Option TreeText → List Part
  property_of at head property value =
      States (statements.Custom (record { property = property; value = value; span = span_between seen at head })) ∷ []

  abbrev pub rule_of : ℕ → ℕ → List Statement → List Part
  rule_of at head block =
      States (statements.Rule (record
      { selector = text_between seen at head; block = block; span = span_between seen at head })) ∷ []

  -- one that begins with a name is a rule where a block stands in it, and else a property
  abbrev pub to_named : ℕ → ℕ → List Part → List Part
  to_named at behind (Texts name ∷ Behind head ∷ []) = property_of at head name None
  to_named at behind (Texts name ∷ Texts value ∷ Behind head ∷ []) = property_of at head name (Some value)
  to_named at behind (Texts name ∷ Behind head ∷ Blocks block ∷ []) = rule_of at head block
  to_named at behind (Texts name ∷ Texts value ∷ Behind head ∷ Blocks block ∷ []) = rule_of at head block
  to_named at behind _ = []

  abbrev pub to_rule : ℕ → ℕ → List Part → List Part
  to_rule at behind (Behind head ∷ Blocks block ∷ []) = rule_of at head block
  to_rule at behind _ = []

  abbrev pub at_rule_of : ℕ → ℕ → TreeText → Option TreeText → Option (List Statement) → List Part
  at_rule_of at head name prelude block =
      States (statements.AtRule (record
      { name = name; prelude = prelude; block = block; span = span_between seen at head })) ∷ []

  abbrev pub to_at_rule : ℕ → ℕ → List Part → List Part
  to_at_rule at behind (Texts name ∷ Behind head ∷ parts) = at_rule_of at head name None (block_of parts)
  to_at_rule at behind (Texts name ∷ Texts prelude ∷ Behind head ∷ parts) =
      at_rule_of at head name (Some prelude) (block_of parts)
  to_at_rule at behind _ = []

  abbrev pub to_import : ℕ → ℕ → List Part → List Part
  to_import at behind (Texts text ∷ []) =
      States (statements.Import (record { text = text; span = span_between seen at behind })) ∷ []
  to_import at behind _ = []

  abbrev pub to_charset : ℕ → ℕ → List Part → List Part
  to_charset at behind parts = States (statements.Charset (span_between seen at behind)) ∷ []

  abbrev pub to_comment : ℕ → ℕ → List Part → List Part
  to_comment at behind parts = States (statements.Comment (text_between seen at behind)) ∷ []

  unfoldable pub text : Grammar Part Form
  text = build to_text (seq text_item text_items)

  unfoldable pub optional_text : Grammar Part Form
  optional_text = alt text empty

  -- name = name | "--"name | "@"name
  abbrev pub name_of : Terminal → Grammar Part Form
  name_of terminal = build to_text (skip (just terminal))

  -- value = ":" text end
  unfoldable pub value : Grammar Part Form
  value = seq (build to_behind text) finish

  unfoldable pub colon_value : Grammar Part Form
  colon_value = seq (skip (just terminals.Colon)) value

  -- custom_value = ":" [text] end
  unfoldable pub custom_value : Grammar Part Form
  custom_value = seq (skip (just terminals.Colon)) (seq (build to_behind optional_text) finish)

  -- selector_rest = {text} block
  unfoldable pub selector_rest : Grammar Part Form
  selector_rest = seq (build to_behind text_items) (block InRule)

  -- pseudo_or_value = "·"name {text} (block | end) | value
  unfoldable pub pseudo : Grammar Part Form
  pseudo = build to_text (seq (skip (just terminals.Part)) text_items)

  unfoldable pub pseudo_or_value : Grammar Part Form
  pseudo_or_value = alt (seq (build to_behind pseudo) (block_or_end InRule)) value

  -- declaration = name value            custom = "--"name custom_value
  unfoldable pub declaration : Grammar Part Form
  declaration = build to_named (seq (name_of terminals.Word) colon_value)

  unfoldable pub custom : Grammar Part Form
  custom = build to_named (seq (name_of terminals.Custom) custom_value)

  -- a statement outside rules that begins with a name: a rule or a declaration
  unfoldable pub named : Grammar Part Form
  named =
      build to_named (seq (name_of terminals.Word) (alt (seq (skip (just terminals.Colon)) pseudo_or_value)
      selector_rest))

  unfoldable pub dashed : Grammar Part Form
  dashed = build to_named (seq (name_of terminals.Custom) (alt custom_value selector_rest))

  -- rule = text block
  unfoldable pub rule : Grammar Part Form
  rule = build to_rule (seq (build to_behind (seq text_item text_items)) (block InRule))

  -- at_rule = "@"name [text] (block | end)
  unfoldable pub at_rule : Form → Grammar Part Form
  at_rule form =
      build to_at_rule (seq (name_of terminals.AtOther) (seq (build to_behind optional_text) (block_or_end form)))

  -- import = "@import" text end
  unfoldable pub import : Grammar Part Form
  import = seq (build to_import (seq (skip (just terminals.AtImport)) text)) finish

  -- charset = "@charset" string end
  unfoldable pub charset : Grammar Part Form
  charset =
      seq (build to_charset (seq (skip (just terminals.AtCharset)) (skip (just terminals.Plain)))) finish

  unfoldable pub comment : Grammar Part Form
  comment = build to_comment (skip (just terminals.CommentWhole))

  -- what stands everywhere; the block of an at-rule has statements of a form
  unfoldable pub other : Form → Grammar Part Form
  other form =
      alt (at_rule form) (alt import (alt charset (alt comment (alt (skip (just terminals.Semicolon)) nameless))))

  unfoldable pub outer_statement : Grammar Part Form
  outer_statement = alt named (alt dashed (alt rule (other Outside)))

  unfoldable pub inner_statement : Grammar Part Form
  inner_statement = alt declaration (alt custom (other InRule))

  abbrev pub forms : Form → Grammar Part Form
  forms Whole = seq (many outer_statement) (ahead (0 ∷ []))
  forms Outside = many outer_statement
  forms InRule = many inner_statement
  forms Text = text_items

-- the tokens that open a level, and those that close one
abbrev pub opening : List ℕ
opening = these (terminals.Open ∷ terminals.RawParen ∷ terminals.RawBracket ∷ terminals.RawBrace ∷ [])

abbrev pub closing : List ℕ
closing = these (terminals.Close ∷ terminals.RawParenEnd ∷ terminals.RawBracketEnd ∷ terminals.RawBraceEnd ∷ [])
