-- What texts and statements begin with, the rows of the table that functions read, and what was read as its parts.
use Rattle.std.specs.Prelude.{ℕ, List, [], ◌∷◌, ◌++◌, Option, Some, None}
use Rattle.sw_parse_grammar.specs.Grammar.{Grammar, skip, seq, alt, group, build}
use Rattle.sw_parse_terminals.specs.declared.terminal.Terminal.TheVariants as terminals
use Rattle.sw_parse_terminals.specs.Numbers.{these, just}
use Rattle.sw_tree.specs.declared.statement.Statement.{Statement}
use Rattle.sw_tree.specs.declared.text.Text.{Text as TreeText}
use Rattle.sw_parse_table.specs.Parts.{Part, Texts, Behind, Blocks, States}
use Rattle.sw_parse_table.specs.Actions.{to_behind}
use Rattle.sw_parse_css.specs.declared.body.Body.{Body}
use Rattle.sw_parse_css.specs.declared.body.Within.{Within}
use Rattle.sw_parse_css.specs.declared.body.Within.TheVariants as withins
use Rattle.sw_parse_css.specs.Seen.{Seen}
use Rattle.sw_parse_css.specs.Sheets.{Form, Outside, InRule, finish, text_item, text_items, text, optional_text, value, custom_value, selector_rest, pseudo, pseudo_or_value, block, block_or_end, outer_statement, inner_statement}

abbrev pub text_starts : List ℕ
text_starts = these (terminals.Raw ∷ terminals.RawParen ∷ terminals.RawBracket ∷ terminals.RawBrace ∷ [])

abbrev pub other_starts : List ℕ
other_starts =
    these (terminals.AtOther ∷ terminals.AtImport ∷ terminals.AtCharset ∷ terminals.CommentWhole ∷ terminals.Semicolon
    ∷ terminals.AtInsert ∷ [])

abbrev pub inner_starts : List ℕ
inner_starts = just terminals.Word ++ just terminals.Custom ++ other_starts

abbrev pub outer_starts : List ℕ
outer_starts = just terminals.Word ++ just terminals.Custom ++ text_starts ++ other_starts

-- where a statement ends without `;`: before `}`, and at the end of the text, whose number is 0
abbrev pub ends_statement : List ℕ
ends_statement = just terminals.Close ++ 0 ∷ []

abbrev pub starts_of : Within → List ℕ
starts_of withins.Outside = outer_starts
starts_of withins.Rule = inner_starts

abbrev pub form_of : Within → Form
form_of withins.Outside = Outside
form_of withins.Rule = InRule

abbrev pub text_in : Option TreeText → List Part
text_in None = []
text_in (Some text) = Texts text ∷ []

abbrev pub block_in : Option (List Statement) → List Part
block_in None = []
block_in (Some block) = Blocks block ∷ []

abbrev pub body_parts : Body → List Part
body_parts body = text_in body.text ++ Behind body.head ∷ block_in body.block

-- a `;` alone is no statement
abbrev pub statement_in : Option Statement → List Part
statement_in None = []
statement_in (Some statement) = States statement ∷ []

module _ (seen : Seen) where
  abbrev pub statement_of : Within → Grammar Part Form
  statement_of withins.Outside = outer_statement seen
  statement_of withins.Rule = inner_statement seen

  -- what stands behind a name: in a rule or a declaration outside rules, in one whose name begins with `--`, and in an
  -- at-rule
  abbrev pub named_rest : Grammar Part Form
  named_rest = alt (seq (skip (just terminals.Colon)) (pseudo_or_value seen)) (selector_rest seen)

  abbrev pub dashed_rest : Grammar Part Form
  dashed_rest = alt (custom_value seen) (selector_rest seen)

  abbrev pub at_rest : Form → Grammar Part Form
  at_rest form = seq (build to_behind (optional_text seen)) (block_or_end form)
