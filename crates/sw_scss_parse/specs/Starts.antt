-- What statements begin with, and how the table's choice of a statement falls apart.
use Rattle.std.specs.Prelude.{ℕ, List, [], ◌∷◌, ◌++◌}
use Rattle.sw_parse_grammar.specs.Grammar.{Grammar, alt}
use Rattle.sw_parse_terminals.specs.declared.terminal.Terminal.TheVariants as terminals
use Rattle.sw_parse_terminals.specs.Numbers.{these, just}
use Rattle.sw_parse_table.specs.declared.source.Source.{Source}
use Rattle.sw_parse_table.specs.Parts.{Part, Form}
use Rattle.sw_parse_table.specs.Sets.{dollars, words}
use Rattle.sw_parse_table.specs.Statements.{set, assigned, declaration, custom, comment, rule, load_statement, member_statement, flow_statement, css_statement}
use Rattle.sw_parse_statement_text.specs.Rows.{raw_starts}

abbrev pub comment_starts : List ℕ
comment_starts = these (terminals.CommentWhole ∷ terminals.CommentTemplate ∷ [])

-- a statement that begins with no `@`, where it is more than a `;`
abbrev pub ruled_starts : List ℕ
ruled_starts = dollars ++ just terminals.Owner ++ words ++ just terminals.Custom ++ comment_starts ++ raw_starts

abbrev pub plain_starts : List ℕ
plain_starts = just terminals.Semicolon ++ ruled_starts

abbrev pub load_starts : List ℕ
load_starts = these (terminals.AtUse ∷ terminals.AtForward ∷ [])

abbrev pub member_starts : List ℕ
member_starts = these (terminals.AtFunction ∷ terminals.AtMixin ∷ terminals.AtInclude ∷ terminals.AtContent ∷ [])

abbrev pub flow_starts : List ℕ
flow_starts = these (terminals.AtReturn ∷ terminals.AtWarn ∷ terminals.AtDebug ∷ terminals.AtError ∷ terminals.AtIf ∷ terminals.AtEach ∷ terminals.AtFor ∷ terminals.AtWhile ∷ [])

abbrev pub css_starts : List ℕ
css_starts = these (terminals.AtMedia ∷ terminals.AtSupports ∷ terminals.AtRoot ∷ terminals.AtCharset ∷ terminals.AtImport ∷ terminals.AtExtend ∷ terminals.AtOther ∷ terminals.AtInsert ∷ [])

abbrev pub worded_starts : List ℕ
worded_starts = load_starts ++ member_starts ++ flow_starts ++ css_starts

abbrev pub statement_starts : List ℕ
statement_starts = plain_starts ++ worded_starts

module _ (source : Source) where
  abbrev pub ruled : Grammar Part Form
  ruled =
      alt (set source) (alt (assigned source) (alt (declaration source) (alt (custom source) (alt (comment source)
      (rule source)))))

  -- a statement that begins with a word behind `@`
  abbrev pub worded : Grammar Part Form
  worded =
      alt (load_statement source) (alt (member_statement source) (alt (flow_statement source) (css_statement source)))
