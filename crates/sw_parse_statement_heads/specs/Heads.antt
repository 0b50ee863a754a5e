-- The heads of statements that have a block: the rows of the table that build them, and what was read of each.
use Rattle.std.specs.Prelude.{ℕ, List, [], ◌∷◌, ◌++◌, map, Result}
use Rattle.sw_parse_grammar.specs.Grammar.{Grammar, Answer, keep, skip, seq, alt, many, build}
use Rattle.sw_parse_grammar.specs.Readers.{Answers}
use Rattle.sw_parse_grammar.specs.declared.ReadError.{ReadError}
use Rattle.sw_parse_terminals.specs.declared.terminal.Terminal.{Terminal}
use Rattle.sw_parse_terminals.specs.declared.terminal.Terminal.TheVariants as terminals
use Rattle.sw_parse_terminals.specs.Numbers.{these, just}
use Rattle.sw_parse_table.specs.declared.source.Source.{Source}
use Rattle.sw_parse_table.specs.Parts.{Part, Form, Place, Behind, Texts, Values}
use Rattle.sw_parse_table.specs.Actions.{to_behind}
use Rattle.sw_parse_table.specs.Expressions.{space, expr}
use Rattle.sw_parse_table.specs.Statements.{raw, optional_raw, dollar_name, at_name}
use Rattle.sw_parse_statement_text.specs.Rows.{text_in}
use Rattle.sw_parse_statement_heads.specs.declared.each.EachHead.{EachHead}
use Rattle.sw_parse_statement_heads.specs.declared.flow.ForHead.{ForHead}
use Rattle.sw_parse_statement_heads.specs.declared.text.AtRuleHead.{AtRuleHead}

-- what was returned with the place behind it is a head that the reader answers: these parts, and that place
abbrev pub ReadsHead : {X : Type 0} → (X → List Part) → Result (X × ℕ) ReadError → Answer Part → Type 0
ReadsHead view = Answers (λ read. view read.0 ++ Behind read.1 ∷ []) (λ read. read.1)

-- conditions and loops
abbrev pub worded_expr : Source → Terminal → Grammar Part Form
worded_expr source word = seq (skip (just word)) (expr source)

abbrev pub if_head : Source → Grammar Part Form
if_head source = build to_behind (worded_expr source terminals.AtIf)

abbrev pub while_head : Source → Grammar Part Form
while_head source = build to_behind (worded_expr source terminals.AtWhile)

-- `@else if`, as one word or as two
abbrev pub else_if_word : Grammar Part Form
else_if_word =
    alt (skip (just terminals.AtElseIfWhole)) (seq (skip (just terminals.AtElseIf)) (skip (just terminals.If)))

abbrev pub comma_name : Source → Grammar Part Form
comma_name source = seq (skip (just terminals.Comma)) (dollar_name source)

abbrev pub in_row : Source → Grammar Part Form
in_row source = seq (skip (just terminals.In)) (expr source)

abbrev pub each_row : Source → Grammar Part Form
each_row source =
    seq (skip (just terminals.AtEach)) (seq (dollar_name source) (seq (many (comma_name source)) (in_row source)))

abbrev pub each_head : Source → Grammar Part Form
each_head source = build to_behind (each_row source)

abbrev pub each_parts : EachHead → List Part
each_parts head = Place head.first ∷ (map Place head.rest ++ Values head.value ∷ [])

abbrev pub bound_words : List ℕ
bound_words = these (terminals.Through ∷ terminals.To ∷ [])

abbrev pub upper_row : Source → Grammar Part Form
upper_row source = seq (keep bound_words) (space source)

abbrev pub bounds_row : Source → Grammar Part Form
bounds_row source = seq (space source) (upper_row source)

abbrev pub for_row : Source → Grammar Part Form
for_row source =
    seq (skip (just terminals.AtFor)) (seq (dollar_name source) (seq (skip (just terminals.From)) (bounds_row source)))

abbrev pub for_head : Source → Grammar Part Form
for_head source = build to_behind (for_row source)

abbrev pub for_parts : ForHead → List Part
for_parts head = Place head.name ∷ Values head.from ∷ Place head.word ∷ Values head.to ∷ []

-- a value of a declaration that a block may follow
abbrev pub value_head : Source → Grammar Part Form
value_head source = build to_behind (expr source)

-- texts before a block
abbrev pub rule_head : Source → Grammar Part Form
rule_head source = build to_behind (raw source)

abbrev pub supports_head : Source → Grammar Part Form
supports_head source = build to_behind (seq (skip (just terminals.AtSupports)) (raw source))

abbrev pub at_root_head : Source → Grammar Part Form
at_root_head source = build to_behind (seq (skip (just terminals.AtRoot)) (optional_raw source))

abbrev pub at_head : Source → Grammar Part Form
at_head source = build to_behind (seq (at_name source) (optional_raw source))

abbrev pub at_parts : AtRuleHead → List Part
at_parts head = Texts head.name ∷ text_in head.prelude
