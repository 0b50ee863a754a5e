-- What the functions of the reader of plain CSS answer.
use Rattle.std.specs.Prelude.{ℕ, List, [], ◌∷◌, ◌++◌, map, Result, Option, Some, None, length}
use Rattle.sw_parse_grammar.specs.Grammar.{Grammar, Answer}
use Rattle.sw_parse_grammar.specs.Readers.{parse, Answers}
use Rattle.sw_parse_grammar.specs.declared.ReadError.{ReadError}
use Rattle.sw_tree.specs.declared.statement.Statement.{Statement}
use Rattle.sw_parse_table.specs.Parts.{Part, States}
use Rattle.sw_parse_css.specs.Seen.{Seen, text_of}
use Rattle.sw_parse_css.specs.Sheets.{Form, forms}

-- the reader of a grammar at a place, where so many levels may be opened
abbrev pub reader : Seen → ℕ → Grammar Part Form → ℕ → Answer Part
reader seen = parse (forms seen) (text_of seen) (length seen.lexemes)

abbrev pub reads : Seen → ℕ → (Seen → Grammar Part Form) → ℕ → Answer Part
reads seen levels production at = reader seen levels (production seen) at

-- the place behind what keeps nothing
abbrev pub Passes : Result ℕ ReadError → Answer Part → Type 0
Passes = Answers (λ _. []) (λ next. next)

-- what was returned with the place behind it, as these parts
abbrev pub Reads : {X : Type 0} → (X → List Part) → Result (X × ℕ) ReadError → Answer Part → Type 0
Reads view = Answers (λ read. view read.0) (λ read. read.1)

abbrev pub ReadsStatements : Result (List Statement × ℕ) ReadError → Answer Part → Type 0
ReadsStatements = Reads (λ list. map States list)
