-- What a reader of a block needs of the one that reads statements where fewer levels may be opened, and what that gives.
use Rattle.std.specs.Prelude.{ℕ, ◌<◌, Result, List, map}
use Rattle.sw_parse_grammar.specs.Grammar.{Grammar, Answer, many, prepend}
use Rattle.sw_parse_grammar.specs.Readers.{Answers}
use Rattle.sw_parse_grammar.specs.declared.ReadError.{ReadError}
use Rattle.sw_tree.specs.declared.statement.Statement.{Statement}
use Rattle.sw_parse_table.specs.declared.source.Source.{Source}
use Rattle.sw_parse_table.specs.Parts.{Part, Form, States}
use Rattle.sw_parse_table.specs.Statements.{statement}
use Rattle.sw_parse_table.specs.Reads.{reader, Reads}

-- what stands in a block
abbrev pub statements : Source → Grammar Part Form
statements source = many (statement source)

abbrev pub ReadsStatements : Result (List Statement × ℕ) ReadError → Answer Part → Type 0
ReadsStatements = Reads (λ list. map States list)

-- called with so many levels it answers what the table reads
abbrev pub ReadingInnerAt : (ℕ × (ℕ × Unit {0}) → Result (List Statement × ℕ) ReadError → Type 0) → Source → ℕ → Type 0
ReadingInnerAt post source levels =
    (at : ℕ) (answer : Result (List Statement × ℕ) ReadError) → post (levels, (at, tt)) answer → ReadsStatements answer
    (reader source levels (statements source) at)

-- the same with any lower number of levels
abbrev pub ReadingInner : (ℕ × (ℕ × Unit {0}) → Result (List Statement × ℕ) ReadError → Type 0) → Source → ℕ → Type 0
ReadingInner post source levels = (lower : ℕ) → lower < levels → ReadingInnerAt post source lower

-- what was returned is the place behind what the reader answers, whose statements were put behind those before
abbrev pub ReadsBehind : List Statement → List Statement → Result ℕ ReadError → Answer Part → Type 0
ReadsBehind before after result answer =
    Answers (λ _. map States after) (λ next. next) result (prepend (map States before) answer)
