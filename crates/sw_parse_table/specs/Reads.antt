-- What the functions of a reader answer.
use Rattle.std.specs.Prelude.{ℕ, List, [], ◌∷◌, Result, length}
use Rattle.sw_parse_grammar.specs.Grammar.{Grammar, Answer}
use Rattle.sw_parse_grammar.specs.Levels.{ReadsDeep, DeepExactly}
use Rattle.sw_parse_grammar.specs.Readers.{parse, Answers}
use Rattle.sw_parse_grammar.specs.declared.ReadError.{ReadError}
use Rattle.sw_tree.specs.declared.expr.Expr.{Expr}
use Rattle.sw_parse_table.specs.declared.source.Source.{Source}
use Rattle.sw_parse_table.specs.Parts.{Part, Values, Form}
use Rattle.sw_parse_table.specs.Sources.{text_of}
use Rattle.sw_parse_table.specs.Table.{forms, opening, closing}

-- the reader of a grammar at a place, where so many levels may be opened
abbrev pub reader : Source → ℕ → Grammar Part Form → ℕ → Answer Part
reader source = parse (forms source) (text_of source) (length source.lexemes.now)

-- the same of a production of the table
abbrev pub reads : Source → ℕ → (Source → Grammar Part Form) → ℕ → Answer Part
reads source levels production at = reader source levels (production source) at

-- what was returned with the place behind it is what the reader answers, as these parts
abbrev pub Reads : {X : Type 0} → (X → List Part) → Result (X × ℕ) ReadError → Answer Part → Type 0
Reads view = Answers (λ read. view read.0) (λ read. read.1)

abbrev pub ReadsValue : Result (Expr × ℕ) ReadError → Answer Part → Type 0
ReadsValue = Reads (λ value. Values value ∷ [])

-- what the reader answers of a form is what the table says of it
abbrev pub IsOfTheTable : Source → ℕ → Form → ℕ → Type 0
IsOfTheTable source levels form at =
    ReadsDeep (forms source) (text_of source) opening closing levels form at
    (reader source levels (forms source form) at)

abbrev pub TellsDepth : Source → ℕ → Form → ℕ → Type 0
TellsDepth source levels form at =
    DeepExactly (forms source) (text_of source) opening closing levels form at
    (reader source levels (forms source form) at)
