-- What a reader of a block needs of the one that reads statements where fewer levels may be opened.
use Rattle.std.specs.Prelude.{ℕ, ◌<◌, Result, List}
use Rattle.sw_parse_grammar.specs.Grammar.{many}
use Rattle.sw_parse_grammar.specs.declared.ReadError.{ReadError}
use Rattle.sw_tree.specs.declared.statement.Statement.{Statement}
use Rattle.sw_parse_css.specs.declared.body.Within.{Within}
use Rattle.sw_parse_css.specs.Seen.{Seen}
use Rattle.sw_parse_css.specs.Rows.{statement_of}
use Rattle.sw_parse_css.specs.Reads.{reader, ReadsStatements}

-- it may be called at any place, where so many levels may be opened
abbrev pub CallableAt : (Within × (ℕ × (ℕ × Unit {0})) → Type 0) → ℕ → Type 0
CallableAt pre levels = (within : Within) (at : ℕ) → pre (within, (levels, (at, tt)))

-- and then it answers what the table reads
abbrev pub ReadingAt : (Within × (ℕ × (ℕ × Unit {0})) → Result (List Statement × ℕ) ReadError → Type 0) → Seen → ℕ
    → Type 0
ReadingAt post seen levels =
    (within : Within) (at : ℕ) (answer : Result (List Statement × ℕ) ReadError)
    → post (within, (levels, (at, tt))) answer → ReadsStatements answer (reader seen levels (many (statement_of seen within)) at)

-- the same with any lower number of levels
abbrev pub Callable : (Within × (ℕ × (ℕ × Unit {0})) → Type 0) → ℕ → Type 0
Callable pre levels = (lower : ℕ) → lower < levels → CallableAt pre lower

abbrev pub Reading : (Within × (ℕ × (ℕ × Unit {0})) → Result (List Statement × ℕ) ReadError → Type 0) → Seen → ℕ
    → Type 0
Reading post seen levels = (lower : ℕ) → lower < levels → ReadingAt post seen lower
