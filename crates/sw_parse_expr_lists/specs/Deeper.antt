-- What a reader needs of the one that reads space lists where fewer levels may be opened, and what that gives.
use Rattle.std.specs.Prelude.{ℕ, ◌<◌, Result}
use Rattle.sw_parse_grammar.specs.declared.ReadError.{ReadError}
use Rattle.sw_tree.specs.declared.expr.Expr.{Expr}
use Rattle.sw_parse_table.specs.declared.source.Source.{Source}
use Rattle.sw_parse_table.specs.Expressions.{space}
use Rattle.sw_parse_table.specs.Reads.{reads, ReadsValue}

-- it may be called at any place, where so many levels may be opened
abbrev pub CallableAt : (ℕ × (ℕ × Unit {0}) → Type 0) → ℕ → Type 0
CallableAt pre levels = (at : ℕ) → pre (levels, (at, tt))

-- and then it answers what the table reads
abbrev pub ReadingAt : (ℕ × (ℕ × Unit {0}) → Result (Expr × ℕ) ReadError → Type 0) → Source → ℕ → Type 0
ReadingAt post source levels =
    (at : ℕ) (answer : Result (Expr × ℕ) ReadError) → post (levels, (at, tt)) answer → ReadsValue answer
    (reads source levels space at)

-- the same with any lower number of levels
abbrev pub Callable : (ℕ × (ℕ × Unit {0}) → Type 0) → ℕ → Type 0
Callable pre levels = (lower : ℕ) → lower < levels → CallableAt pre lower

abbrev pub Reading : (ℕ × (ℕ × Unit {0}) → Result (Expr × ℕ) ReadError → Type 0) → Source → ℕ → Type 0
Reading post source levels = (lower : ℕ) → lower < levels → ReadingAt post source lower
