-- Values of one token.
use Rattle.std.specs.Prelude.{ℕ, ◌+◌, Bool, ◌&&◌, List, [], ◌∷◌}
use Rattle.sw_parse_grammar.specs.Grammar.{member}
use Rattle.sw_parse_terminals.specs.declared.terminal.Terminal.TheVariants.{Semicolon, Close, Word}
use Rattle.sw_parse_terminals.specs.Numbers.{these, just}
use Rattle.sw_tree.specs.declared.expr.Expr.{Expr}
use Rattle.sw_tree.specs.declared.expr.ExprKind.TheVariants as exprs
use Rattle.sw_parse_table.specs.declared.source.Source.{Source}
use Rattle.sw_parse_table.specs.Sources.{terminal_at, text_between}
use Rattle.sw_parse_table.specs.Values.{expression}

-- what ends a statement, and so each value in it
abbrev pub enders : List ℕ
enders = these (Semicolon ∷ Close ∷ [])

-- a word stands there, and the statement ends behind it
abbrev pub is_alone : Source → ℕ → Bool
is_alone source at = member (terminal_at source at) (just Word) && member (terminal_at source (at + 1)) enders

-- the word at a place as a value
abbrev pub word_value : Source → ℕ → Expr
word_value source at =
    expression (exprs.Word (text_between source at (at + 1) []).parts) (text_between source at (at + 1) []).span
