-- The kinds with which a text of a grammar can end.
use Rattle.std.specs.Prelude.{ℕ, List, [], ◌++◌}
use Rattle.sw_parse_grammar.specs.Grammar.{Grammar, keep, skip, empty, ahead, seq, alt, many, sep, group, unless, build, nullable, when}

abbrev pub last : {V F : Type 0} → Grammar V F → List ℕ
last (keep s) = s
last (skip s) = s
last empty = []
last (ahead s) = []
last (seq a b) = last b ++ when (nullable b) (last a)
last (alt a b) = last a ++ last b
last (many g) = last g
last (sep s g) = last g ++ s
last (group o f c) = c
last (unless s g) = last g
last (build h g) = last g
