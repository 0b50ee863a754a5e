-- Grammars of which no token is the end of the text.
use Rattle.std.specs.Prelude.{Bool, true, not, ◌&&◌}
use Rattle.sw_parse_grammar.specs.Grammar.{Grammar, keep, skip, empty, ahead, seq, alt, many, sep, group, unless, build, member}

abbrev pub closed : {V F : Type 0} → Grammar V F → Bool
closed (keep s) = not (member 0 s)
closed (skip s) = not (member 0 s)
closed empty = true
closed (ahead s) = true
closed (seq a b) = closed a && closed b
closed (alt a b) = closed a && closed b
closed (many g) = closed g
closed (sep s g) = not (member 0 s) && closed g
closed (group o f c) = not (member 0 o) && not (member 0 c)
closed (unless s g) = closed g
closed (build h g) = closed g
