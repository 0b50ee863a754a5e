use Rattle.std.proofs.Common.{◌≡◌, ◌-◌, length, map}
use Rattle.sw_parse_grammar.specs.Grammar.{many, prepend}
use Rattle.sw_parse_table.specs.Parts.{Pieces}
use Rattle.sw_parse_table.specs.Queries.{typed_part}
use Rattle.sw_parse_table.specs.Reads.{reader}
use Rattle.sw_parse_media_queries.proofs.typed.typed_parts_at.Given as goal

abbrev pub invariant-parts : goal.invariant-parts
invariant-parts l =
    prepend (map Pieces l.list) (reader l.source l.levels (many (typed_part l.source)) l.place)
    ≡ prepend (map Pieces l.fn.list) (reader l.source l.levels (many (typed_part l.source)) l.at)

abbrev pub decreases-parts : goal.decreases-parts
decreases-parts l = length l.source.lexemes.now - l.place
