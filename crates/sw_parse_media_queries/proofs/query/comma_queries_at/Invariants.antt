use Rattle.std.proofs.Common.{◌≡◌, ◌-◌, length, map}
use Rattle.sw_parse_grammar.specs.Grammar.{many, prepend}
use Rattle.sw_parse_table.specs.Parts.{Pieces}
use Rattle.sw_parse_table.specs.Queries.{comma_query}
use Rattle.sw_parse_table.specs.Reads.{reader}
use Rattle.sw_parse_media_queries.proofs.query.comma_queries_at.Given as goal

abbrev pub invariant-queries : goal.invariant-queries
invariant-queries l =
    prepend (map Pieces l.list) (reader l.source l.levels (many (comma_query l.source)) l.place)
    ≡ prepend (map Pieces l.fn.list) (reader l.source l.levels (many (comma_query l.source)) l.at)

abbrev pub decreases-queries : goal.decreases-queries
decreases-queries l = length l.source.lexemes.now - l.place
