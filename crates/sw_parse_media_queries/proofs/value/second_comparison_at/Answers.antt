use Rattle.std.proofs.Common.{List, sym, ap, map, append-nil}
use Rattle.sw_parse_grammar.specs.Grammar.{Got}
use Rattle.sw_parse_table.specs.Parts.{Part, Pieces}
use Rattle.sw_parse_media_queries.proofs.Choices.{second_some, second_none}
use Rattle.sw_parse_media_queries.proofs.value.second_comparison_at.Goals as goal

pub returns-then-not-is_comparison : goal.returns-then-not-is_comparison
returns-then-not-is_comparison c =
    rw (second_none c.args.source.now c.args.levels c.args.at (sym c.if-not-is_comparison.ensures.test)) (ap (λ (u : List Part). Got u c.args.at) (append-nil (map Pieces c.args.list.now)))

pub returns : goal.returns
returns c =
    rw (second_some c.args.source.now c.args.levels c.args.at (sym c.if-not-is_comparison.ensures.test)) c.comparison_at.ensures
