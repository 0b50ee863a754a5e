use Rattle.std.proofs.Common.{List, sym, ap, map, append-nil}
use Rattle.sw_parse_grammar.specs.Grammar.{Got}
use Rattle.sw_parse_table.specs.Parts.{Part, Pieces}
use Rattle.sw_parse_media_queries.proofs.Choices.{behind_value_colon, behind_value_compared, behind_value_none}
use Rattle.sw_parse_media_queries.proofs.value.feature_rest_at.Goals as goal

pub returns-then-is_at : goal.returns-then-is_at
returns-then-is_at c =
    rw (behind_value_colon c.args.source.now c.args.levels c.args.at (sym c.if-is_at.ensures.test)) c.colon_at.ensures

pub returns-then-is_comparison : goal.returns-then-is_comparison
returns-then-is_comparison c =
    rw (behind_value_compared c.args.source.now c.args.levels c.args.at (sym c.if-is_at.ensures.test) (sym c.if-is_comparison.ensures.test)) c.comparisons_at.ensures

pub returns-else-is_comparison : goal.returns-else-is_comparison
returns-else-is_comparison c =
    rw (behind_value_none c.args.source.now c.args.levels c.args.at (sym c.if-is_at.ensures.test) (sym c.if-is_comparison.ensures.test)) (ap (λ (u : List Part). Got u c.args.at) (append-nil (map Pieces c.args.list.now)))
