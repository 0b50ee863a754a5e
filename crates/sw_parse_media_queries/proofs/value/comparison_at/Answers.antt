use Rattle.std.proofs.Common.{sym}
use Rattle.sw_parse_table.specs.Queries.{to_comparison, value_piece, comparison}
use Rattle.sw_parse_media_queries.specs.Joints.{comparisons}
use Rattle.sw_parse_media_queries.proofs.Added.{unworded, compared_said}
use Rattle.sw_parse_media_queries.proofs.value.comparison_at.Goals as goal

pub returns-then-not-is_comparison : goal.returns-then-not-is_comparison
unfolding comparison
returns-then-not-is_comparison c =
    unworded c.args.source.now c.args.levels (to_comparison c.args.source.now) comparisons (value_piece c.args.source.now) c.args.at c.args.list.now (sym c.if-not-is_comparison.ensures.test)

pub returns : goal.returns
unfolding comparison
returns c =
    rw (compared_said c.args.source.now c.args.levels (value_piece c.args.source.now) c.args.at c.args.list.now c.add_comparison.new.list (sym c.if-not-is_comparison.ensures.test) c.in_ok-add_comparison.ensures.more) c.value_at.ensures
