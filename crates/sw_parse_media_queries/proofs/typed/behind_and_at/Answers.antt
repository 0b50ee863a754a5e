use Rattle.std.proofs.Common.{sym}
use Rattle.std.proofs.lemmas.Result.{err_from_is_err_and}
use Rattle.sw_parse_grammar.specs.Grammar.{many}
use Rattle.sw_parse_table.specs.Queries.{feature, and_feature}
use Rattle.sw_parse_media_queries.proofs.Added.{after, stops}
use Rattle.sw_parse_media_queries.proofs.Choices.{behind_not, behind_features}
use Rattle.sw_parse_media_queries.proofs.typed.behind_and_at.Goals as goal

pub returns-then-is_at : goal.returns-then-is_at
returns-then-is_at c =
    rw (behind_not c.args.source.now c.args.levels c.args.at (sym c.if-is_at.ensures.test)) c.not_feature_at.ensures

pub returns-in_err-place : goal.returns-in_err-place
returns-in_err-place c =
    let p = err_from_is_err_and c.from_residual.result c.from_residual.ensures.1 in rw (p.1, p.2) (rw (behind_features c.args.source.now c.args.levels c.args.at (sym c.if-is_at.ensures.test)) (stops c.args.source.now c.args.levels (feature c.args.source.now) (many (and_feature c.args.source.now)) c.args.at c.args.list.now _ c.in_err-place.ensures))

pub returns : goal.returns
returns c =
    rw (behind_features c.args.source.now c.args.levels c.args.at (sym c.if-is_at.ensures.test), after c.args.source.now c.args.levels (feature c.args.source.now) (many (and_feature c.args.source.now)) c.args.at _ c.args.list.now c.feature_at.new.list c.in_ok-place.ensures) c.joined_features_at.ensures
