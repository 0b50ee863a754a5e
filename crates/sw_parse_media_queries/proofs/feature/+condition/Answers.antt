use Rattle.std.proofs.Common.{◌+◌, ◌-◌, ◌<◌, true, false, refl, sym, ◌∙◌, length, codes, arith}
use Rattle.std.proofs.lemmas.Result.{err_from_is_err_and}
use Rattle.sw_parse_grammar.specs.Grammar.{anywhere}
use Rattle.sw_parse_grammar.proofs.Loops.{at_first}
use Rattle.sw_parse_terminals.specs.declared.terminal.Terminal.TheVariants as T
use Rattle.sw_parse_terminals.specs.Numbers.{just}
use Rattle.sw_parse_table.specs.Parts.{Condition}
use Rattle.sw_parse_table.specs.Queries.{said_before, feature, not_feature, features}
use Rattle.sw_parse_table.specs.Table.{forms}
use Rattle.sw_parse_table.proofs.Decided.{fit}
use Rattle.sw_parse_media_queries.specs.Adding.{paren_end}
use Rattle.sw_parse_media_queries.specs.Joints.{joined}
use Rattle.sw_parse_media_queries.proofs.Rows.{loop_goes, loop_stops, loop_ends, goes_on}
use Rattle.sw_parse_media_queries.proofs.Added.{after, stops, worded, unworded, unopened, too_deep, grouped, joined_worded}
use Rattle.sw_parse_media_queries.proofs.Choices.{joined_repeat, feature_solid, feature_insert, feature_parens, parens_condition, parens_feature, condition_not, condition_features, features_and, features_or}
use Rattle.sw_parse_media_queries.proofs.feature.+condition.Goals as goal

pub condition_parens_at-returns-then-not-is_at : goal.condition_parens_at-returns-then-not-is_at
condition_parens_at-returns-then-not-is_at t c =
    unopened c.args.source.now c.args.levels T.ConditionParen Condition c.args.at c.args.list.now (sym c.if-not-is_at.ensures.test)

pub condition_parens_at-returns-then-levels-eq0 : goal.condition_parens_at-returns-then-levels-eq0
condition_parens_at-returns-then-levels-eq0 t c =
    too_deep c.args.source.now c.args.levels T.ConditionParen Condition c.args.at c.args.list.now (omega arith) (sym c.if-not-is_at.ensures.test)

pub condition_parens_at-returns-in_err-place : goal.condition_parens_at-returns-in_err-place
condition_parens_at-returns-in_err-place t c =
    let p = err_from_is_err_and c.from_residual-in_err-place.result c.from_residual-in_err-place.ensures.1 in rw (p.1, p.2) (rw (grouped c.args.source.now c.args.levels T.ConditionParen Condition c.args.at c.args.list.now c.add_text.new.list (omega arith) (sym c.if-not-is_at.ensures.test) c.in_ok-add_text.ensures.more) (stops c.args.source.now (c.args.levels - 1) (forms c.args.source.now Condition) paren_end (c.args.at + 1) c.add_text.new.list _ c.in_err-place.ensures))

pub condition_parens_at-returns : goal.condition_parens_at-returns
condition_parens_at-returns t c =
    rw (grouped c.args.source.now c.args.levels T.ConditionParen Condition c.args.at c.args.list.now c.add_text.new.list (omega arith) (sym c.if-not-is_at.ensures.test) c.in_ok-add_text.ensures.more, after c.args.source.now (c.args.levels - 1) (forms c.args.source.now Condition) paren_end (c.args.at + 1) _ c.add_text.new.list c.condition_at.new.list c.in_ok-place.ensures) c.paren_end_at.ensures

pub paren_feature_at-returns-then-is_at : goal.paren_feature_at-returns-then-is_at
paren_feature_at-returns-then-is_at t c =
    rw (parens_condition c.args.source.now c.args.levels c.args.at (sym c.if-is_at.ensures.test)) c.condition_parens_at.ensures

pub paren_feature_at-returns-else-is_at : goal.paren_feature_at-returns-else-is_at
paren_feature_at-returns-else-is_at t c =
    rw (parens_feature c.args.source.now c.args.levels c.args.at (sym c.if-is_at.ensures.test)) c.value_parens_at.ensures

pub feature_at-returns-then-is_at : goal.feature_at-returns-then-is_at
feature_at-returns-then-is_at t c =
    rw (feature_insert c.args.source.now c.args.levels c.args.at (sym c.if-is_at.ensures.test)) c.inserted_at.ensures

pub feature_at-returns-else-is_at : goal.feature_at-returns-else-is_at
feature_at-returns-else-is_at t c =
    rw (feature_parens c.args.source.now c.args.levels c.args.at (sym c.if-is_at.ensures.test)) c.paren_feature_at.ensures

pub not_feature_at-returns-then-not-is_at : goal.not_feature_at-returns-then-not-is_at
unfolding not_feature
not_feature_at-returns-then-not-is_at t c =
    unworded c.args.source.now c.args.levels (anywhere (said_before (codes "not "))) (just T.Not) (feature c.args.source.now) c.args.at c.args.list.now (sym c.if-not-is_at.ensures.test)

pub not_feature_at-returns : goal.not_feature_at-returns
unfolding not_feature
not_feature_at-returns t c =
    rw (worded c.args.source.now c.args.levels (codes "not ") (just T.Not) (feature c.args.source.now) c.args.at c.args.list.now c.add_text.new.list (sym c.if-not-is_at.ensures.test) c.in_ok-add_text.ensures.more) c.feature_at.ensures

pub joined_features_at-returns-in_err-place : goal.joined_features_at-returns-in_err-place
joined_features_at-returns-in_err-place t c =
    let p = err_from_is_err_and c.from_residual-in_err-place.result c.from_residual-in_err-place.ensures.1 in rw (p.1, p.2) (loop_stops (fit c.args.source.now) c.args.levels (joined c.args.source.now c.args.joint) (joined_repeat c.args.source.now c.args.joint).all _ _ _ _ c.features.invariant (at_first (joined c.args.source.now c.args.joint) _ _ true (joined_repeat c.args.source.now c.args.joint).starts (sym c.features-test.ensures.test)) (rw (joined_worded c.args.source.now c.args.levels c.args.joint c.features.place c.features.list c.add_joint.new.list (sym c.features-test.ensures.test) c.in_ok-add_joint.ensures.more) c.in_err-place.ensures))

pub joined_features_at-features-smaller : goal.joined_features_at-features-smaller
joined_features_at-features-smaller t c =
    let lt = goes_on (fit c.args.source.now) c.args.levels (feature c.args.source.now) (feature_solid c.args.source.now).one (feature_solid c.args.source.now).some _ _ _ _ c.in_ok-place.ensures in
    let le : c.features.place < length c.args.source.now.lexemes.now = c.features-test.ensures.within refl in omega arith

pub joined_features_at-features-preserved : goal.joined_features_at-features-preserved
joined_features_at-features-preserved t c =
    loop_goes (fit c.args.source.now) c.args.levels (joined c.args.source.now c.args.joint) (joined_repeat c.args.source.now c.args.joint).all _ _ _ _ _ c.features.invariant (at_first (joined c.args.source.now c.args.joint) _ _ true (joined_repeat c.args.source.now c.args.joint).starts (sym c.features-test.ensures.test)) (joined_worded c.args.source.now c.args.levels c.args.joint c.features.place c.features.list c.add_joint.new.list (sym c.features-test.ensures.test) c.in_ok-add_joint.ensures.more ∙ c.in_ok-place.ensures)

pub joined_features_at-returns : goal.joined_features_at-returns
joined_features_at-returns t c =
    loop_ends (fit c.args.source.now) c.args.levels (joined c.args.source.now c.args.joint) (joined_repeat c.args.source.now c.args.joint).all _ _ _ c.features.invariant (at_first (joined c.args.source.now c.args.joint) _ _ false (joined_repeat c.args.source.now c.args.joint).starts (sym c.features-test.ensures.test))

pub features_at-returns-then-is_at : goal.features_at-returns-then-is_at
features_at-returns-then-is_at t c =
    rw (features_and c.args.source.now c.args.levels c.args.at (sym c.if-is_at.ensures.test)) c.joined_features_at.ensures

pub features_at-returns-else-is_at : goal.features_at-returns-else-is_at
features_at-returns-else-is_at t c =
    rw (features_or c.args.source.now c.args.levels c.args.at (sym c.if-is_at.ensures.test)) c.joined_features_at-else-is_at.ensures

pub condition_at-returns-then-is_at : goal.condition_at-returns-then-is_at
condition_at-returns-then-is_at t c =
    rw (condition_not c.args.source.now c.args.levels c.args.at (sym c.if-is_at.ensures.test)) c.not_feature_at.ensures

pub condition_at-returns-in_err-place : goal.condition_at-returns-in_err-place
condition_at-returns-in_err-place t c =
    let p = err_from_is_err_and c.from_residual.result c.from_residual.ensures.1 in rw (p.1, p.2) (rw (condition_features c.args.source.now c.args.levels c.args.at (sym c.if-is_at.ensures.test)) (stops c.args.source.now c.args.levels (feature c.args.source.now) (features c.args.source.now) c.args.at c.args.list.now _ c.in_err-place.ensures))

pub condition_at-returns : goal.condition_at-returns
condition_at-returns t c =
    rw (condition_features c.args.source.now c.args.levels c.args.at (sym c.if-is_at.ensures.test), after c.args.source.now c.args.levels (feature c.args.source.now) (features c.args.source.now) c.args.at _ c.args.list.now c.feature_at.new.list c.in_ok-place.ensures) c.features_at.ensures
