use Rattle.std.proofs.Common.{◌+◌, ◌-◌, sym, arith}
use Rattle.std.proofs.lemmas.Result.{err_from_is_err_and}
use Rattle.sw_parse_terminals.specs.declared.terminal.Terminal.TheVariants as T
use Rattle.sw_parse_table.specs.Parts.{Feature}
use Rattle.sw_parse_table.specs.Table.{forms}
use Rattle.sw_parse_media_queries.specs.Adding.{paren_end}
use Rattle.sw_parse_media_queries.proofs.Added.{after, stops, unopened, too_deep, grouped}
use Rattle.sw_parse_media_queries.proofs.value.value_parens_at.Goals as goal

pub returns-then-not-is_at : goal.returns-then-not-is_at
returns-then-not-is_at c =
    unopened c.args.source.now c.args.levels T.Paren Feature c.args.at c.args.list.now (sym c.if-not-is_at.ensures.test)

pub returns-then-levels-eq0 : goal.returns-then-levels-eq0
returns-then-levels-eq0 c =
    too_deep c.args.source.now c.args.levels T.Paren Feature c.args.at c.args.list.now (omega arith) (sym c.if-not-is_at.ensures.test)

pub returns-in_err-place : goal.returns-in_err-place
returns-in_err-place c =
    let p = err_from_is_err_and c.from_residual-in_err-place.result c.from_residual-in_err-place.ensures.1 in rw (p.1, p.2) (rw (grouped c.args.source.now c.args.levels T.Paren Feature c.args.at c.args.list.now c.add_text.new.list (omega arith) (sym c.if-not-is_at.ensures.test) c.in_ok-add_text.ensures.more) (stops c.args.source.now (c.args.levels - 1) (forms c.args.source.now Feature) paren_end (c.args.at + 1) c.add_text.new.list _ c.in_err-place.ensures))

pub returns : goal.returns
returns c =
    rw (grouped c.args.source.now c.args.levels T.Paren Feature c.args.at c.args.list.now c.add_text.new.list (omega arith) (sym c.if-not-is_at.ensures.test) c.in_ok-add_text.ensures.more, after c.args.source.now (c.args.levels - 1) (forms c.args.source.now Feature) paren_end (c.args.at + 1) _ c.add_text.new.list c.feature_inside_at.new.list c.in_ok-place.ensures) c.paren_end_at.ensures
