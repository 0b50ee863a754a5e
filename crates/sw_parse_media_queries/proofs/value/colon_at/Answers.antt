use Rattle.std.proofs.Common.{sym, codes}
use Rattle.sw_parse_grammar.specs.Grammar.{anywhere}
use Rattle.sw_parse_terminals.specs.declared.terminal.Terminal.TheVariants as T
use Rattle.sw_parse_terminals.specs.Numbers.{just}
use Rattle.sw_parse_table.specs.Queries.{said_before, colon_piece}
use Rattle.sw_parse_media_queries.specs.Joints.{expr_piece}
use Rattle.sw_parse_media_queries.proofs.Added.{worded, unworded}
use Rattle.sw_parse_media_queries.proofs.value.colon_at.Goals as goal

pub returns-then-not-is_at : goal.returns-then-not-is_at
unfolding colon_piece
returns-then-not-is_at c =
    unworded c.args.source.now c.args.levels (anywhere (said_before (codes ": "))) (just T.Colon) (expr_piece c.args.source.now) c.args.at c.args.list.now (sym c.if-not-is_at.ensures.test)

pub returns : goal.returns
unfolding colon_piece
returns c =
    rw (worded c.args.source.now c.args.levels (codes ": ") (just T.Colon) (expr_piece c.args.source.now) c.args.at c.args.list.now c.add_text.new.list (sym c.if-not-is_at.ensures.test) c.in_ok-add_text.ensures.more) c.commas_at.ensures
