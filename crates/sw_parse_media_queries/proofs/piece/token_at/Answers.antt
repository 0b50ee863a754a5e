use Rattle.std.proofs.Common.{sym}
use Rattle.sw_parse_terminals.specs.Numbers.{just}
use Rattle.sw_parse_table.specs.Queries.{to_token_piece}
use Rattle.sw_parse_media_queries.proofs.Added.{token, untoken}
use Rattle.sw_parse_media_queries.proofs.piece.token_at.Goals as goal

pub returns-then-not-is_at : goal.returns-then-not-is_at
returns-then-not-is_at c =
    untoken c.args.source.now c.args.levels (to_token_piece c.args.source.now) (just c.args.terminal) c.args.at c.args.list.now (sym c.if-not-is_at.ensures.test)

pub returns : goal.returns
returns c =
    token c.args.source.now c.args.levels (just c.args.terminal) c.args.at c.args.list.now c.add_text.new.list (sym c.if-not-is_at.ensures.test) (rw c.bytes_between.ensures at c.in_ok-add_text.ensures.more)
