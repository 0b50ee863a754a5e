use Rattle.std.proofs.Common.{map}
use Rattle.std.proofs.lemmas.Result.{err_from_is_err_and}
use Rattle.sw_parse_grammar.proofs.Loops.{fails_prepend}
use Rattle.sw_parse_table.specs.Parts.{States}
use Rattle.sw_parse_statement_blocks.proofs.Prepended.{put_behind}
use Rattle.sw_scss_parse.proofs.statement.assigned_behind.Goals as goal

pub returns-in_err-statement : goal.returns-in_err-statement
returns-in_err-statement c =
    let p = err_from_is_err_and c.from_residual.result c.from_residual.ensures.1 in
    rw (p.1, p.2) (fails_prepend (map States c.args.list.now.items) _ _ c.in_err-statement.ensures)

pub returns : goal.returns
returns c =
    put_behind (map States c.args.list.now.items) _ _ _ _ c.in_ok-statement.ensures c.in_ok-put.ensures.more
