use Rattle.std.proofs.Common.{◌<◌, ◌≡◌, length, get_or, arith, rules}
use Rattle.sw_parse_terminals.proofs.Texts.{boundary_behind}
use Rattle.sw_parse_terminals.proofs.url.without_underscore.Goals as goal

pub range_from-requires : goal.range_from-requires
range_from-requires c =
    let e : get_or c.args.name.now 0 0 ≡ 95 = search rules in
    let l : 0 < length c.args.name.now = search rules in
    λ x. boundary_behind c.args.name.now 0 c.utf8.name l 95 e (omega arith)
