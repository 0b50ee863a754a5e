use Rattle.std.proofs.Common.{[], ◌∷◌, map, refl}
use Rattle.std.proofs.lemmas.Result.{err_from_is_err_and}
use Rattle.sw_parse_grammar.proofs.Loops.{fails_prepend}
use Rattle.sw_parse_table.specs.Parts.{Texts, Behind, Blocks, States}
use Rattle.sw_parse_table.specs.Actions.{to_rule}
use Rattle.sw_parse_statement_blocks.proofs.Prepended.{made_behind, fails_made}
use Rattle.sw_parse_statement_blocks.proofs.Declared.{selector_fails, ruled_by}
use Rattle.sw_parse_statement_blocks.proofs.rule.rule_behind.Goals as goal

pub returns-in_err-selector : goal.returns-in_err-selector
returns-in_err-selector g c =
    let p = err_from_is_err_and c.from_residual.result c.from_residual.ensures.1 in
    rw (p.1, p.2) (fails_prepend _ _ _ (selector_fails c.args.source.now c.args.levels c.args.at _ c.in_err-selector.ensures))

pub returns-in_ok-put_rule-in-Ok : goal.returns-in_ok-put_rule-in-Ok
returns-in_ok-put_rule-in-Ok g c =
    rw (ruled_by c.args.source.now c.args.levels c.args.at _ _ c.in_ok-selector.ensures)
    (made_behind (to_rule c.args.source.now c.args.at) (map States c.args.list.now.items)
    (Texts c.in_ok-selector.selector ∷ Behind c.in_ok-selector.head ∷ []) (Blocks c.in-Ok.block ∷ []) _ _ _ _
    c.in-Ok.ensures refl c.in_ok-put_rule-in-Ok.ensures.more)

pub returns-in-Err : goal.returns-in-Err
returns-in-Err g c =
    rw (c.given_up.ensures, ruled_by c.args.source.now c.args.levels c.args.at _ _ c.in_ok-selector.ensures)
    (fails_made (to_rule c.args.source.now c.args.at) (map States c.args.list.now.items)
    (Texts c.in_ok-selector.selector ∷ Behind c.in_ok-selector.head ∷ []) _ _ c.in-Err.ensures)
