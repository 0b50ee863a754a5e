use Rattle.std.proofs.Common.{[], ◌∷◌, map, refl, sym}
use Rattle.std.proofs.lemmas.Result.{err_from_is_err_and}
use Rattle.sw_parse_grammar.proofs.Loops.{fails_prepend}
use Rattle.sw_parse_table.specs.Parts.{Texts, Values, Behind, States}
use Rattle.sw_parse_table.specs.Actions.{to_declaration}
use Rattle.sw_parse_statement_blocks.proofs.Prepended.{made_behind, fails_made}
use Rattle.sw_parse_statement_blocks.proofs.Declared.{property_fails, value_fails, declared_block, declared_value, declared_both, declared_plain}
use Rattle.sw_parse_statement_blocks.proofs.declaration.declaration_behind.Goals as goal

pub returns-in_err-property : goal.returns-in_err-property
returns-in_err-property g c =
    let p = err_from_is_err_and c.from_residual.result c.from_residual.ensures.1 in
    rw (p.1, p.2) (fails_prepend _ _ _ (property_fails c.args.source.now c.args.levels c.args.at _ c.in_err-property.ensures))

pub returns-then-is_at : goal.returns-then-is_at
returns-then-is_at g c =
    rw (declared_block c.args.source.now c.args.levels c.args.at _ _ c.in_ok-property.ensures (sym c.if-is_at.ensures.test))
    c.properties_behind.ensures

pub returns-in-Err : goal.returns-in-Err
returns-in-Err g c =
    rw (c.given_up.ensures, declared_value c.args.source.now c.args.levels c.args.at _ _ c.in_ok-property.ensures (sym c.if-is_at.ensures.test))
    (fails_made (to_declaration c.args.source.now c.args.at) (map States c.args.list.now.items)
    (Texts c.in_ok-property.property ∷ Behind c.in_ok-property.place ∷ []) _ _
    (value_fails c.args.source.now c.args.levels _ _ c.in-Err.ensures))

pub returns-then-is_at-2 : goal.returns-then-is_at-2
returns-then-is_at-2 g c =
    rw (declared_both c.args.source.now c.args.levels c.args.at _ _ c.in_ok-property.ensures (sym c.if-is_at.ensures.test) _ _ c.in-Ok.ensures (sym c.if-is_at-2.ensures.test))
    c.properties_behind-then-is_at-2.ensures

pub returns-in_ok-put_plain-in-Ok-finish_at : goal.returns-in_ok-put_plain-in-Ok-finish_at
returns-in_ok-put_plain-in-Ok-finish_at g c =
    rw (declared_plain c.args.source.now c.args.levels c.args.at _ _ c.in_ok-property.ensures (sym c.if-is_at.ensures.test) _ _ c.in-Ok.ensures (sym c.if-is_at-2.ensures.test))
    (made_behind (to_declaration c.args.source.now c.args.at) (map States c.args.list.now.items)
    (Texts c.in_ok-property.property ∷ Behind c.in_ok-property.place ∷ Values c.in-Ok.read.0 ∷ Behind c.in-Ok.read.1 ∷ [])
    [] _ _ _ _ c.in-Ok-finish_at.ensures refl c.in_ok-put_plain-in-Ok-finish_at.ensures.more)

pub returns-in-Err-finish_at : goal.returns-in-Err-finish_at
returns-in-Err-finish_at g c =
    rw (c.given_up-in-Err-finish_at.ensures, declared_plain c.args.source.now c.args.levels c.args.at _ _ c.in_ok-property.ensures (sym c.if-is_at.ensures.test) _ _ c.in-Ok.ensures (sym c.if-is_at-2.ensures.test))
    (fails_made (to_declaration c.args.source.now c.args.at) (map States c.args.list.now.items)
    (Texts c.in_ok-property.property ∷ Behind c.in_ok-property.place ∷ Values c.in-Ok.read.0 ∷ Behind c.in-Ok.read.1 ∷ [])
    _ _ c.in-Err-finish_at.ensures)
