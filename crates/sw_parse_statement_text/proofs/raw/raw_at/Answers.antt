use Rattle.std.proofs.Common.{[], ◌∷◌, ap, sym, ◌∙◌}
use Rattle.sw_parse_grammar.specs.Grammar.{Got}
use Rattle.sw_tree.specs.declared.text.Text.{Text}
use Rattle.sw_parse_table.specs.Parts.{Texts}
use Rattle.sw_parse_statement_text.proofs.PlainRaw.{plain_raw}
use Rattle.sw_parse_statement_text.proofs.raw.raw_at.Goals as goal

pub returns : goal.returns
returns g c =
    plain_raw c.args.source.now c.args.levels c.args.at c.behind_plain-place.result (sym c.if-not-is_at.ensures.test)
    (c.behind_plain-place.ensures c.args.levels) (sym c.if-begins_raw.ensures.test)
    ∙ ap (λ (text : Text). Got (Texts text ∷ []) c.behind_plain-place.result) (rw c.in_ok-text.ensures.made at c.plain_text_of.ensures)
