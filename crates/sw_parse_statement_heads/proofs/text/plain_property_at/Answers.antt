use Rattle.std.proofs.Common.{◌+◌, [], ◌∷◌, ap, ◌∙◌}
use Rattle.sw_parse_grammar.specs.Grammar.{Got}
use Rattle.sw_tree.specs.declared.text.Text.{Text}
use Rattle.sw_parse_table.specs.Parts.{Texts, Behind}
use Rattle.sw_parse_statement_heads.proofs.Plain.{property_plain}
use Rattle.sw_parse_statement_heads.proofs.text.plain_property_at.Goals as goal

pub returns : goal.returns
returns c =
    property_plain c.args.source.now c.args.levels c.args.at c.requires.word c.requires.colon
    ∙ ap (λ (text : Text). Got (Texts text ∷ Behind (c.args.at + 1 + 1) ∷ []) (c.args.at + 1 + 1))
    (rw c.in_ok-word.ensures.made at c.plain_text_of.ensures)
