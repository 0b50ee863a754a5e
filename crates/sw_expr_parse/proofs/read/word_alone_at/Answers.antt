use Rattle.std.proofs.Common.{◌+◌, [], ◌∷◌, ap, ◌∙◌}
use Rattle.sw_parse_grammar.specs.Grammar.{Got}
use Rattle.sw_tree.specs.declared.expr.ExprKind.TheVariants as exprs
use Rattle.sw_tree.specs.declared.text.Text.{Text}
use Rattle.sw_parse_table.specs.Parts.{Values}
use Rattle.sw_parse_table.specs.Values.{expression}
use Rattle.sw_expr_parse.proofs.Alone.{value_alone}
use Rattle.sw_expr_parse.proofs.read.word_alone_at.Goals as goal

pub returns : goal.returns
returns c =
    value_alone c.args.source.now c.args.levels c.args.at c.requires.alone
    ∙ ap (λ (text : Text). Got (Values (expression (exprs.Word text.parts) text.span) ∷ []) (c.args.at + 1))
    (rw c.in_ok-word.ensures.made at c.plain_text_of.ensures)
