use Rattle.std.proofs.Common.{sym}
use Rattle.sw_expr_parse.proofs.Choices.{other_called, other_range, other_parent, other_important, other_parens, other_brackets}
use Rattle.sw_expr_parse.proofs.operand.other_at.Goals as goal

pub returns-then-begins_word : goal.returns-then-begins_word
returns-then-begins_word g c =
    rw (other_called c.args.source.now c.args.levels c.args.at (sym c.if-begins_word.ensures.test))
    c.called_at.ensures

pub returns-then-is_at : goal.returns-then-is_at
returns-then-is_at g c =
    rw (other_range c.args.source.now c.args.levels c.args.at (sym c.if-begins_word.ensures.test) (sym c.if-is_at.ensures.test))
    c.range_at.ensures

pub returns-then-is_at-2 : goal.returns-then-is_at-2
returns-then-is_at-2 g c =
    rw (other_parent c.args.source.now c.args.levels c.args.at (sym c.if-begins_word.ensures.test) (sym c.if-is_at.ensures.test) (sym c.if-is_at-2.ensures.test))
    c.parent_at.ensures

pub returns-then-is_bang : goal.returns-then-is_bang
returns-then-is_bang g c =
    rw (other_important c.args.source.now c.args.levels c.args.at (sym c.if-begins_word.ensures.test) (sym c.if-is_at.ensures.test) (sym c.if-is_at-2.ensures.test) (sym c.if-is_bang.ensures.test))
    c.important_at.ensures

pub returns-then-is_paren : goal.returns-then-is_paren
returns-then-is_paren g c =
    rw (other_parens c.args.source.now c.args.levels c.args.at (sym c.if-begins_word.ensures.test) (sym c.if-is_at.ensures.test) (sym c.if-is_at-2.ensures.test) (sym c.if-is_bang.ensures.test) (sym c.if-is_paren.ensures.test))
    c.parens_at.ensures

pub returns-else-is_paren : goal.returns-else-is_paren
returns-else-is_paren g c =
    rw (other_brackets c.args.source.now c.args.levels c.args.at (sym c.if-begins_word.ensures.test) (sym c.if-is_at.ensures.test) (sym c.if-is_at-2.ensures.test) (sym c.if-is_bang.ensures.test) (sym c.if-is_paren.ensures.test))
    c.brackets_at.ensures
