use Rattle.std.proofs.Common.{sym}
use Rattle.sw_scss_parse.proofs.Choices.{ruled_set, ruled_assigned, ruled_declaration, ruled_custom, ruled_comment, ruled_rule}
use Rattle.sw_scss_parse.proofs.statement.ruled_behind.Goals as goal

pub returns-then-is_dollar : goal.returns-then-is_dollar
returns-then-is_dollar g c =
    rw (ruled_set c.args.source.now c.args.levels c.args.at (sym c.if-is_dollar.ensures.test))
    c.set_behind.ensures

pub returns-then-is_at : goal.returns-then-is_at
returns-then-is_at g c =
    rw (ruled_assigned c.args.source.now c.args.levels c.args.at (sym c.if-is_dollar.ensures.test) (sym c.if-is_at.ensures.test))
    c.assigned_behind.ensures

pub returns-then-begins_word : goal.returns-then-begins_word
returns-then-begins_word g c =
    rw (ruled_declaration c.args.source.now c.args.levels c.args.at (sym c.if-is_dollar.ensures.test) (sym c.if-is_at.ensures.test) (sym c.if-begins_word.ensures.test))
    c.declaration_behind.ensures

pub returns-then-is_at-2 : goal.returns-then-is_at-2
returns-then-is_at-2 g c =
    rw (ruled_custom c.args.source.now c.args.levels c.args.at (sym c.if-is_dollar.ensures.test) (sym c.if-is_at.ensures.test) (sym c.if-begins_word.ensures.test) (sym c.if-is_at-2.ensures.test))
    c.custom_behind.ensures

pub returns-then-is_comment : goal.returns-then-is_comment
returns-then-is_comment g c =
    rw (ruled_comment c.args.source.now c.args.levels c.args.at (sym c.if-is_dollar.ensures.test) (sym c.if-is_at.ensures.test) (sym c.if-begins_word.ensures.test) (sym c.if-is_at-2.ensures.test) (sym c.if-is_comment.ensures))
    c.comment_behind.ensures

pub returns-else-is_comment : goal.returns-else-is_comment
returns-else-is_comment g c =
    rw (ruled_rule c.args.source.now c.args.levels c.args.at (sym c.if-is_dollar.ensures.test) (sym c.if-is_at.ensures.test) (sym c.if-begins_word.ensures.test) (sym c.if-is_at-2.ensures.test) (sym c.if-is_comment.ensures))
    c.rule_behind.ensures
