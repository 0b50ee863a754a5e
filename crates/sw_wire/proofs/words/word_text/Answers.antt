use Rattle.std.proofs.Common.{sym, ◌∙◌}
use Rattle.sw_wire.proofs.Plain.{word_is_text}
use Rattle.sw_wire.proofs.words.word_text.Goals as goal

pub returns-in-Err : goal.returns-in-Err
returns-in-Err c = absurd (c.in-Err.ensures.cases.0 (word_is_text c.args.word.now (sym c.is_word.ensures ∙ c.if-not-is_word.false)))
