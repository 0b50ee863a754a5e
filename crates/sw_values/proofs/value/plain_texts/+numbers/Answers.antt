use Rattle.std.proofs.Common.{sym, ◌∙◌}
use Rattle.sw_values.proofs.Appending.{stays_long}
use Rattle.sw_values.proofs.value.plain_texts.+numbers.Goals as goal

pub write_number-returns-then-is_long : goal.write_number-returns-then-is_long
write_number-returns-then-is_long t c = stays_long _ _ (sym c.is_long.ensures ∙ c.if-is_long.true)
