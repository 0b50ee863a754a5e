use Rattle.std.proofs.Common.{sym, ap, ◌∙◌, option_map, string_bytes}
use Rattle.sw_values.proofs.Appending.{short, long, is_named}
use Rattle.sw_values.proofs.value.texts.named.Goals as goal

pub returns-in-None : goal.returns-in-None
returns-in-None c = λ text e. long text (sym (ap (option_map string_bytes) c.in-None.is) ∙ c.finish.ensures ∙ e)

pub returns-in-Some : goal.returns-in-Some
returns-in-Some c = λ text e.
    is_named text _ _ (short text _ (sym (ap (option_map string_bytes) c.in-Some.is) ∙ c.finish.ensures ∙ e)) (rw c.as_str.ensures.value at c.name_of.ensures.ok) c.name_of.ensures.err
