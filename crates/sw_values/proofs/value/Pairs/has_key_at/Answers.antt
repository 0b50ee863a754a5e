use Rattle.std.proofs.Common.{sym, ap, ◌∙◌, Some, None, option_copied}
use Rattle.sw_values.proofs.Tables.{key_step}
use Rattle.sw_values.proofs.value.Pairs.has_key_at.Goals as goal

pub returns-in-None : goal.returns-in-None
returns-in-None c = key_step _ _ _ None c.requires (λ p e. sym (ap option_copied c.in-None.is) ∙ c.value_at_key.ensures p e)

pub returns-in-Some : goal.returns-in-Some
returns-in-Some c = key_step _ _ _ (Some c.in-Some.field-0.now) c.requires (λ p e. sym (ap option_copied c.in-Some.is) ∙ c.value_at_key.ensures p e)
