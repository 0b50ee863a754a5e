-- Answers of which it is known that they aren't those of a host.
use Rattle.std.proofs.Common.{◌≡◌, Option, None, refl}
use Rattle.sw_values.specs.declared.plain.Plain.{Plain}
use Rattle.sw_world.specs.declared.answer.Answer.{Answer}
use Rattle.sw_world.specs.declared.answer.Answer.TheVariants.{Loaded, Refused, Owner, Callable, BuiltIn as BuiltIn_answer, NoNamespace, NoMember, LeftOut, Conflict, Value, Done, Hosted}
use Rattle.sw_eval_walk.specs.Hosts.{given_by}

pub not_hosted : (a : Answer) → ((given : Option Plain) → a ≡ Hosted given → ⊥) → given_by a ≡ None
not_hosted (Hosted given) not = absurd (not given refl)
not_hosted (Loaded p taken) not = refl
not_hosted (Refused fault) not = refl
not_hosted (Owner p m) not = refl
not_hosted (Callable p b) not = refl
not_hosted (BuiltIn_answer h m) not = refl
not_hosted NoNamespace not = refl
not_hosted NoMember not = refl
not_hosted LeftOut not = refl
not_hosted Conflict not = refl
not_hosted (Value v) not = refl
not_hosted Done not = refl
