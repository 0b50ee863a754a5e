-- Answers of which it is known what they aren't.
use Rattle.std.proofs.Common.{◌≡◌, ℕ, List, refl}
use Rattle.sw_text.specs.declared.fault.FaultCode.TheVariants as C
use Rattle.sw_text.specs.declared.place.Span.{Span}
use Rattle.sw_world.specs.declared.answer.Answer.{Answer}
use Rattle.sw_world.specs.declared.answer.Answer.TheVariants.{Loaded, Refused, Owner, Callable, BuiltIn, NoNamespace, NoMember, LeftOut, Conflict, Value, Done, Hosted}
use Rattle.sw_eval_state.specs.Owners.{owner, target}
use Rattle.sw_eval_state.specs.declared.state.State.{State}

pub not_built_in : (at name_span space_span : Span) (n : ℕ) (a : Answer) (s : State) → ((h m : List ℕ) → a ≡ BuiltIn h m → ⊥) → owner C.UnknownMember name_span space_span n a s ≡ target at name_span space_span n a s
not_built_in at name_span space_span n (BuiltIn h m) s not = absurd (not h m refl)
not_built_in at name_span space_span n (Loaded p taken) s not = refl
not_built_in at name_span space_span n (Refused fault) s not = refl
not_built_in at name_span space_span n (Owner p m) s not = refl
not_built_in at name_span space_span n (Callable p b) s not = refl
not_built_in at name_span space_span n NoNamespace s not = refl
not_built_in at name_span space_span n NoMember s not = refl
not_built_in at name_span space_span n LeftOut s not = refl
not_built_in at name_span space_span n Conflict s not = refl
not_built_in at name_span space_span n (Value v) s not = refl
not_built_in at name_span space_span n Done s not = refl
not_built_in at name_span space_span n (Hosted v) s not = refl
