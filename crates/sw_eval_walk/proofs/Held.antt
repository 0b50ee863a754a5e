-- What a variable holds that isn't of a built-in module.
use Rattle.std.proofs.Common.{◌≡◌, ℕ, List, refl}
use Rattle.sw_text.specs.declared.fault.FaultCode.{FaultCode}
use Rattle.sw_text.specs.declared.place.Span.{Span}
use Rattle.sw_world.specs.declared.answer.Answer.{Answer}
use Rattle.sw_world.specs.declared.answer.Answer.TheVariants.{Loaded, Refused, Owner, Callable, BuiltIn, NoNamespace, NoMember, LeftOut, Conflict, Value, Done, Hosted}
use Rattle.sw_eval_questions.specs.Talk.{bind}
use Rattle.sw_eval_state.specs.Owners.{owner, named_owner}
use Rattle.sw_eval_state.specs.declared.state.State.{State}
use Rattle.sw_eval_walk.specs.Variables.{getting, held_by, named_by}

pub not_built_in : (unknown : FaultCode) (at space_span : Span) (n : ℕ) (a : Answer) (s : State) → ((h m : List ℕ) → a ≡ BuiltIn h m → ⊥)
    → bind (owner unknown at space_span n a s) (λ o. getting o.0 at o.1) ≡ held_by unknown at space_span n a s
not_built_in unknown at space_span n (BuiltIn h m) s not = absurd (not h m refl)
not_built_in unknown at space_span n (Loaded p taken) s not = refl
not_built_in unknown at space_span n (Refused fault) s not = refl
not_built_in unknown at space_span n (Owner p m) s not = refl
not_built_in unknown at space_span n (Callable p b) s not = refl
not_built_in unknown at space_span n NoNamespace s not = refl
not_built_in unknown at space_span n NoMember s not = refl
not_built_in unknown at space_span n LeftOut s not = refl
not_built_in unknown at space_span n Conflict s not = refl
not_built_in unknown at space_span n (Value v) s not = refl
not_built_in unknown at space_span n Done s not = refl
not_built_in unknown at space_span n (Hosted v) s not = refl

pub not_named : (name_span span : Span) (n : ℕ) (a : Answer) (s : State) → ((h m : List ℕ) → a ≡ BuiltIn h m → ⊥)
    → bind (named_owner name_span span n a s) (λ o. getting o.0 span o.1) ≡ named_by name_span span n a s
not_named name_span span n (BuiltIn h m) s not = absurd (not h m refl)
not_named name_span span n (Loaded p taken) s not = refl
not_named name_span span n (Refused fault) s not = refl
not_named name_span span n (Owner p m) s not = refl
not_named name_span span n (Callable p b) s not = refl
not_named name_span span n NoNamespace s not = refl
not_named name_span span n NoMember s not = refl
not_named name_span span n LeftOut s not = refl
not_named name_span span n Conflict s not = refl
not_named name_span span n (Value v) s not = refl
not_named name_span span n Done s not = refl
not_named name_span span n (Hosted v) s not = refl
