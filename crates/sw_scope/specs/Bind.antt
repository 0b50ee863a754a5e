-- Which argument fills which parameter (Sass reference documentation, "Function Arguments").
use Rattle.std.specs.Prelude.{◌≡◌, ◌+◌, ℕ, Bool, true, false, not, ◌&&◌, ◌||◌, nat_lt, nat_le, bytes_eq, List, [], ◌∷◌, ◌++◌, length, drop, filter, Option, Some, None, slice_get, IsSome}
use Rattle.std.specs.Option.{is_some}
use Rattle.std.specs.List.{list_any}
use Rattle.std.specs.Map.{lookup}
use Rattle.indexmap.specs.IndexSet.{insert_key}
use Rattle.sw_tree.specs.declared.callable.Param.{Param}
use Rattle.sw_tree.specs.declared.callable.Params.{Params}
use Rattle.sw_values.specs.declared.plain.Plain.{Plain}
use Rattle.sw_values.specs.declared.plain.Plain.TheVariants as P
use Rattle.sw_values.specs.Shape.{IsTooLarge}
use Rattle.sw_values.specs.Weight.{is_within}
use Rattle.sw_scope.specs.declared.fault.BindFault.{BindFault}
use Rattle.sw_scope.specs.declared.fault.BindFault.TheVariants.{ArgumentFault, TooLarge, Memory}
use Rattle.sw_scope.specs.declared.passed.Passed.{Passed}
use Rattle.sw_scope.specs.declared.slots.Slot.{Slot}
use Rattle.sw_scope.specs.declared.slots.Slot.TheVariants.{Filled, Default}
use Rattle.sw_scope.specs.Frames.{Name, Variable, or_else}

-- ---- the arguments that fill parameters

-- the argument of a name
abbrev pub named_value : List Variable → Name → Option Plain
named_value named name = lookup (bytes_eq name) named

-- the argument that fills a parameter: that at its place, else that of its name
abbrev pub argument : ℕ → Name → List Plain → List Variable → Option Plain
argument at name items named = or_else (slice_get items at) (named_value named name)

abbrev pub slot_of : ℕ → Option Plain → Slot
slot_of at (Some v) = Filled v
slot_of at None = Default at

-- each parameter in order with what fills it, or with the place of the default that counts
abbrev pub slots_from : ℕ → List Param → List Plain → List Variable → List (Name × Slot)
slots_from at [] items named = []
slots_from at (p ∷ ps) items named =
    (p.name, slot_of at (argument at p.name items named)) ∷ slots_from (at + 1) ps items named

-- one argument fills a parameter, by place or by name, or it has a default
abbrev pub is_filled : Bool → Bool → Bool → Bool
is_filled true by_name default = not by_name
is_filled false by_name default = by_name || default

abbrev pub are_filled : ℕ → List Param → ℕ → List Variable → Bool
are_filled at [] count named = true
are_filled at (p ∷ ps) count named =
    is_filled (nat_lt at count) (is_some (named_value named p.name)) (is_some p.default)
    && are_filled (at + 1) ps count named

-- no name is one of those before it
abbrev pub are_apart : List Variable → List Variable → Bool
are_apart before [] = true
are_apart before (v ∷ vs) = not (is_some (named_value before v.0)) && are_apart (before ++ v ∷ []) vs

-- ---- the arguments that no parameter takes

-- the names of parameters, each once
abbrev pub names_after : List Name → List Param → List Name
names_after names [] = names
names_after names (p ∷ ps) = names_after (insert_key bytes_eq names p.name) ps

abbrev pub is_among : List Name → Variable → Bool
is_among names v = list_any (bytes_eq v.0) names

-- the named ones
abbrev pub named_left : List Name → List Variable → List Variable
named_left names named = filter (λ v. not (is_among names v)) named

abbrev pub left_named : Params → Passed → List Variable
left_named params passed = named_left (names_after [] params.items) passed.named

abbrev pub is_empty : {A : Type 0} → List A → Bool
is_empty [] = true
is_empty (x ∷ xs) = false

-- those by place
abbrev pub left_items : Params → Passed → List Plain
left_items params passed = drop (length params.items) passed.items

-- the parameter of the rest takes what is left, or nothing is
abbrev pub takes_left : Params → Passed → Bool
takes_left params passed =
    is_some params.rest || (nat_le (length passed.items) (length params.items) && is_empty (left_named params passed))

-- ---- the whole

-- the parameters take the arguments
unfoldable pub accepts : Params → Passed → Bool
accepts params passed =
    not passed.faulty && are_apart [] passed.named
    && are_filled 0 params.items (length passed.items) passed.named && takes_left params passed

-- the argument list of the rest
abbrev pub rest_value : Params → Passed → Plain
rest_value params passed = P.Args (left_items params passed) (left_named params passed)

abbrev pub rest_slot : Option Name → Plain → List (Name × Slot)
rest_slot None v = []
rest_slot (Some name) v = (name, Filled v) ∷ []

unfoldable pub slots : Params → Passed → List (Name × Slot)
slots params passed =
    slots_from 0 params.items passed.items passed.named ++ rest_slot params.rest (rest_value params passed)

-- the value of the rest, where there is a parameter for it, passes no limit of a value
abbrev pub IsRestWithin : Option Name → Plain → Type 0
IsRestWithin None v = Unit {0}
IsRestWithin (Some name) v = is_within v ≡ true

-- what is bound
pub record IsBound (params : Params) (passed : Passed) (bound : List (Name × Slot)) : Type 0 where
  pub accepted : accepts params passed ≡ true
  pub within : IsRestWithin params.rest (rest_value params passed)
  pub each : bound ≡ slots params passed

-- why the value of the rest isn't made
abbrev pub IsRestFault : Plain → BindFault → Type 0
IsRestFault rest ArgumentFault = ⊥
IsRestFault rest TooLarge = IsTooLarge rest
IsRestFault rest Memory = Unit {0}

-- why the slot of the rest isn't made
abbrev pub IsSlotFault : Params → Passed → BindFault → Type 0
IsSlotFault params passed ArgumentFault = ⊥
IsSlotFault params passed TooLarge = IsSome params.rest × IsTooLarge (rest_value params passed)
IsSlotFault params passed Memory = Unit {0}

-- why nothing is bound
abbrev pub IsBindFault : Params → Passed → BindFault → Type 0
IsBindFault params passed ArgumentFault = accepts params passed ≡ false
IsBindFault params passed TooLarge =
    (accepts params passed ≡ true) × IsSome params.rest × IsTooLarge (rest_value params passed)
IsBindFault params passed Memory = Unit {0}
