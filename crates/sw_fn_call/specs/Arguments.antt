-- The arguments of a built-in function: its parameters in their order, each with the value that fills it.
use Rattle.std.specs.Prelude.{ℕ, List, [], ◌∷◌, Result, Ok, Err}
use Rattle.sw_values.specs.declared.plain.Plain.{Plain}
use Rattle.sw_values.specs.declared.value.Node.{Node}
use Rattle.sw_values.specs.declared.value.Node.TheVariants as N
use Rattle.sw_values.specs.Shape.{node_of}
use Rattle.sw_fn_call.specs.declared.fault.FnFault.{FnFault}
use Rattle.sw_fn_call.specs.declared.fault.FnFault.TheVariants as F

-- a parameter's name with the value that fills it
abbrev pub Argument : Type 0
Argument = List ℕ × Plain

unfoldable pub one : List Argument → Result Plain FnFault
one (first ∷ []) = Ok first.1
one [] = Err F.ArgumentFault
one (_ ∷ _ ∷ _) = Err F.ArgumentFault

unfoldable pub two : List Argument → Result (Plain × Plain) FnFault
two (first ∷ second ∷ []) = Ok (first.1, second.1)
two [] = Err F.ArgumentFault
two (_ ∷ []) = Err F.ArgumentFault
two (_ ∷ _ ∷ _ ∷ _) = Err F.ArgumentFault

unfoldable pub three : List Argument → Result (Plain × Plain × Plain) FnFault
three (first ∷ second ∷ third ∷ []) = Ok (first.1, second.1, third.1)
three [] = Err F.ArgumentFault
three (_ ∷ []) = Err F.ArgumentFault
three (_ ∷ _ ∷ []) = Err F.ArgumentFault
three (_ ∷ _ ∷ _ ∷ _ ∷ _) = Err F.ArgumentFault

unfoldable pub four : List Argument → Result (Plain × Plain × Plain × Plain) FnFault
four (first ∷ second ∷ third ∷ fourth ∷ []) = Ok (first.1, second.1, third.1, fourth.1)
four [] = Err F.ArgumentFault
four (_ ∷ []) = Err F.ArgumentFault
four (_ ∷ _ ∷ []) = Err F.ArgumentFault
four (_ ∷ _ ∷ _ ∷ []) = Err F.ArgumentFault
four (_ ∷ _ ∷ _ ∷ _ ∷ _ ∷ _) = Err F.ArgumentFault

-- the values that a `...` takes, which has none by name
abbrev pub unnamed : List Plain → List Argument → Result (List Plain) FnFault
unnamed items [] = Ok items
unnamed items (_ ∷ _) = Err F.ArgumentFault

abbrev pub rest_by : Node → Result (List Plain) FnFault
rest_by (N.Number _) = Err F.TypeFault
rest_by (N.Text _ _) = Err F.TypeFault
rest_by (N.Colour _) = Err F.TypeFault
rest_by (N.List _ _ _) = Err F.TypeFault
rest_by (N.Map _) = Err F.TypeFault
rest_by (N.Bool _) = Err F.TypeFault
rest_by N.Null = Err F.TypeFault
rest_by (N.Args items named) = unnamed items named

-- the values that a parameter with `...` takes
unfoldable pub rest : Plain → Result (List Plain) FnFault
rest value = rest_by (node_of value)
