-- A map with a value for one key.
use Rattle.std.proofs.Common.{◌≡◌, refl, true, List, [], ◌∷◌, Some, Result, Ok, Err, subst, is_some}
use Rattle.sw_values.specs.declared.plain.Plain.{Plain}
use Rattle.sw_values.specs.declared.value.Node.{Node}
use Rattle.sw_values.specs.declared.value.Node.TheVariants as N
use Rattle.sw_values.specs.Growing.{map_pairs, map_with, is_map}
use Rattle.sw_values.specs.Shape.{node_of}
use Rattle.sw_fn_call.specs.declared.fault.FnFault.{FnFault}
use Rattle.sw_fn_call.specs.Answers.{Answer, IsAnswer, with, within}
use Rattle.sw_fn_call.specs.Arguments.{rest}
use Rattle.sw_fn_map.specs.Pairs.{pairs_by, pairs_of}
use Rattle.sw_fn_map.specs.Changes.{parted, set_by}
use Rattle.sw_eval_growing.specs.Growth.{set_in, two_of}

set_by_node : (node : Node) (key value : Plain) → is_some (map_pairs node) ≡ true
    → within (map_with (map_pairs node) key value) ≡ with (pairs_by node) (λ pairs. set_by pairs (parted (key ∷ value ∷ [])))
set_by_node (N.Map pairs) key value h = refl
set_by_node (N.List _ _ _) key value h = cc
set_by_node (N.Number _) key value h = cc
set_by_node (N.Text _ _) key value h = cc
set_by_node (N.Colour _) key value h = cc
set_by_node (N.Bool _) key value h = cc
set_by_node N.Null key value h = cc
set_by_node (N.Args _ _) key value h = cc

sets : (map others key value : Plain) → is_map map ≡ true → rest others ≡ Ok (key ∷ value ∷ [])
    → within (map_with (map_pairs (node_of map)) key value) ≡ set_in map others
unfolding pairs_of
sets map others key value h e = rw e (set_by_node (node_of map) key value h)

both_are : (given : Result (List Plain) FnFault) (both : Plain × Plain) → two_of given ≡ Some both
    → given ≡ Ok (both.0 ∷ both.1 ∷ [])
both_are (Ok []) both e = cc
both_are (Ok (_ ∷ [])) both e = cc
both_are (Ok (first ∷ second ∷ [])) both e = cc
both_are (Ok (_ ∷ _ ∷ _ ∷ _)) both e = cc
both_are (Err fault) both e = cc

pub one_key : (map others key value : Plain) (result : Answer) → is_map map ≡ true
    → two_of (rest others) ≡ Some (key, value)
    → IsAnswer result (within (map_with (map_pairs (node_of map)) key value)) → IsAnswer result (set_in map others)
one_key map others key value result h e is =
    subst (λ (a : Answer). IsAnswer result a) (sets map others key value h (both_are (rest others) (key, value) e)) is
