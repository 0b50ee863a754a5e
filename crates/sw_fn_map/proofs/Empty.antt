-- The map without pairs.
use Rattle.std.proofs.Common.{◌≡◌, List, [], Result, Ok, Err, sym, ap, subst, ◌∙◌}
use Rattle.std.specs.Prelude.{IfOk}
use Rattle.sw_values.specs.declared.plain.Plain.{Plain}
use Rattle.sw_values.specs.declared.plain.Plain.TheVariants as P
use Rattle.sw_values.specs.declared.value.Node.TheVariants as N
use Rattle.sw_values.proofs.Alike.{back}
use Rattle.sw_fn_call.specs.declared.fault.FnFault.{FnFault}
use Rattle.sw_fn_map.specs.Pairs.{Pair, pairs_by, pairs_of}

abbrev no_pairs : Result (List Pair) FnFault
no_pairs = Ok []

same-pairs : (pairs : List Pair) → pairs_of (P.Map []) ≡ Ok pairs → pairs ≡ []
unfolding pairs_of
same-pairs pairs e =
    let there : no_pairs ≡ Ok pairs = sym (ap pairs_by (back (N.Map []))) ∙ e in cc

pub empty-shared : {E : Type 0} (value : Plain) (result : Result (List Pair) E) → value ≡ P.Map []
    → IfOk result (λ pairs. pairs_of value ≡ Ok pairs) → IfOk result (λ pairs. pairs ≡ [])
empty-shared value (Ok pairs) e h = same-pairs pairs (subst (λ v. pairs_of v ≡ Ok pairs) e h)
empty-shared value (Err fault) e h = tt
