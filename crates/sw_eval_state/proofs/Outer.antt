-- Lists of what stands outside, the innermost last.
use Rattle.std.proofs.Common.{◌≡◌, ◌-◌, List, [], ◌∷◌, ◌++◌, length, take, Some, slice_get, refl, ◌∙◌, ap, length-append, arith}
use Rattle.std.proofs.Math.Seq.{take-append_seam}
use Rattle.sw_css_tree.specs.Output.{last}
use Rattle.sw_eval_state.specs.Rules.{unnested}
use Rattle.sw_eval_state.specs.declared.nesting.Nesting.{Nesting}
use Rattle.sw_eval_state.specs.declared.state.State.{State}

-- the place of what was pushed
place_last : {A : Type 0} (xs : List A) (x : A) → length (xs ++ x ∷ []) - 1 ≡ length xs
place_last xs x = omega (arith, length-append xs (x ∷ []))

found_last : {A : Type 0} (xs : List A) (x : A) → slice_get (xs ++ x ∷ []) (length xs) ≡ Some x
found_last [] x = refl
found_last (y ∷ xs) x = found_last xs x

-- what was pushed is the last
pub last_pushed : {A : Type 0} (xs : List A) (x : A) → last (xs ++ x ∷ []) ≡ Some x
last_pushed xs x = ap (slice_get (xs ++ x ∷ [])) (place_last xs x) ∙ found_last xs x

-- and the others are before it
pub before_pushed : {A : Type 0} (xs : List A) (x : A) → take (length (xs ++ x ∷ []) - 1) (xs ++ x ∷ []) ≡ xs
before_pushed xs x = ap (λ n. take n (xs ++ x ∷ [])) (place_last xs x) ∙ take-append_seam xs (x ∷ [])

-- ---- nestings

pub unnested_some : (s : State) (outer : List Nesting) (before : Nesting) → s.outer ≡ outer ++ before ∷ [] → record s { nesting = before; outer = outer } ≡ unnested s
unfolding unnested
unnested_some s outer before e = rw (e, last_pushed outer before, before_pushed outer before) refl

pub unnested_none : (s : State) → s.outer ≡ [] → record s { outer = [] } ≡ unnested s
unfolding unnested
unnested_none s e = rw e refl
