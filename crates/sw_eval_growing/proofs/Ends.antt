-- Arguments that are taken from the end of their list.
use Rattle.std.proofs.Common.{◌≡◌, refl, List, [], ◌∷◌, ◌++◌, Result, Ok, Err, ap, ◌∙◌}
use Rattle.sw_values.specs.declared.plain.Plain.{Plain}
use Rattle.sw_fn_call.specs.declared.fault.FnFault.{FnFault}
use Rattle.sw_fn_call.specs.declared.fault.FnFault.TheVariants as F
use Rattle.sw_fn_call.specs.Arguments.{Argument, two, three}

pub two_none : (all : List Argument) → all ≡ [] → Err F.ArgumentFault ≡ two all
unfolding two
two_none all e = rw e refl

pub two_one : (all before : List Argument) (last : Argument) → all ≡ before ++ last ∷ [] → before ≡ []
    → Err F.ArgumentFault ≡ two all
unfolding two
two_one all before last e f = rw (e, f) refl

pub two_both : (all before none : List Argument) (first last : Argument) → all ≡ before ++ last ∷ []
    → before ≡ none ++ first ∷ [] → none ≡ [] → Ok (first.1, last.1) ≡ two all
unfolding two
two_both all before none first last e f g = rw (e, f, g) refl

more : (rest : List Argument) (other first last : Argument)
    → Err F.ArgumentFault ≡ two (((rest ++ other ∷ []) ++ first ∷ []) ++ last ∷ [])
unfolding two
more [] other first last = refl
more (a ∷ []) other first last = refl
more (a ∷ b ∷ []) other first last = refl
more (a ∷ b ∷ c ∷ rest) other first last = refl

pub two_more : (all before some rest : List Argument) (other first last : Argument) → all ≡ before ++ last ∷ []
    → before ≡ some ++ first ∷ [] → some ≡ rest ++ other ∷ [] → Err F.ArgumentFault ≡ two all
two_more all before some rest other first last e f g = rw (e, f, g) (more rest other first last)

-- ---- three

pub three_none : (all : List Argument) → all ≡ [] → Err F.ArgumentFault ≡ three all
unfolding three
three_none all e = rw e refl

abbrev and_last : Result (Plain × Plain) FnFault → Plain → Result (Plain × Plain × Plain) FnFault
and_last (Ok both) last = Ok (both.0, both.1, last)
and_last (Err fault) last = Err F.ArgumentFault

after : (before : List Argument) (last : Argument) → and_last (two before) last.1 ≡ three (before ++ last ∷ [])
unfolding two three
after [] last = refl
after (a ∷ []) last = refl
after (a ∷ b ∷ []) last = refl
after (a ∷ b ∷ c ∷ []) last = refl
after (a ∷ b ∷ c ∷ d ∷ rest) last = refl

three_after : (all before : List Argument) (last : Argument) → all ≡ before ++ last ∷ []
    → and_last (two before) last.1 ≡ three all
three_after all before last e = rw e (after before last)

pub three_ok : (all before : List Argument) (last : Argument) (both : Plain × Plain) → all ≡ before ++ last ∷ []
    → Ok both ≡ two before → Ok (both.0, both.1, last.1) ≡ three all
three_ok all before last both e is = ap (λ (r : Result (Plain × Plain) FnFault). and_last r last.1) is ∙ three_after all before last e

pub three_err : (all before : List Argument) (last : Argument) (fault : FnFault) → all ≡ before ++ last ∷ []
    → Err fault ≡ two before → Err F.ArgumentFault ≡ three all
three_err all before last fault e is = ap (λ (r : Result (Plain × Plain) FnFault). and_last r last.1) is ∙ three_after all before last e
