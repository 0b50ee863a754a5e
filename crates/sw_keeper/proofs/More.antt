-- Bodies that ran before memory ran out.
use Rattle.std.proofs.Common.{◌≡◌, ℕ, List, [], ◌++◌, Ok, Err, OnErr, sym, ◌∙◌, ap, append_assoc, append-nil}
use Rattle.std.specs.declared.result.Result.{Result}
use Rattle.sw_keeper.specs.Cuts.{RanMore}

pub on_err : {T E P : Type 0} → (r : Result T E) → P → OnErr r P
on_err (Ok x) p = tt
on_err (Err x) p = p

pub ran_none : (old now : List (List ℕ)) → now ≡ old → RanMore old now
ran_none old now e = ([], e ∙ sym (append-nil old))

pub ran_on : (old mid now more : List (List ℕ)) → mid ≡ old ++ more → RanMore mid now → RanMore old now
ran_on old mid now more e m = (more ++ m.0, m.1 ∙ ap (λ l. l ++ m.0) e ∙ append_assoc old more m.0)
