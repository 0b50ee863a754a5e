-- How texts join, one after another.
use Rattle.std.proofs.Common.{◌≡◌, ℕ, List, [], ◌++◌, drop, length, append-nil, sym, ◌∙◌, ap}
use Rattle.std.proofs.lemmas.List.{append_assoc}
use Rattle.sw_tree.specs.declared.callable.Params.{Params}
use Rattle.sw_convert_written.specs.Heads.{using_behind, using_params}
use Rattle.sw_convert_written.proofs.Joins.{behind_written}

-- what is written, call by call
pub ruleset appends = (append_assoc, behind_written)

pub nothing_more : (xs : List ℕ) → xs ≡ xs ++ []
nothing_more xs = sym (append-nil xs)

-- the parameters of a content block behind an include
pub used : (n : ℕ) (old text : List ℕ) (params : Params) → n ≡ length old
    → drop n ((old ++ text) ++ using_behind params (drop n (old ++ text))) ≡ using_params params text
used n old text params is =
    let behind = behind_written n old text is in
    ap (λ (t : List ℕ). drop n ((old ++ text) ++ using_behind params t)) behind
    ∙ ap (λ (t : List ℕ). drop n t) (append_assoc old text (using_behind params text))
    ∙ behind_written n old (using_params params text) is
