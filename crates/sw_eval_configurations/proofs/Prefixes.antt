-- A name without its prefix.
use Rattle.std.proofs.Common.{◌≡◌, ℕ, List, ◌++◌, true, drop, Some, None, eqb, refl, ◌∙◌, ap}
use Rattle.std.specs.List.{starts_with}
use Rattle.std.specs.Str.Pattern.{FindsTextPrefix, StripsPrefix, LacksTextAt}
use Rattle.std.proofs.Common.{⊎_elim}
use Rattle.std.proofs.lemmas.Bool.{cases_Bool}
use Rattle.std.proofs.lemmas.Bool.Decides.{Decides-eqb}
use Rattle.std.proofs.lemmas.Slice.Eq.{starts_is}
use Rattle.sw_eval_configurations.specs.Passing.{inner_name}

begins : (prefix name rest : List ℕ) → name ≡ prefix ++ rest → starts_with eqb name prefix ≡ true
begins prefix name rest e = (starts_is Decides-eqb name prefix _ refl).1 rest e

pub inner_some : (prefix name rest : List ℕ) → StripsPrefix (FindsTextPrefix prefix) name rest → Some rest ≡ inner_name prefix name
inner_some prefix name rest is =
    rw (begins prefix name (drop is.0 name) is.1.1) (ap Some (is.2 ∙ ap (λ (n : ℕ). drop n name) is.1.0))

pub inner_none : (prefix name : List ℕ) → LacksTextAt prefix name 0 → None ≡ inner_name prefix name
inner_none prefix name h =
    ⊎_elim (λ e. absurd (h _ ((starts_is Decides-eqb name prefix _ refl).0 e))) (λ e. rw e refl) (cases_Bool (starts_with eqb name prefix))
