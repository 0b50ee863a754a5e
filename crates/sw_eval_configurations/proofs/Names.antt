-- The members that a forward names, a step at a time.
use Rattle.std.proofs.Common.{◌≡◌, ℕ, suc, ◌+◌, ◌<◌, List, [], ◌∷◌, ◌++◌, length, drop, get_or, sym, ◌∙◌, ap, append_assoc, add-one}
use Rattle.std.proofs.Math.Seq.{drop-cons}
use Rattle.sw_tree.specs.declared.load.Member.{Member}
use Rattle.sw_world.specs.declared.question.Member.{Member as Named}
use Rattle.sw_eval_configurations.specs.Loads.{named}

pub named_next : (all done : List Named) (members : List Member) (i : ℕ) (x : Member) (name : List ℕ) → i < length members → x ≡ get_or members i x → name ≡ x.name
    → done ≡ all ++ record { variable = x.variable; name = name } ∷ [] → all ++ named (drop i members) ≡ named members → done ++ named (drop (i + 1) members) ≡ named members
named_next all done members i x name lt is same grew whole =
    let e : drop i members ≡ x ∷ drop (i + 1) members = rw add-one (drop-cons members i x lt ∙ ap (λ y. y ∷ drop (suc i) members) (sym is)) in
    let one : List Named = record { variable = x.variable; name = x.name } ∷ [] in
    rw (grew, same) (append_assoc all one (named (drop (i + 1) members)) ∙ ap (λ (l : List Member). all ++ named l) (sym e) ∙ whole)
