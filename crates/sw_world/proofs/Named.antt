-- Variables that are named.
use Rattle.std.proofs.Common.{◌≡◌, ℕ, Bool, true, false, cond, List, [], ◌∷◌, ◌++◌, bytes_eq, Some, None, refl, sym, ◌∙◌, ap, subst, inl, inr}
use Rattle.std.specs.Map.{lookup}
use Rattle.std.proofs.lemmas.Slice.Eq.{bytes_eq-Decides}
use Rattle.indexmap.specs.IndexMap.{insert_entry}
use Rattle.indexmap.proofs.MapLemmas.{absent_from_lookup, insert_entry-absent}
use Rattle.sw_values.specs.declared.plain.Plain.{Plain}
use Rattle.sw_world.specs.declared.variables.NamedVariables.{NamedVariables}
use Rattle.sw_world.specs.Body.{Pair}
use Rattle.sw_world.specs.Named.{IsOfVariable, IsOfOne, IsNamed}

abbrev Entries : Type 0
Entries = List (List ℕ × Plain)

-- what is looked up is one of the variables
found_there : (named : NamedVariables) (name : List ℕ) (value : Plain) (es : Entries) (pair : Pair)
    → lookup (bytes_eq name) es ≡ Some value → IsOfVariable named (name, value) pair → IsOfOne named es pair
found_there named name value [] pair none is = absurd cc
found_there named name value (e ∷ es) pair here is =
    by (bytes_eq name e.0) refl here (λ rest. found_there named name value es pair rest is)
  where
    by : (b : Bool) → bytes_eq name e.0 ≡ b → cond b (Some e.1) (lookup (bytes_eq name) es) ≡ Some value → (lookup (bytes_eq name) es ≡ Some value → IsOfOne named es pair) → IsOfOne named (e ∷ es) pair
    by true same at rest =
        let names : name ≡ e.0 = (bytes_eq-Decides name e.0).0 same in
        let values : value ≡ e.1 = cc in
        let entry : (name, value) ≡ e = ap (λ n. (n, value)) names ∙ ap (λ (v : Plain). (e.0, v)) values in
        inl (subst (λ (v : List ℕ × Plain). IsOfVariable named v pair) entry is)
    by false other at rest = inr (rest at)

-- of more variables
still_there : (named : NamedVariables) (es more : Entries) (pair : Pair) → IsOfOne named es pair → IsOfOne named (es ++ more) pair
still_there named [] more pair none = absurd none
still_there named (e ∷ es) more pair (inl here) = inl here
still_there named (e ∷ es) more pair (inr there) = inr (still_there named es more pair there)

last_there : (named : NamedVariables) (es : Entries) (e : List ℕ × Plain) (pair : Pair) → IsOfVariable named e pair → IsOfOne named (es ++ e ∷ []) pair
last_there named [] e pair is = inl is
last_there named (x ∷ xs) e pair is = inr (last_there named xs e pair is)

-- a variable that is there with this value
pub named_there : (named : NamedVariables) (name : List ℕ) (value there : Plain) → lookup (bytes_eq name) named.values ≡ Some there → there ≡ value
    → (pair : Pair) → IsOfVariable named (name, value) pair → IsNamed named pair
named_there named name value there here is pair asked = found_there named name value named.values pair (here ∙ ap Some is) asked

-- the variables behind the addition of one that isn't there
appended : (named : NamedVariables) (values : Entries) (n name : List ℕ) (v value : Plain) → lookup (bytes_eq name) named.values ≡ None → n ≡ name → v ≡ value
    → values ≡ insert_entry bytes_eq named.values n v → values ≡ named.values ++ (name, value) ∷ []
appended named values n name v value none same_name same_value is =
    is ∙ ap (λ k. insert_entry bytes_eq named.values k v) same_name ∙ ap (insert_entry bytes_eq named.values name) same_value
    ∙ insert_entry-absent bytes_eq name value named.values (absent_from_lookup (bytes_eq name) named.values none)

pub named_new : (named : NamedVariables) (values : Entries) (n name : List ℕ) (v value : Plain) → lookup (bytes_eq name) named.values ≡ None → n ≡ name → v ≡ value
    → values ≡ insert_entry bytes_eq named.values n v → (pair : Pair) → IsOfVariable named (name, value) pair → IsNamed (record named { values = values }) pair
named_new named values n name v value none same_name same_value is pair asked =
    subst (λ (es : Entries). IsOfOne (record named { values = es }) es pair) (sym (appended named values n name v value none same_name same_value is))
    (last_there (record named { values = named.values ++ (name, value) ∷ [] }) named.values (name, value) pair asked)

-- the namespace and the path are all that a question for a variable says of its module
still_of : (named : NamedVariables) (other es : Entries) (pair : Pair) → IsOfOne named es pair → IsOfOne (record named { values = other }) es pair
still_of named other [] pair none = none
still_of named other (e ∷ es) pair (inl is) = inl is
still_of named other (e ∷ es) pair (inr is) = inr (still_of named other es pair is)

pub named_kept : (named : NamedVariables) (values : Entries) (n name : List ℕ) (v value : Plain) → lookup (bytes_eq name) named.values ≡ None → n ≡ name → v ≡ value
    → values ≡ insert_entry bytes_eq named.values n v → (pair : Pair) → IsNamed named pair → IsNamed (record named { values = values }) pair
named_kept named values n name v value none same_name same_value is pair asked =
    subst (λ (es : Entries). IsOfOne (record named { values = es }) es pair) (sym (appended named values n name v value none same_name same_value is))
    (still_there (record named { values = named.values ++ (name, value) ∷ [] }) named.values ((name, value) ∷ []) pair
    (still_of named (named.values ++ (name, value) ∷ []) named.values pair asked))
