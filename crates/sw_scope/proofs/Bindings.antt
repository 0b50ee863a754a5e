-- How arguments are bound, one by one.
use Rattle.std.proofs.Common.{◌≡◌, ℕ, suc, ◌+◌, ◌<◌, Bool, true, false, not, ◌&&◌, List, [], ◌∷◌, ◌++◌, length, take, drop, drop-cons, add-one, get_or, Option, Some, None, Result, Ok, Err, MatchOption, MatchResult, bytes_eq, refl, sym, ◌∙◌, ap, subst}
use Rattle.std.specs.Option.{is_some}
use Rattle.std.specs.Map.{lookup}
use Rattle.std.proofs.lemmas.List.{take_more}
use Rattle.indexmap.specs.IndexMap.{insert_entry}
use Rattle.indexmap.specs.IndexSet.{insert_key}
use Rattle.indexmap.proofs.MapLemmas.{absent_from_lookup, insert_entry-absent}
use Rattle.sw_tree.specs.declared.callable.Param.{Param}
use Rattle.sw_tree.specs.declared.callable.Params.{Params}
use Rattle.sw_values.specs.declared.plain.Plain.{Plain}
use Rattle.sw_scope.specs.declared.fault.BindFault.{BindFault}
use Rattle.sw_scope.specs.declared.fault.BindFault.TheVariants.{ArgumentFault, TooLarge, Memory}
use Rattle.sw_scope.specs.declared.passed.Passed.{Passed}
use Rattle.sw_scope.specs.declared.slots.Slot.{Slot}
use Rattle.sw_scope.specs.Frames.{Variable}
use Rattle.sw_scope.specs.Bind.{are_apart, are_filled, takes_left, names_after, accepts, slots_from, rest_slot, rest_value, slots, IsBound, IsBindFault, IsRestWithin, IsSlotFault}

pub next : {A : Type 0} (xs : List A) (i : ℕ) (x : A) → i < length xs → x ≡ get_or xs i x → drop i xs ≡ x ∷ drop (i + 1) xs
next xs i x lt is = rw add-one (drop-cons xs i x lt ∙ ap (λ y. y ∷ drop (suc i) xs) (sym is))

-- ---- the names of parameters

pub names_step : (names names' : List (List ℕ)) (all : List (List ℕ)) (ps : List Param) (i : ℕ) (p : Param) (name : List ℕ) → i < length ps → p ≡ get_or ps i p → name ≡ p.name
    → names' ≡ insert_key bytes_eq names name → names_after names (drop i ps) ≡ all → names_after names' (drop (i + 1) ps) ≡ all
names_step names names' all ps i p name lt is same adds inv =
    ap (λ l. names_after l (drop (i + 1) ps)) (adds ∙ ap (insert_key bytes_eq names) same) ∙ sym (ap (names_after names) (next ps i p lt is)) ∙ inv

-- ---- the table of the named arguments

none_from : {A : Type 0} (o : Option A) → is_some o ≡ false → o ≡ None
none_from None e = refl
none_from (Some x) e = absurd cc

grown : (table table' : List Variable) (v : Variable) (name : List ℕ) (value : Plain) → name ≡ v.0 → value ≡ v.1 → table' ≡ insert_entry bytes_eq table name value
    → is_some (lookup (bytes_eq v.0) table) ≡ false → table' ≡ table ++ v ∷ []
grown table table' v name value n w adds new =
    adds ∙ ap (λ k. insert_entry bytes_eq table k value) n ∙ ap (λ x. insert_entry bytes_eq table v.0 x) w
    ∙ insert_entry-absent bytes_eq v.0 v.1 table (absent_from_lookup (bytes_eq v.0) table (none_from (lookup (bytes_eq v.0) table) new))

pub known_step : (named table table' : List Variable) (i : ℕ) (v : Variable) (name : List ℕ) (value : Plain) → i < length named → v ≡ get_or named i v → name ≡ v.0 → value ≡ v.1
    → table' ≡ insert_entry bytes_eq table name value → is_some (lookup (bytes_eq v.0) table) ≡ false → table ≡ take i named → table' ≡ take (i + 1) named
known_step named table table' i v name value lt is n w adds new inv =
    grown table table' v name value n w adds new ∙ ap (λ l. l ++ v ∷ []) inv ∙ ap (λ x. take i named ++ x ∷ []) is ∙ sym (take_more named i v lt)

pub apart_step : (named table table' : List Variable) (i : ℕ) (v : Variable) (name : List ℕ) (value : Plain) → i < length named → v ≡ get_or named i v → name ≡ v.0 → value ≡ v.1
    → table' ≡ insert_entry bytes_eq table name value → is_some (lookup (bytes_eq v.0) table) ≡ false → are_apart [] named ≡ are_apart table (drop i named)
    → are_apart [] named ≡ are_apart table' (drop (i + 1) named)
apart_step named table table' i v name value lt is n w adds new inv =
    inv ∙ ap (are_apart table) (next named i v lt is) ∙ ap (λ b. not b && are_apart (table ++ v ∷ []) (drop (i + 1) named)) new
    ∙ ap (λ t. are_apart t (drop (i + 1) named)) (sym (grown table table' v name value n w adds new))

-- ---- the whole

pub none_of : {A : Type 0} (o : Option A) (P : Type 0) (Q : A → Type 0) → MatchOption o P Q → ((v : A) → o ≡ Some v → ⊥) → P
none_of None P Q p never = p
none_of (Some v) P Q p never = absurd (never v refl)

pub some_of : {A : Type 0} (o : Option A) (P : Type 0) (Q : A → Type 0) (v : A) → MatchOption o P Q → o ≡ Some v → Q v
some_of None P Q v p is = absurd cc
some_of (Some w) P Q v p is = let same : w ≡ v = cc in subst Q same p

pub refused : (params : Params) (passed : Passed) → are_apart [] passed.named ≡ false → accepts params passed ≡ false
unfolding accepts
refused params passed e = rw e (by (not passed.faulty) (are_filled 0 params.items (length passed.items) passed.named) (takes_left params passed))
  where
    by : (a b c : Bool) → (((a && false) && b) && c) ≡ false
    by true b c = refl
    by false b c = refl

pub bound : (params : Params) (passed : Passed) (filled : List (List ℕ × Slot)) (r : Result (List (List ℕ × Slot)) BindFault) → accepts params passed ≡ true
    → filled ≡ slots_from 0 params.items passed.items passed.named → MatchResult r (λ all. (all ≡ filled ++ rest_slot params.rest (rest_value params passed)) × IsRestWithin params.rest (rest_value params passed)) (IsSlotFault params passed)
    → MatchResult r (IsBound params passed) (IsBindFault params passed)
unfolding slots
bound params passed filled (Ok all) taken is p = record { accepted = taken; within = p.1; each = p.0 ∙ ap (λ l. l ++ rest_slot params.rest (rest_value params passed)) is }
bound params passed filled (Err ArgumentFault) taken is p = absurd p
bound params passed filled (Err TooLarge) taken is p = (taken, p.0, p.1)
bound params passed filled (Err Memory) taken is p = tt
