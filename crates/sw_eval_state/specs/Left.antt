-- What a body leaves behind (this project's own rule): each variable that its sheet's module has, once, in the order of
-- their first writing. One that was given no value is null.
use Rattle.std.proofs.Common.{◌≡◌, ℕ, ◌+◌, Bool, true, false, ◌||◌, if◌then◌else◌, bytes_eq, count_by, List, [], ◌∷◌, ◌++◌, map, Option, Some, None, refl, sym, ◌∙◌, ap}
use Rattle.std.proofs.lemmas.List.Folds.{list_any-append}
use Rattle.std.proofs.lemmas.List.Sums.{sum_by-append}
use Rattle.std.proofs.lemmas.Map.Steps.{list_any_congr}
use Rattle.std.specs.Cmp.Lexicographic.{nat_list_eq_equiv}
use Rattle.std.specs.List.{list_any}
use Rattle.sw_tree.specs.declared.sheet.Sheet.{Sheet}
use Rattle.sw_tree.specs.Globals.{Names, globals, joined, added as name_added}
use Rattle.sw_values.specs.declared.plain.Plain.{Plain}
use Rattle.sw_values.specs.declared.plain.Plain.TheVariants as N
use Rattle.sw_world.specs.declared.end.Finish.{Finish}
use Rattle.sw_scope.specs.declared.scopes.Scopes.{Scopes}
use Rattle.sw_scope.specs.Frames.{Variable}
use Rattle.sw_scope.specs.Scopes.{look_top}
use Rattle.indexmap.specs.IndexMap.{insert_entry}
use Rattle.sw_tree.specs.declared.callable.Callable.{Callable}
use Rattle.sw_tree.specs.declared.statement.Statement.{Statement, out-Statement}
use Rattle.sw_tree.specs.declared.statement.Statement.TheOpen.{Statement-F}
use Rattle.sw_eval_calls.specs.Layers.{Layer}
use Rattle.sw_eval_state.specs.declared.state.State.{State}

abbrev pub or_null : Option Plain → Plain
or_null (Some v) = v
or_null None = N.Null

-- the name has the value, in its old place or behind the others
unfoldable pub added : List Variable → Variable → List Variable
added vs v = insert_entry bytes_eq vs v.0 v.1

-- with the variables of these names, each with its value at the top
abbrev pub left_by : Scopes → Names → List Variable → List Variable
left_by top [] vs = vs
left_by top (name ∷ more) vs = left_by top more (added vs (name, or_null (look_top top name)))

abbrev pub callable_by : Layer → Option Callable
callable_by (Statement-F.Callable c) = Some c
callable_by _ = None

-- the function or mixin that a statement declares
unfoldable pub callable_of : Statement → Option Callable
callable_of x = callable_by (out-Statement x)

abbrev pub and_one : List Callable → Option Callable → List Callable
and_one done None = done
and_one done (Some c) = done ++ c ∷ []

-- the functions and mixins that these statements declare, behind others
abbrev pub declared : List Callable → List Statement → List Callable
declared done [] = done
declared done (x ∷ xs) = declared (and_one done (callable_of x)) xs

unfoldable pub finish_of : Sheet → State → Finish
finish_of sheet s =
    record { variables = left_by s.scopes (globals sheet) []; callables = declared [] sheet.statements; css = s.css; taken = s.taken }

-- the same of what a sheet's talk gives
abbrev pub end_of : Sheet → Unit {0} × State → Finish
end_of sheet r = finish_of sheet r.1

-- ---- the names

abbrev pub names : List Variable → Names
names vs = map (λ v. v.0) vs

joined_more : (w name : List ℕ) (ns : Names) (among : Bool) → list_any (bytes_eq name) ns ≡ among
    → w ∷ name_added ns name ≡ (if list_any (bytes_eq name) ns then w ∷ ns else (w ∷ ns) ++ name ∷ [])
joined_more w name ns true d = rw d refl
joined_more w name ns false d = rw d refl

added_more : (w v : Variable) (vs : List Variable) (same : Bool) → bytes_eq v.0 w.0 ≡ same
    → names (added vs v) ≡ name_added (names vs) v.0
    → names (added (w ∷ vs) v) ≡ name_added (names (w ∷ vs)) v.0
unfolding added
added_more w v vs true e rest = rw e refl
added_more w v vs false e rest = rw e (ap (λ l. w.0 ∷ l) rest
    ∙ joined_more w.0 v.0 (names vs) (list_any (bytes_eq v.0) (names vs)) refl)

names-added : (vs : List Variable) (v : Variable) → names (added vs v) ≡ name_added (names vs) v.0
unfolding added
names-added [] v = refl
names-added (w ∷ vs) v = added_more w v vs (bytes_eq v.0 w.0) refl (names-added vs v)

pub names-left : (top : Scopes) (ns : Names) (vs : List Variable)
    → names (left_by top ns vs) ≡ joined (names vs) ns
names-left top [] vs = refl
names-left top (n ∷ ns) vs = names-left top ns (added vs (n, or_null (look_top top n)))
    ∙ ap (λ l. joined l ns) (names-added vs (n, or_null (look_top top n)))

-- ---- each once

abbrev pub Once : Names → Type 0
Once ns = (name : List ℕ) → count_by (bytes_eq name) ns ≡ (if list_any (bytes_eq name) ns then 1 else 0)

pick : (among : Bool) → (if among then 1 else 0) + (0 + 0) ≡ (if among || (false || false) then 1 else 0)
pick true = refl
pick false = refl

once_push : (ns : Names) (n : List ℕ) → Once ns → list_any (bytes_eq n) ns ≡ false → Once (ns ++ n ∷ [])
once_push ns n once new = λ name. by_test name (bytes_eq name n) refl
  where
    by_test : (name : List ℕ) (same : Bool) → bytes_eq name n ≡ same
        → count_by (bytes_eq name) (ns ++ n ∷ []) ≡ (if list_any (bytes_eq name) (ns ++ n ∷ []) then 1 else 0)
    by_test name true e =
        let none : list_any (bytes_eq name) ns ≡ false = list_any_congr nat_list_eq_equiv name n ns e ∙ new in
        let zero : count_by (bytes_eq name) ns ≡ 0 = once name ∙ ap (λ b. if b then 1 else 0) none in
        rw (
          sum_by-append (λ x. if bytes_eq name x then 1 else 0) ns (n ∷ []),
          list_any-append (bytes_eq name) ns
              (n ∷ []),
          e,
          zero,
          none,
        ) refl
    by_test name false e =
        rw (
          sum_by-append (λ x. if bytes_eq name x then 1 else 0) ns (n ∷ []),
          list_any-append (bytes_eq name) ns
              (n ∷ []),
          e,
          once name,
        ) (pick (list_any (bytes_eq name) ns))

once_added : (ns : Names) (n : List ℕ) → Once ns → Once (name_added ns n)
once_added ns n once = by_test (list_any (bytes_eq n) ns) refl
  where
    by_test : (among : Bool) → list_any (bytes_eq n) ns ≡ among → Once (name_added ns n)
    by_test true e = rw e once
    by_test false e = rw e (once_push ns n once e)

or_false : (a : Bool) → (a || false) ≡ a
or_false true = refl
or_false false = refl

or_either : (a b c : Bool) → ((a || b) || c) ≡ (a || (b || c))
or_either true b c = refl
or_either false b c = refl

-- a name is among those with one more where it is among them or that one
any_added : (ns : Names) (n name : List ℕ)
    → list_any (bytes_eq name) (name_added ns n) ≡ (list_any (bytes_eq name) ns || bytes_eq name n)
any_added ns n name = by_test (list_any (bytes_eq n) ns) (bytes_eq name n) refl refl
  where
    by_test : (among same : Bool) → list_any (bytes_eq n) ns ≡ among → bytes_eq name n ≡ same
        → list_any (bytes_eq name) (name_added ns n) ≡ (list_any (bytes_eq name) ns || bytes_eq name n)
    by_test true true e d =
        let same : list_any (bytes_eq name) ns ≡ true = list_any_congr nat_list_eq_equiv name n ns d ∙ e in
        rw (e, same) refl
    by_test true false e d = rw (e, d) (sym (or_false (list_any (bytes_eq name) ns)))
    by_test false same e d =
        rw e (list_any-append (bytes_eq name) ns (n ∷ [])
        ∙ ap (λ b. list_any (bytes_eq name) ns || b) (or_false (bytes_eq name n)))

-- names that join others, each of which stands once, stand once among them
pub once_joined : (ns before : Names) → Once before → (name : List ℕ)
    → count_by (bytes_eq name) (joined before ns)
    ≡ (if list_any (bytes_eq name) before || list_any (bytes_eq name) ns then 1 else 0)
once_joined [] before once name =
    once name ∙ ap (λ b. if b then 1 else 0) (sym (or_false (list_any (bytes_eq name) before)))
once_joined (n ∷ ns) before once name =
    once_joined ns (name_added before n) (once_added before n once) name
    ∙ ap (λ b. if b then 1 else 0) (ap (λ b. b || list_any (bytes_eq name) ns) (any_added before n name)
    ∙ or_either (list_any (bytes_eq name) before) (bytes_eq name n) (list_any (bytes_eq name) ns))
