-- Which modules have a name.
use Rattle.std.proofs.Common.{◌≡◌, ◌⊎◌, ℕ, zero, suc, ◌+◌, ◌<◌, ◌≤◌, nat_lt, ltb-true, inl, inr, ⊎_elim, Bool, true, false, cond, ◌||◌, List, [], ◌∷◌, ◌++◌, length, get_or, position, slice_get, bytes_eq, Option, Some, None, is_some, Result, Ok, Err, OnOk, OnErr, length-append, refl, sym, ◌∙◌, ap, subst, arith}
use Rattle.std.specs.List.{list_any}
use Rattle.std.specs.Map.{lookup, set_value, keys_of}
use Rattle.std.specs.Option.{option_map_or}
use Rattle.std.proofs.lemmas.Bool.{true≢false}
use Rattle.std.proofs.lemmas.Slice.Eq.{bytes_eq-Decides}
use Rattle.std.proofs.lemmas.Option.{slice_get_within}
use Rattle.std.proofs.lemmas.Map.{keys-set_value}
use Rattle.std.proofs.lemmas.Map.Made.{is_some-lookup}
use Rattle.std.proofs.lemmas.Map.Entries.{place_from_lookup}
use Rattle.std.proofs.lemmas.List.Quantifiers.{position-Some}
use Rattle.indexmap.specs.IndexMap.{insert_entry}
use Rattle.indexmap.proofs.MapLemmas.{absent_from_lookup, insert_entry-absent}
use Rattle.sw_values.specs.declared.plain.Plain.{Plain}
use Rattle.sw_modules.specs.declared.holders.Holding.{Holding}
use Rattle.sw_modules.specs.declared.module.Module.{Module}
use Rattle.sw_modules.specs.State.{with_variable}
use Rattle.sw_modules.specs.Noted.{in_holding, holds, HoldsMore, HoldsAll, HoldsBefore, HoldsOwn, HoldsBrought, HoldsFirst}

-- what is at a name after a value was given to one
pub lookup-insert_entry : {X : Type 0} (q k : List ℕ) (v : X) (es : List (List ℕ × X)) → lookup (bytes_eq q) (insert_entry bytes_eq es k v) ≡ cond (bytes_eq q k) (Some v) (lookup (bytes_eq q) es)
lookup-insert_entry q k v [] = refl
lookup-insert_entry {X} q k v (e ∷ es) = by (bytes_eq k e.0) refl (lookup-insert_entry q k v es)
  where
    both : (c : Bool) → cond c (Some v) (lookup (bytes_eq q) es) ≡ cond c (Some v) (cond c (Some e.1) (lookup (bytes_eq q) es))
    both true = refl
    both false = refl

    by : (b : Bool) → bytes_eq k e.0 ≡ b → lookup (bytes_eq q) (insert_entry bytes_eq es k v) ≡ cond (bytes_eq q k) (Some v) (lookup (bytes_eq q) es)
        → lookup (bytes_eq q) (cond b ((e.0, v) ∷ es) (e ∷ insert_entry bytes_eq es k v)) ≡ cond (bytes_eq q k) (Some v) (cond (bytes_eq q e.0) (Some e.1) (lookup (bytes_eq q) es))
    by true t ih =
        let same : k ≡ e.0 = (bytes_eq-Decides k e.0).0 t in
        subst (λ (x : List ℕ). cond (bytes_eq q e.0) (Some v) (lookup (bytes_eq q) es) ≡ cond (bytes_eq q x) (Some v) (cond (bytes_eq q e.0) (Some e.1) (lookup (bytes_eq q) es))) (sym same) (both (bytes_eq q e.0))
    by false f ih = ap (λ (o : Option X). cond (bytes_eq q e.0) (Some e.1) o) ih ∙ swap (bytes_eq q e.0) (bytes_eq q k) refl refl
      where
        swap : (c d : Bool) → bytes_eq q e.0 ≡ c → bytes_eq q k ≡ d → cond c (Some e.1) (cond d (Some v) (lookup (bytes_eq q) es)) ≡ cond d (Some v) (cond c (Some e.1) (lookup (bytes_eq q) es))
        swap true true x y =
            let same : k ≡ e.0 = sym ((bytes_eq-Decides q k).0 y) ∙ (bytes_eq-Decides q e.0).0 x in
            let is : bytes_eq k e.0 ≡ true = (bytes_eq-Decides k e.0).1 same in
            cc
        swap true false x y = refl
        swap false true x y = refl
        swap false false x y = refl

-- ---- one more name of a module

module _ (noted : List (List ℕ × Holding)) (name path : List ℕ) (new : Holding) where
  pub held_here : in_holding new path ≡ true → holds (insert_entry bytes_eq noted name new) name path ≡ true
  held_here has =
      ap (λ (o : Option Holding). option_map_or (λ holding. in_holding holding path) o false) (lookup-insert_entry name name new noted)
      ∙ by (bytes_eq name name) ((bytes_eq-Decides name name).1 refl)
    where
      by : (b : Bool) → b ≡ true → option_map_or (λ holding. in_holding holding path) (cond b (Some new) (lookup (bytes_eq name) noted)) false ≡ true
      by true t = has
      by false t = cc

  pub held_more : ((p : List ℕ) → holds noted name p ≡ true → in_holding new p ≡ true) → HoldsMore noted (insert_entry bytes_eq noted name new)
  held_more more q p held =
      ap (λ (o : Option Holding). option_map_or (λ holding. in_holding holding p) o false) (lookup-insert_entry q name new noted)
      ∙ by (bytes_eq q name) refl
    where
      by : (b : Bool) → bytes_eq q name ≡ b → option_map_or (λ holding. in_holding holding p) (cond b (Some new) (lookup (bytes_eq q) noted)) false ≡ true
      by true t = more p (subst (λ (x : List ℕ). holds noted x p ≡ true) ((bytes_eq-Decides q name).0 t) held)
      by false f = held

-- ---- all names of a module

pub all_from_places : {X : Type 0} (noted : List (List ℕ × Holding)) (path : List ℕ) (es : List (List ℕ × X)) (at : ℕ) → length es ≤ at
    → HoldsBefore noted path es at → HoldsAll noted path es
all_from_places {X} noted path es at all each name some = by (lookup (bytes_eq name) es) refl some
  where
    by : (r : Option X) → lookup (bytes_eq name) es ≡ r → is_some r ≡ true → holds noted name path ≡ true
    by None is none = absurd (true≢false (sym none))
    by (Some v) is some =
        let found = place_from_lookup (bytes_eq name) es v is in
        let inside : found.0 < length es = slice_get_within es found.0 (found.1, v) found.2 in
        let here : holds noted found.1 path ≡ true = each found.0 (found.1, v) (omega (arith, inside, all)) found.2 in
        subst (λ (x : List ℕ). holds noted x path ≡ true) (sym ((bytes_eq-Decides name found.1).0 found.3)) here

less_or_same : (k n : ℕ) → k < n + 1 → (k < n) ⊎ (k ≡ n)
less_or_same k n less = by (nat_lt k n) refl
  where
    by : (b : Bool) → nat_lt k n ≡ b → (k < n) ⊎ (k ≡ n)
    by true is = inl (ltb-true k n is)
    by false is = inr (same is)
      where
        same : nat_lt k n ≡ false → k ≡ n
        same is = grind arith

pub before_none : {X : Type 0} (noted : List (List ℕ × Holding)) (path : List ℕ) (es : List (List ℕ × X)) → HoldsBefore noted path es 0
before_none noted path es k e less here = absurd (omega (arith, less))

-- at one more place
pub before_next : {X : Type 0} (a b : List (List ℕ × Holding)) (path : List ℕ) (es : List (List ℕ × X)) (at : ℕ) → HoldsMore a b
    → ((e : List ℕ × X) → slice_get es at ≡ Some e → holds b e.0 path ≡ true) → HoldsBefore a path es at → HoldsBefore b path es (at + 1)
before_next a b path es at more has before k e less here =
    ⊎_elim (λ lower. more e.0 path (before k e lower here)) (λ same. has e (ap (slice_get es) (sym same) ∙ here)) (less_or_same k at less)

pub all_more : {X : Type 0} (a b : List (List ℕ × Holding)) (path : List ℕ) (es : List (List ℕ × X)) → HoldsMore a b → HoldsAll a path es → HoldsAll b path es
all_more a b path es more all name some = more name path (all name some)

pub own_more : (a b : List (List ℕ × Holding)) (path : List ℕ) (held : Module) → HoldsMore a b → HoldsOwn a path held → HoldsOwn b path held
own_more a b path held more own = record {
  variables = all_more a b path held.variables more own.variables;
  functions = all_more a b path held.callables.functions more own.functions;
  mixins = all_more a b path held.callables.mixins more own.mixins;
}

pub brought_more : (a b : List (List ℕ × Holding)) (path : List ℕ) (held : Module) → HoldsMore a b → HoldsBrought a path held → HoldsBrought b path held
brought_more a b path held more brought = record {
  variables = all_more a b path held.uses.forwarded.variables more brought.variables;
  functions = all_more a b path held.uses.forwarded.functions more brought.functions;
  mixins = all_more a b path held.uses.forwarded.mixins more brought.mixins;
}

-- ---- the first modules

pub first_more : (a b : List (List ℕ × Holding)) (loaded : List (List ℕ × Module)) (n : ℕ) → HoldsMore a b → HoldsFirst a loaded n → HoldsFirst b loaded n
first_more a b loaded n more first = record {
  within = first.within;
  own = λ k e less here. own_more a b e.0 e.1 more (first.own k e less here);
  brought = λ k e less here. brought_more a b e.0 e.1 more (first.brought k e less here);
}

pub first_none : (noted : List (List ℕ × Holding)) (loaded : List (List ℕ × Module)) → HoldsFirst noted loaded 0
first_none noted loaded = record {
  within = omega arith;
  own = λ k e less here. absurd (omega (arith, less));
  brought = λ k e less here. absurd (omega (arith, less));
}

-- one more of them
pub first_next : (noted : List (List ℕ × Holding)) (loaded : List (List ℕ × Module)) (n : ℕ) → n < length loaded
    → ((e : List ℕ × Module) → slice_get loaded n ≡ Some e → HoldsOwn noted e.0 e.1)
    → ((e : List ℕ × Module) → slice_get loaded n ≡ Some e → HoldsBrought noted e.0 e.1)
    → HoldsFirst noted loaded n → HoldsFirst noted loaded (n + 1)
first_next noted loaded n inside own brought first = record {
  within = omega (arith, inside);
  own = λ k e less here.
      ⊎_elim (λ lower. first.own k e lower here) (λ same. own e (ap (slice_get loaded) (sym same) ∙ here)) (less_or_same k n less);
  brought = λ k e less here.
      ⊎_elim (λ lower. first.brought k e lower here) (λ same. brought e (ap (slice_get loaded) (sym same) ∙ here)) (less_or_same k n less);
}

-- all of them
pub first_all : (noted : List (List ℕ × Holding)) (loaded : List (List ℕ × Module)) (n : ℕ) → length loaded ≤ n
    → HoldsFirst noted loaded n → HoldsFirst noted loaded (length loaded)
first_all noted loaded n all first = record {
  within = omega arith;
  own = λ k e less here. first.own k e (omega (arith, less, all)) here;
  brought = λ k e less here. first.brought k e (omega (arith, less, all)) here;
}

get_left : {X : Type 0} (xs ys : List X) (i : ℕ) → i < length xs → slice_get (xs ++ ys) i ≡ slice_get xs i
get_left [] ys i inside = absurd (omega (arith, inside))
get_left (x ∷ xs) ys zero inside = refl
get_left (x ∷ xs) ys (suc i) inside = let less : i < length xs = omega (arith, inside) in get_left xs ys i less

-- a module behind them
pub first_pushed : (noted : List (List ℕ × Holding)) (loaded : List (List ℕ × Module)) (e : List ℕ × Module) (n : ℕ)
    → HoldsFirst noted loaded n → HoldsFirst noted (loaded ++ e ∷ []) n
first_pushed noted loaded e n first = record {
  within = let longer : length (loaded ++ e ∷ []) ≡ length loaded + 1 = length-append loaded (e ∷ []) in omega (arith, longer, first.within);
  own = λ k x less here. first.own k x less (sym (get_left loaded (e ∷ []) k (omega (arith, less, first.within))) ∙ here);
  brought = λ k x less here. first.brought k x less (sym (get_left loaded (e ∷ []) k (omega (arith, less, first.within))) ∙ here);
}

length-set_value : {X : Type 0} (test : List ℕ → Bool) (es : List (List ℕ × X)) (w : X) → length (set_value test es w) ≡ length es
length-set_value test [] w = refl
length-set_value {X} test (e ∷ es) w = by (length-set_value test es w) (test e.0)
  where
    by : length (set_value test es w) ≡ length es → (b : Bool) → length (cond b ((e.0, w) ∷ es) (e ∷ set_value test es w)) ≡ suc (length es)
    by rest true = refl
    by rest false = ap suc rest

get_before : {X : Type 0} (test : List ℕ → Bool) (es : List (List ℕ × X)) (w : X) (k : ℕ)
    → ((j : ℕ) (e : List ℕ × X) → j ≤ k → slice_get es j ≡ Some e → test e.0 ≡ false)
    → slice_get (set_value test es w) k ≡ slice_get es k
get_before test [] w k none = refl
get_before {X} test (e ∷ es) w zero none =
    ap (λ b. slice_get (cond b ((e.0, w) ∷ es) (e ∷ set_value test es w)) 0) (none 0 e (omega arith) refl)
get_before {X} test (e ∷ es) w (suc k) none =
    ap (λ b. slice_get (cond b ((e.0, w) ∷ es) (e ∷ set_value test es w)) (suc k)) (none 0 e (omega arith) refl)
    ∙ get_before test es w k (λ j x less here. none (suc j) x (omega (arith, less)) here)

-- a module changes that isn't one of them
pub first_beside : (noted : List (List ℕ × Holding)) (loaded : List (List ℕ × Module)) (path : List ℕ) (w : Module) (n : ℕ)
    → ((k : ℕ) (e : List ℕ × Module) → k < n → slice_get loaded k ≡ Some e → bytes_eq path e.0 ≡ false)
    → HoldsFirst noted loaded n → HoldsFirst noted (set_value (bytes_eq path) loaded w) n
first_beside noted loaded path w n beside first = record {
  within = let same : length (set_value (bytes_eq path) loaded w) ≡ length loaded = length-set_value (bytes_eq path) loaded w in omega (arith, same, first.within);
  own = λ k e less here. first.own k e less (sym (before k less) ∙ here);
  brought = λ k e less here. first.brought k e less (sym (before k less) ∙ here);
}
  where
    before : (k : ℕ) → k < n → slice_get (set_value (bytes_eq path) loaded w) k ≡ slice_get loaded k
    before k less = get_before (bytes_eq path) loaded w k (λ j e lower here. beside j e (omega (arith, less, lower)) here)

-- what stood at a place before a value was given
record Stood {X : Type 0} (test : List ℕ → Bool) (es : List (List ℕ × X)) (w : X) (k : ℕ) (e : List ℕ × X) : Type 0 where
  pub value : X
  pub here : slice_get es k ≡ Some (e.0, value)
  pub same : (e.1 ≡ value) ⊎ ((e.1 ≡ w) × (lookup test es ≡ Some value))

stood : {X : Type 0} (test : List ℕ → Bool) (es : List (List ℕ × X)) (w : X) (k : ℕ) (e : List ℕ × X)
    → slice_get (set_value test es w) k ≡ Some e → Stood test es w k e
stood {X} test [] w k e here = record { value = e.1; here = here; same = inl refl }
stood {X} test (x ∷ es) w k e here = by (λ i there. stood test es w i e there) (test x.0) refl k here
  where
    by : ((i : ℕ) → slice_get (set_value test es w) i ≡ Some e → Stood test es w i e) → (b : Bool) → test x.0 ≡ b → (k : ℕ) → slice_get (cond b ((x.0, w) ∷ es) (x ∷ set_value test es w)) k ≡ Some e → Stood test (x ∷ es) w k e
    by before true t zero here =
        let same : (x.0, w) ≡ e = cc in
        record {
          value = x.1;
          here = ap (λ (p : List ℕ × X). Some (p.0, x.1)) same;
          same = inr (ap (λ (p : List ℕ × X). p.1) (sym same), ap (λ b. cond b (Some x.1) (lookup test es)) t);
        }
    by before true t (suc k) here = record { value = e.1; here = here; same = inl refl }
    by before false f zero here = record { value = e.1; here = here; same = inl refl }
    by before false f (suc k) here =
        let rest = before k here in
        record {
          value = rest.value;
          here = rest.here;
          same = ⊎_elim (λ l. inl l) (λ r. inr (r.0, ap (λ b. cond b (Some x.1) (lookup test es)) f ∙ r.1)) rest.same;
        }

all_set : {X : Type 0} (noted : List (List ℕ × Holding)) (path name : List ℕ) (es : List (List ℕ × X)) (v : X)
    → HoldsAll noted path es → HoldsAll noted path (set_value (bytes_eq name) es v)
all_set noted path name es v all q some =
    let same : is_some (lookup (bytes_eq q) (set_value (bytes_eq name) es v)) ≡ is_some (lookup (bytes_eq q) es) =
    is_some-lookup (bytes_eq q) (set_value (bytes_eq name) es v) ∙ ap (list_any (bytes_eq q)) (keys-set_value (bytes_eq name) es v) ∙ sym (is_some-lookup (bytes_eq q) es) in
    all q (sym same ∙ some)

one_value : {X : Type 0} (v w : X) → Some v ≡ Some w → v ≡ w
one_value v w is = cc

-- a variable of a module has a value
pub first_assigned : (noted : List (List ℕ × Holding)) (loaded : List (List ℕ × Module)) (owner name : List ℕ) (value : Plain) (held left : Module) (n : ℕ)
    → lookup (bytes_eq owner) loaded ≡ Some held → left ≡ record held { variables = set_value (bytes_eq name) held.variables value }
    → HoldsFirst noted loaded n → HoldsFirst noted (set_value (bytes_eq owner) loaded left) n
first_assigned noted loaded owner name value held left n here is first = record {
  within = let same : length (set_value (bytes_eq owner) loaded left) ≡ length loaded = length-set_value (bytes_eq owner) loaded left in omega (arith, same, first.within);
  own = λ k e less there.
      let was = stood (bytes_eq owner) loaded left k e there in
      own_same e (first.own k (e.0, was.value) less was.here) was.same;
  brought = λ k e less there.
      let was = stood (bytes_eq owner) loaded left k e there in
      brought_same e (first.brought k (e.0, was.value) less was.here) was.same;
}
  where
    own_same : (e : List ℕ × Module) {v : Module} → HoldsOwn noted e.0 v → (e.1 ≡ v) ⊎ ((e.1 ≡ left) × (lookup (bytes_eq owner) loaded ≡ Some v)) → HoldsOwn noted e.0 e.1
    own_same e {v} own =
        ⊎_elim (λ same. subst (λ (m : Module). HoldsOwn noted e.0 m) (sym same) own)
        (λ r.
        let one : v ≡ held = one_value v held (sym r.1 ∙ here) in
        let its : HoldsOwn noted e.0 held = subst (λ (m : Module). HoldsOwn noted e.0 m) one own in
        let now : HoldsOwn noted e.0 (record held { variables = set_value (bytes_eq name) held.variables value }) = record { variables = all_set noted e.0 name held.variables value its.variables; functions = its.functions; mixins = its.mixins } in
        subst (λ (m : Module). HoldsOwn noted e.0 m) (sym (r.0 ∙ is)) now)

    brought_same : (e : List ℕ × Module) {v : Module} → HoldsBrought noted e.0 v → (e.1 ≡ v) ⊎ ((e.1 ≡ left) × (lookup (bytes_eq owner) loaded ≡ Some v)) → HoldsBrought noted e.0 e.1
    brought_same e {v} brought =
        ⊎_elim (λ same. subst (λ (m : Module). HoldsBrought noted e.0 m) (sym same) brought)
        (λ r.
        let one : v ≡ held = one_value v held (sym r.1 ∙ here) in
        let its : HoldsBrought noted e.0 held = subst (λ (m : Module). HoldsBrought noted e.0 m) one brought in
        let now : HoldsBrought noted e.0 (record held { variables = set_value (bytes_eq name) held.variables value }) = record { variables = its.variables; functions = its.functions; mixins = its.mixins } in
        subst (λ (m : Module). HoldsBrought noted e.0 m) (sym (r.0 ∙ is)) now)

pub first_fewer : (noted : List (List ℕ × Holding)) (loaded : List (List ℕ × Module)) (m n : ℕ) → m ≤ n → HoldsFirst noted loaded n → HoldsFirst noted loaded m
first_fewer noted loaded m n few first = record {
  within = omega (arith, few, first.within);
  own = λ k e less here. first.own k e (omega (arith, few, less)) here;
  brought = λ k e less here. first.brought k e (omega (arith, few, less)) here;
}

key_at : {X : Type 0} (es : List (List ℕ × X)) (k : ℕ) (e : List ℕ × X) → slice_get es k ≡ Some e → get_or (keys_of es) k e.0 ≡ e.0
key_at [] k e here = refl
key_at {X} (x ∷ es) zero e here = let same : x ≡ e = cc in ap (λ (p : List ℕ × X). p.0) same
key_at (x ∷ es) (suc k) e here = key_at es k e here

not_less : (a b : ℕ) → nat_lt a b ≡ false → b ≤ a
not_less a b f = grind arith

-- a module changes behind them
pub first_behind : (noted : List (List ℕ × Holding)) (loaded : List (List ℕ × Module)) (path : List ℕ) (held : Module) (place n : ℕ)
    → Some place ≡ position (bytes_eq path) (keys_of loaded) → n ≤ place
    → HoldsFirst noted loaded n → HoldsFirst noted (set_value (bytes_eq path) loaded held) n
first_behind noted loaded path held place n here behind first = first_beside noted loaded path held n beside first
  where
    beside : (k : ℕ) (e : List ℕ × Module) → k < n → slice_get loaded k ≡ Some e → bytes_eq path e.0 ≡ false
    beside k e less there =
        let stands = position-Some (bytes_eq path) (keys_of loaded) place e.0 (sym here) in
        sym (ap (bytes_eq path) (key_at loaded k e there)) ∙ stands.2 k (omega (arith, less, behind))

-- a module is put behind them that isn't there
pub first_new : (noted : List (List ℕ × Holding)) (loaded : List (List ℕ × Module)) (path : List ℕ) (held : Module) (n : ℕ)
    → false ≡ is_some (lookup (bytes_eq path) loaded)
    → HoldsFirst noted loaded n → HoldsFirst noted (insert_entry bytes_eq loaded path held) n
first_new noted loaded path held n absent first = by (lookup (bytes_eq path) loaded) refl absent
  where
    by : (r : Option Module) → lookup (bytes_eq path) loaded ≡ r → false ≡ is_some r → HoldsFirst noted (insert_entry bytes_eq loaded path held) n
    by None none absent =
        let last : insert_entry bytes_eq loaded path held ≡ loaded ++ (path, held) ∷ [] =
        insert_entry-absent bytes_eq path held loaded (absent_from_lookup (bytes_eq path) loaded none) in
        subst (λ (l : List (List ℕ × Module)). HoldsFirst noted l n) (sym last) (first_pushed noted loaded (path, held) n first)
    by (Some m) is absent = absurd (true≢false (sym absent))

-- ---- what the functions do

-- a path is put behind others
pub pushed_has : (paths : List (List ℕ)) (path : List ℕ) → list_any (bytes_eq path) (paths ++ path ∷ []) ≡ true
pushed_has [] path = ap (λ b. b || false) ((bytes_eq-Decides path path).1 refl)
pushed_has (x ∷ paths) path = by (pushed_has paths path) (bytes_eq path x)
  where
    by : list_any (bytes_eq path) (paths ++ path ∷ []) ≡ true → (b : Bool) → (b || list_any (bytes_eq path) (paths ++ path ∷ [])) ≡ true
    by rest true = refl
    by rest false = rest

pub pushed_more : (paths : List (List ℕ)) (path p : List ℕ) → list_any (bytes_eq p) paths ≡ true → list_any (bytes_eq p) (paths ++ path ∷ []) ≡ true
pushed_more [] path p has = absurd (true≢false (sym has))
pushed_more (x ∷ paths) path p has = by (λ h. pushed_more paths path p h) (bytes_eq p x) has
  where
    by : (list_any (bytes_eq p) paths ≡ true → list_any (bytes_eq p) (paths ++ path ∷ []) ≡ true) → (b : Bool) → (b || list_any (bytes_eq p) paths) ≡ true → (b || list_any (bytes_eq p) (paths ++ path ∷ [])) ≡ true
    by rest true has = refl
    by rest false has = rest has

-- a name is added
pub added_has : {T E : Type 0} (old new : List (List ℕ × Holding)) (name other path : List ℕ) (holding : Holding) (r : Result T E)
    → other ≡ name → OnOk r (new ≡ insert_entry bytes_eq old other holding) → in_holding holding path ≡ true → OnOk r (holds new name path ≡ true)
added_has old new name other path holding (Ok x) same is has =
    ap (λ l. holds l name path) (is ∙ ap (λ n. insert_entry bytes_eq old n holding) same) ∙ held_here old name path holding has
added_has old new name other path holding (Err x) same is has = tt

pub added_more : {T E : Type 0} (old new : List (List ℕ × Holding)) (name other : List ℕ) (was : Option Holding) (holding : Holding) (r : Result T E)
    → other ≡ name → was ≡ lookup (bytes_eq name) old
    → OnOk r (new ≡ insert_entry bytes_eq old other holding) → OnErr r (new ≡ old)
    → ((p : List ℕ) → option_map_or (λ h. in_holding h p) was false ≡ true → in_holding holding p ≡ true) → HoldsMore old new
added_more old new name other was holding (Ok x) same there is err more =
    subst (λ (l : List (List ℕ × Holding)). HoldsMore old l) (sym (is ∙ ap (λ n. insert_entry bytes_eq old n holding) same))
    (held_more old name [] holding (λ p h. more p (ap (λ (o : Option Holding). option_map_or (λ h. in_holding h p) o false) there ∙ h)))
added_more old new name other was holding (Err x) same there is err more =
    λ q p h. ap (λ l. holds l q p) err ∙ h

pub all_none : {X : Type 0} (noted : List (List ℕ × Holding)) (path : List ℕ) (es : List (List ℕ × X)) → [] ≡ es → HoldsAll noted path es
all_none {X} noted path es none = subst (λ (l : List (List ℕ × X)). HoldsAll noted path l) none (λ name some. absurd (true≢false (sym some)))

pub all_same : {X T E : Type 0} (noted : List (List ℕ × Holding)) (path : List ℕ) (es fs : List (List ℕ × X)) (r : Result T E)
    → es ≡ fs → OnOk r (HoldsAll noted path es) → OnOk r (HoldsAll noted path fs)
all_same {X} noted path es fs (Ok x) same all = subst (λ (l : List (List ℕ × X)). HoldsAll noted path l) same all
all_same noted path es fs (Err x) same all = tt

pub all_own : {T E : Type 0} (a b d : List (List ℕ × Holding)) (path : List ℕ) (held : Module) (r : Result T E)
    → HoldsAll a path held.variables → HoldsMore a b → HoldsAll b path held.callables.functions → HoldsMore b d
    → OnOk r (HoldsAll d path held.callables.mixins) → OnOk r (HoldsOwn d path held)
all_own a b d path held (Ok x) variables more functions last mixins = record {
  variables = λ name some. last name path (more name path (variables name some));
  functions = λ name some. last name path (functions name some);
  mixins = mixins;
}
all_own a b d path held (Err x) variables more functions last mixins = tt

pub all_brought : {T E : Type 0} (a b d : List (List ℕ × Holding)) (path : List ℕ) (held : Module) (r : Result T E)
    → HoldsAll a path held.uses.forwarded.variables → HoldsMore a b → HoldsAll b path held.uses.forwarded.functions → HoldsMore b d
    → OnOk r (HoldsAll d path held.uses.forwarded.mixins) → OnOk r (HoldsBrought d path held)
all_brought a b d path held (Ok x) variables more functions last mixins = record {
  variables = λ name some. last name path (more name path (variables name some));
  functions = λ name some. last name path (functions name some);
  mixins = mixins;
}
all_brought a b d path held (Err x) variables more functions last mixins = tt

-- the module of an entry is noted
pub entry_own : {T E : Type 0} (a b : List (List ℕ × Holding)) (path : List ℕ) (held : Module) (found : Option (List ℕ × Module)) (r : Result T E)
    → Some (path, held) ≡ found → HoldsOwn a path held → HoldsMore a b
    → OnOk r ((e : List ℕ × Module) → found ≡ Some e → HoldsOwn b e.0 e.1)
entry_own a b path held found (Ok x) is own more = λ e here.
    subst (λ (p : List ℕ × Module). HoldsOwn b p.0 p.1) (one_value (path, held) e (is ∙ here)) (own_more a b path held more own)
entry_own a b path held found (Err x) is own more = tt

pub entry_brought : {T E : Type 0} (b : List (List ℕ × Holding)) (path : List ℕ) (held : Module) (found : Option (List ℕ × Module)) (r : Result T E)
    → Some (path, held) ≡ found → OnOk r (HoldsBrought b path held)
    → OnOk r ((e : List ℕ × Module) → found ≡ Some e → HoldsBrought b e.0 e.1)
entry_brought b path held found (Ok x) is brought = λ e here.
    subst (λ (p : List ℕ × Module). HoldsBrought b p.0 p.1) (one_value (path, held) e (is ∙ here)) brought
entry_brought b path held found (Err x) is brought = tt

-- a variable of a module is given a value
pub first_with : (noted : List (List ℕ × Holding)) (loaded : List (List ℕ × Module)) (owner name : List ℕ) (value : Plain) (n : ℕ)
    → HoldsFirst noted loaded n → HoldsFirst noted (with_variable loaded owner name value) n
first_with noted loaded owner name value n first = by (lookup (bytes_eq owner) loaded) refl
  where
    by : (r : Option Module) → lookup (bytes_eq owner) loaded ≡ r
        → HoldsFirst noted (option_map_or (λ (held : Module). set_value (bytes_eq owner) loaded (record held { variables = set_value (bytes_eq name) held.variables value })) r loaded) n
    by None none = first
    by (Some held) is = first_assigned noted loaded owner name value held (record held { variables = set_value (bytes_eq name) held.variables value }) n is refl first

pub first_given : {T E : Type 0} (noted : List (List ℕ × Holding)) (old new : List (List ℕ × Module)) (owner name : List ℕ) (value : Plain) (n : ℕ) (r : Result T E)
    → OnOk r (new ≡ with_variable old owner name value) → OnErr r (new ≡ old) → HoldsFirst noted old n → HoldsFirst noted new n
first_given noted old new owner name value n (Ok x) is err first =
    subst (λ (l : List (List ℕ × Module)). HoldsFirst noted l n) (sym is) (first_with noted old owner name value n first)
first_given noted old new owner name value n (Err x) is err first =
    subst (λ (l : List (List ℕ × Module)). HoldsFirst noted l n) (sym err) first
