-- Of many modules those are asked that may have a name.
use Rattle.std.proofs.Common.{◌≡◌, ℕ, ◌<◌, ◌≤◌, Bool, true, false, cond, ◌||◌, List, [], ◌∷◌, length, filter, find, bytes_eq, Option, Some, None, is_some, Result, Ok, Err, IfOk, IfSome, refl, sym, ◌∙◌, ap, subst, arith, if◌then◌else◌}
use Rattle.std.specs.List.{list_any}
use Rattle.std.specs.Map.{lookup}
use Rattle.std.proofs.lemmas.Bool.{true≢false}
use Rattle.std.proofs.lemmas.Slice.Eq.{bytes_eq-Decides}
use Rattle.std.proofs.lemmas.Option.{slice_get_within}
use Rattle.std.proofs.lemmas.Map.Entries.{place_from_lookup}
use Rattle.sw_text.specs.Names.{is_private}
use Rattle.sw_tree.specs.declared.callable.Kind.{Kind}
use Rattle.sw_tree.specs.declared.callable.Kind.TheVariants.{Variable, Function, Mixin}
use Rattle.sw_tree.specs.declared.callable.Callable as tree
use Rattle.sw_values.specs.declared.plain.Plain.{Plain}
use Rattle.sw_modules.specs.declared.holders.Holding.{Holding}
use Rattle.sw_modules.specs.declared.members.Origin.{Origin}
use Rattle.sw_modules.specs.declared.module.Module.{Module}
use Rattle.sw_modules.specs.BuiltIns.{is_sass}
use Rattle.sw_modules.specs.Interfaces.{has_own, origin_in}
use Rattle.sw_world.specs.declared.answer.Answer.TheVariants.{Conflict}
use Rattle.sw_modules.specs.Names.{public_of, variable_of, callable_of, own_member, member_of, is_member, forwarded_origin, public_origin, brings, differ, brings_other, star_of, star_member}
use Rattle.sw_modules.specs.State.{State}
use Rattle.sw_modules.specs.Noted.{in_held, holds, HoldsOwn, HoldsBrought, HoldsFirst, has_name, is_kept, IsFew}

-- ---- what is kept

or_first : (a b : Bool) → a ≡ true → (a || b) ≡ true
or_first a b is = ap (λ c. c || b) is

or_second : (a b : Bool) → b ≡ true → (a || b) ≡ true
or_second true b is = refl
or_second false b is = is

-- one of both holds
either : {P : Type 0} (a b : Bool) → (a || b) ≡ true → (a ≡ true → P) → (b ≡ true → P) → P
either true b is first second = first refl
either false b is first second = second is

named : (noted : List (List ℕ × Holding)) (path name : List ℕ) (held : Module) (kind : Kind)
    → HoldsOwn noted path held → HoldsBrought noted path held → has_name kind name held ≡ true → holds noted name path ≡ true
named noted path name held Variable own brought has =
    either (is_some (lookup (bytes_eq name) held.variables)) (is_some (lookup (bytes_eq name) held.uses.forwarded.variables)) has
    (own.variables name) (brought.variables name)
named noted path name held Function own brought has =
    either (is_some (lookup (bytes_eq name) held.callables.functions)) (is_some (lookup (bytes_eq name) held.uses.forwarded.functions)) has
    (own.functions name) (brought.functions name)
named noted path name held Mixin own brought has =
    either (is_some (lookup (bytes_eq name) held.callables.mixins)) (is_some (lookup (bytes_eq name) held.uses.forwarded.mixins)) has
    (own.mixins name) (brought.mixins name)

module _ (noted : List (List ℕ × Holding)) (loaded : List (List ℕ × Module)) (n : ℕ) (all : length loaded ≤ n) (first : HoldsFirst noted loaded n) where
  noted_for : (path name : List ℕ) (held : Module) (kind : Kind) → lookup (bytes_eq path) loaded ≡ Some held → has_name kind name held ≡ true → holds noted name path ≡ true
  noted_for path name held kind here has =
      let found = place_from_lookup (bytes_eq path) loaded held here in
      let inside : found.0 < length loaded = slice_get_within loaded found.0 (found.1, held) found.2 in
      let less : found.0 < n = omega (arith, inside, all) in
      let its : holds noted name found.1 ≡ true =
      named noted found.1 name held kind (first.own found.0 (found.1, held) less found.2) (first.brought found.0 (found.1, held) less found.2) has in
      subst (λ (x : List ℕ). holds noted name x ≡ true) (sym ((bytes_eq-Decides path found.1).0 found.3)) its

  pub few_held : (name : List ℕ) (paths few : List (List ℕ)) (held : Option Holding) → held ≡ lookup (bytes_eq name) noted
      → few ≡ filter (is_kept held) paths → IsFew loaded name paths few
  few_held name paths few holding here is = record {
    keep = is_kept holding;
    is = is;
    sass = λ path t. or_first (is_sass path) (in_held holding path) t;
    held = λ path held kind there has.
        let may : in_held holding path ≡ true =
        ap (λ (o : Option Holding). in_held o path) here ∙ noted_for path name held kind there has in
        or_second (is_sass path) (in_held holding path) may;
  }

-- ---- which of them bring the name

find_kept : {X : Type 0} (test keep : X → Bool) → ((x : X) → test x ≡ true → keep x ≡ true) → (xs : List X) → find test (filter keep xs) ≡ find test xs
find_kept test keep keeps [] = refl
find_kept {X} test keep keeps (x ∷ xs) = by (find_kept test keep keeps xs) (keep x) (test x) refl refl
  where
    by : find test (filter keep xs) ≡ find test xs → (k t : Bool) → keep x ≡ k → test x ≡ t → find test (cond k (x ∷ filter keep xs) (filter keep xs)) ≡ cond t (Some x) (find test xs)
    by rest true true k t = ap (λ b. cond b (Some x) (find test (filter keep xs))) t
    by rest true false k t = ap (λ b. cond b (Some x) (find test (filter keep xs))) t ∙ rest
    by rest false true k t = absurd (true≢false (sym (keeps x t) ∙ k))
    by rest false false k t = rest

any_kept : {X : Type 0} (test keep : X → Bool) → ((x : X) → test x ≡ true → keep x ≡ true) → (xs : List X) → list_any test (filter keep xs) ≡ list_any test xs
any_kept test keep keeps [] = refl
any_kept {X} test keep keeps (x ∷ xs) = by (any_kept test keep keeps xs) (keep x) (test x) refl refl
  where
    by : list_any test (filter keep xs) ≡ list_any test xs → (k t : Bool) → keep x ≡ k → test x ≡ t → list_any test (cond k (x ∷ filter keep xs) (filter keep xs)) ≡ (t || list_any test xs)
    by rest true true k t = ap (λ b. b || list_any test (filter keep xs)) t
    by rest true false k t = ap (λ b. b || list_any test (filter keep xs)) t ∙ rest
    by rest false true k t = absurd (true≢false (sym (keeps x t) ∙ k))
    by rest false false k t = rest

own_is : (kind : Kind) (name path : List ℕ) (held : Module) → is_member (own_member kind name path held) ≡ has_own kind name held
own_is Variable name path held = by (lookup (bytes_eq name) held.variables)
  where
    by : (r : Option Plain) → is_member (variable_of path name r) ≡ is_some r
    by None = refl
    by (Some v) = refl
own_is Function name path held = by (lookup (bytes_eq name) held.callables.functions)
  where
    by : (r : Option tree.Callable) → is_member (callable_of path r) ≡ is_some r
    by None = refl
    by (Some v) = refl
own_is Mixin name path held = by (lookup (bytes_eq name) held.callables.mixins)
  where
    by : (r : Option tree.Callable) → is_member (callable_of path r) ≡ is_some r
    by None = refl
    by (Some v) = refl

-- an origin is the module's own or one of its forwards'
has_origin : (private own : Bool) (mine : Origin) (forwarded : Option Origin)
    → is_some (if private then None else if own then Some mine else forwarded) ≡ true → (own || is_some forwarded) ≡ true
has_origin true own mine forwarded some = absurd (true≢false (sym some))
has_origin false true mine forwarded some = refl
has_origin false false mine forwarded some = some

module _ (s : State) (kind : Kind) (name : List ℕ) where
  has_one : (path : List ℕ) → brings s kind name path ≡ true → (is_member (member_of s kind name path) || is_some (forwarded_origin s kind name path)) ≡ true
  has_one path brought =
      has_origin (is_private name) (is_member (member_of s kind name path)) (record { path = path; name = name }) (forwarded_origin s kind name path) brought

  module _ (stars few : List (List ℕ)) (is : IsFew s.loaded name stars few) where
    keeps : (path : List ℕ) → brings s kind name path ≡ true → is.keep path ≡ true
    keeps path brought = by (is_sass path) refl (lookup (bytes_eq path) s.loaded) refl
      where
        by : (b : Bool) → is_sass path ≡ b → (r : Option Module) → lookup (bytes_eq path) s.loaded ≡ r → is.keep path ≡ true
        by true sass r here = is.sass path sass
        by false sass None none =
            let member : is_member (member_of s kind name path) ≡ false = rw (sass, none) refl in
            let forwarded : is_some (forwarded_origin s kind name path) ≡ false = rw none refl in
            let one : (is_member (member_of s kind name path) || is_some (forwarded_origin s kind name path)) ≡ false = rw (member, forwarded) refl in
            absurd (true≢false (sym (has_one path brought) ∙ one))
        by false sass (Some held) here =
            let member : is_member (member_of s kind name path) ≡ has_own kind name held = rw (sass, here) (own_is kind name path held) in
            let forwarded : is_some (forwarded_origin s kind name path) ≡ is_some (origin_in held.uses.forwarded kind name) = rw here refl in
            let same : (is_member (member_of s kind name path) || is_some (forwarded_origin s kind name path)) ≡ has_name kind name held = rw (member, forwarded) refl in
            is.held path held kind here (sym same ∙ has_one path brought)

    other_brings : (path other : List ℕ) → brings_other s kind name path other ≡ true → brings s kind name other ≡ true
    other_brings path other differs = by (public_origin s kind name path) (public_origin s kind name other) differs
      where
        by : (a b : Option Origin) → differ a b ≡ true → is_some b ≡ true
        by None b t = absurd (true≢false (sym t))
        by (Some one) None t = absurd (true≢false (sym t))
        by (Some one) (Some two) t = refl

    pub star_few : star_member s kind name few ≡ star_member s kind name stars
    star_few =
        ap (λ l. star_member s kind name l) is.is
        ∙ ap (star_of s kind name (filter is.keep stars)) (find_kept (brings s kind name) is.keep keeps stars)
        ∙ by (find (brings s kind name) stars)
      where
        by : (r : Option (List ℕ)) → star_of s kind name (filter is.keep stars) r ≡ star_of s kind name stars r
        by None = refl
        by (Some path) =
            ap (λ b. if b then Conflict else public_of s kind name path)
            (any_kept (brings_other s kind name path) is.keep (λ other t. keeps other (other_brings path other t)) stars)

-- so the answer is the same among them
pub few_answers : {E : Type 0} (s : State) (loaded : List (List ℕ × Module)) (name : List ℕ) (stars : List (List ℕ)) (r : Result (Option (List (List ℕ))) E)
    → loaded ≡ s.loaded → IfOk r (λ few. IfSome few (IsFew loaded name stars))
    → IfOk r (λ few. IfSome few (λ few. (kind : Kind) → star_member s kind name few ≡ star_member s kind name stars))
few_answers s loaded name stars (Err e) same is = tt
few_answers s loaded name stars (Ok None) same is = tt
few_answers s loaded name stars (Ok (Some few)) same is =
    let here : IsFew s.loaded name stars few = subst (λ (l : List (List ℕ × Module)). IsFew l name stars few) same is in
    λ kind. star_few s kind name stars few here
