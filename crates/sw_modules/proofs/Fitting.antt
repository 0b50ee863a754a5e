-- That answers fit their questions.
use Rattle.std.proofs.Common.{◌≡◌, ℕ, Bool, true, false, List, Option, None, Some, Result, Ok, Err, IfOk, cond, bytes_eq, find, sym, subst}
use Rattle.std.specs.List.{list_any}
use Rattle.std.specs.Map.{lookup}
use Rattle.sw_tree.specs.declared.callable.Callable as tree
use Rattle.sw_tree.specs.declared.callable.Kind.{Kind}
use Rattle.sw_tree.specs.declared.callable.Kind.TheVariants.{Variable, Function, Mixin}
use Rattle.sw_values.specs.declared.plain.Plain.{Plain}
use Rattle.sw_builtins.specs.declared.built_in.Found.{Found}
use Rattle.sw_builtins.specs.declared.built_in.Found.TheVariants as F
use Rattle.sw_builtins.specs.Tables as built_in
use Rattle.sw_world.specs.declared.question.Question.{Question}
use Rattle.sw_world.specs.declared.question.Question.TheVariants.{Load, Find, Get, Put, Say, Call}
use Rattle.sw_world.specs.declared.answer.Answer.{Answer}
use Rattle.sw_world.specs.declared.answer.Answer.TheVariants.{NoNamespace, NoMember, LeftOut, Conflict, BuiltIn}
use Rattle.sw_world.specs.Questions.{IsLoad, Fits}
use Rattle.sw_modules.specs.declared.members.Origin.{Origin}
use Rattle.sw_modules.specs.declared.module.Module.{Module}
use Rattle.sw_modules.specs.declared.uses.Uses.{Uses}
use Rattle.sw_modules.specs.BuiltIns.{is_sass}
use Rattle.sw_modules.specs.State.{State, path_in, uses_in}
use Rattle.sw_modules.specs.Names.{variable_of, callable_of, own_member, loaded_own, built_in_member, member_of, public_origin, member_from, public_of, public_member, is_member, brings, brings_other, star_of, used_member, loaded_member, found}
use Rattle.sw_modules.specs.Outside.{Functions, Outside, plain}

module _ (site : List ℕ) (space : Option (List ℕ)) (name : List ℕ) where
  either : (kind : Kind) (b : Bool) (x y : Answer) → Fits (Find site space kind name) x → Fits (Find site space kind name) y → Fits (Find site space kind name) (cond b x y)
  either kind true x y p q = p
  either kind false x y p q = q

  none_fits : (kind : Kind) → Fits (Find site space kind name) NoMember
  none_fits Variable = tt
  none_fits Function = tt
  none_fits Mixin = tt

  no_namespace_fits : (kind : Kind) → Fits (Find site space kind name) NoNamespace
  no_namespace_fits Variable = tt
  no_namespace_fits Function = tt
  no_namespace_fits Mixin = tt

  conflict_fits : (kind : Kind) → Fits (Find site space kind name) Conflict
  conflict_fits Variable = tt
  conflict_fits Function = tt
  conflict_fits Mixin = tt

  left_out_fits : (kind : Kind) → Fits (Find site space kind name) LeftOut
  left_out_fits Variable = tt
  left_out_fits Function = tt
  left_out_fits Mixin = tt

  built_in_fits : (kind : Kind) (url own : List ℕ) → Fits (Find site space kind name) (BuiltIn url own)
  built_in_fits Variable url own = tt
  built_in_fits Function url own = tt
  built_in_fits Mixin url own = tt

  -- Modules

  variable_fits : (path own : List ℕ) (value : Option Plain) → Fits (Find site space Variable name) (variable_of path own value)
  variable_fits path own None = tt
  variable_fits path own (Some value) = tt

  function_fits : (path : List ℕ) (body : Option tree.Callable) → Fits (Find site space Function name) (callable_of path body)
  function_fits path None = tt
  function_fits path (Some body) = tt

  mixin_fits : (path : List ℕ) (body : Option tree.Callable) → Fits (Find site space Mixin name) (callable_of path body)
  mixin_fits path None = tt
  mixin_fits path (Some body) = tt

  own_fits : (kind : Kind) (own path : List ℕ) (held : Module) → Fits (Find site space kind name) (own_member kind own path held)
  own_fits Variable own path held = variable_fits path own (lookup (bytes_eq own) held.variables)
  own_fits Function own path held = function_fits path (lookup (bytes_eq own) held.callables.functions)
  own_fits Mixin own path held = mixin_fits path (lookup (bytes_eq own) held.callables.mixins)

  loaded_own_fits : (kind : Kind) (own path : List ℕ) (held : Option Module) → Fits (Find site space kind name) (loaded_own kind own path held)
  loaded_own_fits kind own path None = none_fits kind
  loaded_own_fits kind own path (Some held) = own_fits kind own path held

  meaning_fits : (kind : Kind) (url own : List ℕ) (meaning : Found) → Fits (Find site space kind name) (built_in_member url own meaning)
  meaning_fits kind url own (F.Known meaning) = built_in_fits kind url own
  meaning_fits kind url own F.LeftOut = left_out_fits kind
  meaning_fits kind url own F.NoSuch = none_fits kind

  member_fits : (s : State) (kind : Kind) (own path : List ℕ) → Fits (Find site space kind name) (member_of s kind own path)
  member_fits s kind own path =
      either kind (is_sass path) (built_in_member path own (built_in.found (Some path) kind own)) (loaded_own kind own path (lookup (bytes_eq path) s.loaded))
      (meaning_fits kind path own (built_in.found (Some path) kind own)) (loaded_own_fits kind own path (lookup (bytes_eq path) s.loaded))

  origin_fits : (s : State) (kind : Kind) (origin : Option Origin) → Fits (Find site space kind name) (member_from s kind origin)
  origin_fits s kind None = none_fits kind
  origin_fits s kind (Some origin) = member_fits s kind origin.name origin.path

  public_fits : (s : State) (kind : Kind) (path : List ℕ) → Fits (Find site space kind name) (public_of s kind name path)
  public_fits s kind path = origin_fits s kind (public_origin s kind name path)

  -- Uses

  behind_fits : (s : State) (kind : Kind) (path : Option (List ℕ)) → Fits (Find site space kind name) (public_member s kind name path)
  behind_fits s kind None = no_namespace_fits kind
  behind_fits s kind (Some path) = public_fits s kind path

  star_fits : (s : State) (kind : Kind) (stars : List (List ℕ)) (path : Option (List ℕ)) → Fits (Find site space kind name) (star_of s kind name stars path)
  star_fits s kind stars None = none_fits kind
  star_fits s kind stars (Some path) =
      either kind (list_any (brings_other s kind name path) stars) Conflict (public_of s kind name path) (conflict_fits kind) (public_fits s kind path)

  used_fits : (s : State) (uses : Uses) (kind : Kind) (behind : Option (List ℕ)) → Fits (Find site space kind name) (used_member s uses behind kind name)
  used_fits s uses kind None = star_fits s kind uses.stars (find (brings s kind name) uses.stars)
  used_fits s uses kind (Some behind) = behind_fits s kind (lookup (bytes_eq behind) uses.named)

  -- Places

  loaded_fits : (s : State) (kind : Kind) (held : Option Module) (behind : Option (List ℕ)) → Fits (Find site space kind name) (loaded_member s site held behind kind name)
  loaded_fits s kind None behind = none_fits kind
  loaded_fits s kind (Some held) None =
      let own : Answer = own_member kind name site held in
      let used : Answer = used_member s held.uses None kind name in
      either kind (is_member own) own used (own_fits kind name site held) (used_fits s held.uses kind None)
  loaded_fits s kind (Some held) (Some behind) = used_fits s held.uses kind (Some behind)

  found_fits : (s : State) (kind : Kind) → Fits (Find site space kind name) (found s site space kind name)
  found_fits s kind =
      either kind (bytes_eq site (path_in s.opened)) (used_member s (uses_in s.opened) space kind name) (loaded_member s site (lookup (bytes_eq site) s.loaded) space kind name)
      (used_fits s (uses_in s.opened) kind space) (loaded_fits s kind (lookup (bytes_eq site) s.loaded) space)

pub plain_fits : (functions : Functions) (op : Question) (o : Outside) → (IsLoad op → ⊥) → Fits op (plain functions op o).0
plain_fits functions (Load site url span how config) o not = absurd (not tt)
plain_fits functions (Find site space kind name) o not = found_fits site space name o.live kind
plain_fits functions (Get owner name) o not = tt
plain_fits functions (Put owner name value) o not = tt
plain_fits functions (Say kind span text) o not = tt
plain_fits functions (Call name args) o not = tt

-- what a find gives fits it
pub find_fits : {E : Type 0} (op : Question) (given : Result Answer E) (s : State) (site : List ℕ) (space : Option (List ℕ)) (kind : Kind) (name : List ℕ) → op ≡ Find site space kind name
    → IfOk given (λ answer. answer ≡ found s site space kind name) → IfOk given (λ answer. Fits op answer)
find_fits op (Ok answer) s site space kind name is same =
    subst (λ o. Fits o answer) (sym is) (subst (λ a. Fits (Find site space kind name) a) (sym same) (found_fits site space name s kind))
find_fits op (Err e) s site space kind name is same = tt
