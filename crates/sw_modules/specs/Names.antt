-- What a name means in a module (the Sass specification's modules). Behind a namespace it is a public member of the
-- module that is used so: a public own one, or else one that its forwards brought, with its origin. Without one it is an
-- own member of the module in which it is written, or else a public member of the modules that are used there `as *`,
-- of which two may not have it from different origins. A built-in module has the members that the Sass reference
-- documentation gives it, of which this language leaves out some.
use Rattle.std.specs.Prelude.{ℕ, List, bytes_eq, find, Bool, true, false, not, Option, None, Some, is_some, option_and_then, if◌then◌else◌}
use Rattle.std.specs.List.{list_any}
use Rattle.std.specs.Option.{option_map_or}
use Rattle.std.specs.Map.{lookup}
use Rattle.sw_text.specs.Names.{is_private}
use Rattle.sw_tree.specs.declared.callable.Callable as tree
use Rattle.sw_tree.specs.declared.callable.Kind.{Kind}
use Rattle.sw_tree.specs.declared.callable.Kind.TheVariants.{Variable, Function, Mixin}
use Rattle.sw_values.specs.declared.plain.Plain.{Plain}
use Rattle.sw_values.specs.declared.plain.Plain.TheVariants.{Null}
use Rattle.sw_builtins.specs.declared.built_in.Found.{Found}
use Rattle.sw_builtins.specs.declared.built_in.Found.TheVariants as F
use Rattle.sw_builtins.specs.Tables as built_in
use Rattle.sw_world.specs.declared.answer.Answer.{Answer}
use Rattle.sw_world.specs.declared.answer.Answer.TheVariants.{Owner, Callable, BuiltIn, NoNamespace, NoMember, LeftOut, Conflict}
use Rattle.sw_modules.specs.declared.members.Origin.{Origin}
use Rattle.sw_modules.specs.declared.module.Module.{Module}
use Rattle.sw_modules.specs.declared.uses.Uses.{Uses}
use Rattle.sw_modules.specs.BuiltIns.{is_sass}
use Rattle.sw_modules.specs.Interfaces.{origin_in, same_origin}
use Rattle.sw_modules.specs.State.{State, path_in, uses_in}

-- ---- what a module has of a name

-- the module at a path has this variable
abbrev pub variable_of : List ℕ → List ℕ → Option Plain → Answer
variable_of path name None = NoMember
variable_of path name (Some value) = Owner path name

-- the module at a path has this function or mixin
abbrev pub callable_of : List ℕ → Option tree.Callable → Answer
callable_of path None = NoMember
callable_of path (Some body) = Callable path body

-- its own members, private ones among them
abbrev pub own_member : Kind → List ℕ → List ℕ → Module → Answer
own_member Variable name path held = variable_of path name (lookup (bytes_eq name) held.variables)
own_member Function name path held = callable_of path (lookup (bytes_eq name) held.callables.functions)
own_member Mixin name path held = callable_of path (lookup (bytes_eq name) held.callables.mixins)

abbrev pub loaded_own : Kind → List ℕ → List ℕ → Option Module → Answer
loaded_own kind name path None = NoMember
loaded_own kind name path (Some held) = own_member kind name path held

-- what the name of a built-in module is
abbrev pub built_in_member : List ℕ → List ℕ → Found → Answer
built_in_member url name (F.Known meaning) = BuiltIn url name
built_in_member url name F.LeftOut = LeftOut
built_in_member url name F.NoSuch = NoMember

-- an own member of the module at a path, or one of the built-in module of a URL
abbrev pub member_of : State → Kind → List ℕ → List ℕ → Answer
member_of s kind name path =
    if is_sass path then built_in_member path name (built_in.found (Some path) kind name)
    else loaded_own kind name path (lookup (bytes_eq path) s.loaded)

abbrev pub is_member : Answer → Bool
is_member NoMember = false
is_member _ = true

-- ---- behind a namespace

-- where a member that the forwards of the module at a path brought is from
abbrev pub forwarded_origin : State → Kind → List ℕ → List ℕ → Option Origin
forwarded_origin s kind name path =
    option_and_then (λ held. origin_in held.uses.forwarded kind name) (lookup (bytes_eq path) s.loaded)

-- where a public member of the module at a path is from
abbrev pub public_origin : State → Kind → List ℕ → List ℕ → Option Origin
public_origin s kind name path =
    if is_private name then None
    else if is_member (member_of s kind name path) then Some (record { path = path; name = name })
    else forwarded_origin s kind name path

-- the member of an origin
abbrev pub member_from : State → Kind → Option Origin → Answer
member_from s kind None = NoMember
member_from s kind (Some origin) = member_of s kind origin.name origin.path

-- a public member of the module at a path
abbrev pub public_of : State → Kind → List ℕ → List ℕ → Answer
public_of s kind name path = member_from s kind (public_origin s kind name path)

-- a public member of the module that is used so
abbrev pub public_member : State → Kind → List ℕ → Option (List ℕ) → Answer
public_member s kind name None = NoNamespace
public_member s kind name (Some path) = public_of s kind name path

-- ---- without a namespace

-- the module at a path has this public member
abbrev pub brings : State → Kind → List ℕ → List ℕ → Bool
brings s kind name path = is_some (public_origin s kind name path)

abbrev pub differ : Option Origin → Option Origin → Bool
differ (Some one) (Some other) = not (same_origin one other)
differ (Some one) None = false
differ None other = false

-- two modules have this public member from different origins
abbrev pub brings_other : State → Kind → List ℕ → List ℕ → List ℕ → Bool
brings_other s kind name path other = differ (public_origin s kind name path) (public_origin s kind name other)

-- what the first of these modules brings, unless another one brings another member
abbrev pub star_of : State → Kind → List ℕ → List (List ℕ) → Option (List ℕ) → Answer
star_of s kind name stars None = NoMember
star_of s kind name stars (Some path) =
    if list_any (brings_other s kind name path) stars then Conflict else public_of s kind name path

-- a public member of the modules that are used `as *`
abbrev pub star_member : State → Kind → List ℕ → List (List ℕ) → Answer
star_member s kind name stars = star_of s kind name stars (find (brings s kind name) stars)

abbrev pub used_member : State → Uses → Option (List ℕ) → Kind → List ℕ → Answer
used_member s uses None kind name = star_member s kind name uses.stars
used_member s uses (Some space) kind name = public_member s kind name (lookup (bytes_eq space) uses.named)

-- ---- at a place

abbrev pub own_or_used : Answer → Answer → Answer
own_or_used own used = if is_member own then own else used

-- in a loaded module its own members are looked at first where there is no namespace
abbrev pub loaded_member : State → List ℕ → Option Module → Option (List ℕ) → Kind → List ℕ → Answer
loaded_member s site None space kind name = NoMember
loaded_member s site (Some held) None kind name =
    own_or_used (own_member kind name site held) (used_member s held.uses None kind name)
loaded_member s site (Some held) (Some space) kind name = used_member s held.uses (Some space) kind name

-- what a name means in the module at `site`: one that is being loaded is the innermost open load, whose own members its
-- body knows
abbrev pub found : State → List ℕ → Option (List ℕ) → Kind → List ℕ → Answer
found s site space kind name =
    if bytes_eq site (path_in s.opened) then used_member s (uses_in s.opened) space kind name
    else loaded_member s site (lookup (bytes_eq site) s.loaded) space kind name

-- ---- the value of a variable

-- null stands for a variable that isn't there; no body asks for one
abbrev pub no_value : Plain
no_value = Null

-- the value of a module's variable
abbrev pub value_of : State → List ℕ → List ℕ → Plain
value_of s owner name =
    option_map_or (λ held. option_map_or (λ value. value) (lookup (bytes_eq name) held.variables) no_value)
    (lookup (bytes_eq owner) s.loaded) no_value
