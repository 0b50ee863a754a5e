-- The configuration of a module, and what a forward passes on of it (the Sass specification on configurations; what is
-- taken of a configuration that is passed on is this project's own).
use Rattle.std.specs.Prelude.{ℕ, Bool, true, false, not, ◌&&◌, bytes_eq, nat_eq, if◌then◌else◌, List, [], ◌∷◌, ◌++◌, length, drop, filter, map, Option, Some, None}
use Rattle.std.specs.List.{list_any, filter_map, starts_with}
use Rattle.std.specs.Map.{lookup}
use Rattle.std.specs.Option.{is_some}
use Rattle.sw_text.specs.declared.place.Span.{Span}
use Rattle.sw_tree.specs.declared.load.Filter.{Filter}
use Rattle.sw_tree.specs.declared.load.Filter.TheVariants as F
use Rattle.sw_tree.specs.declared.load.Forward.{Forward}
use Rattle.sw_tree.specs.declared.load.Given.{Given as Entry}
use Rattle.sw_tree.specs.declared.load.Member.{Member}
use Rattle.sw_values.specs.Shape.{node_of}
use Rattle.sw_values.specs.declared.plain.Plain.{Plain}
use Rattle.sw_values.specs.declared.value.Node.{Node}
use Rattle.sw_values.specs.declared.value.Node.TheVariants as N
use Rattle.sw_world.specs.declared.answer.Answer.{Answer}
use Rattle.sw_world.specs.declared.answer.Answer.TheVariants.{Loaded}
use Rattle.sw_world.specs.declared.question.Given.{Given}
use Rattle.sw_eval_configurations.specs.Loads.{Loading, Using, Forwarding, prefix_of}

-- the values that a module is configured with, by name
abbrev pub Settings : Type 0
Settings = List (List ℕ × Plain)

-- the value that a configuration has for a name
abbrev pub value_in : Settings → List ℕ → Option Plain
value_in config name = lookup (bytes_eq name) config

abbrev pub has_name : List (List ℕ) → List ℕ → Bool
has_name names name = list_any (bytes_eq name) names

abbrev pub null_by : Node → Bool
null_by N.Null = true
null_by _ = false

abbrev pub is_null : Plain → Bool
is_null v = null_by (node_of v)

-- what an entry of a `with` gives, which has this value
abbrev pub given_of : Entry → Plain → Given
given_of e v = record { name = e.name; value = v; span = e.name_span; explicit = true }

-- ---- what a forward passes on

-- a name without the prefix that it has
abbrev pub inner_name : List ℕ → List ℕ → Option (List ℕ)
inner_name prefix name = if starts_with nat_eq name prefix then Some (drop (length prefix) name) else None

-- a variable is among these members
abbrev pub has_variable : List Member → List ℕ → Bool
has_variable members name = list_any (λ m. m.variable && bytes_eq m.name name) members

abbrev pub lets_through : Filter → List ℕ → Bool
lets_through F.All name = true
lets_through (F.Show members) name = has_variable members name
lets_through (F.Hide members) name = not (has_variable members name)

abbrev pub passed_as : Span → Plain → Option (List ℕ) → Option Given
passed_as at v None = None
passed_as at v (Some name) = Some (record { name = name; value = v; span = at; explicit = false })

-- a value of the configuration, as it is passed on; `show` and `hide` name it with the prefix
abbrev pub passed_one : Forward → List ℕ × Plain → Option Given
passed_one f one =
    if lets_through f.filter one.0 then passed_as f.url.span one.1 (inner_name (prefix_of f) one.0) else None

abbrev pub passed_on : Settings → Forward → List Given
passed_on config f = filter_map (passed_one f) config

-- what a load passes on of its module's configuration
abbrev pub passed : Settings → Loading → List Given
passed config (Using x) = []
passed config (Forwarding x) = passed_on config x

-- ---- entries with a default

abbrev pub unless_null : Plain → Option Plain
unless_null v = if is_null v then None else Some v

-- the value of this name, but for null
abbrev pub value_of : List Given → List ℕ → Option Plain
value_of [] name = None
value_of (one ∷ more) name = if bytes_eq name one.name then unless_null one.value else value_of more name

-- the value other than null that is passed on for an entry with a default, and goes on in the entry's place
abbrev pub value_passed : List Given → Entry → Option Plain
value_passed ps e = if e.default then value_of ps e.name else None

-- ---- what counts as taken of the forward's own configuration

abbrev pub has_entry : List Entry → List ℕ → Bool
has_entry entries name = list_any (λ e. bytes_eq e.name name) entries

abbrev pub is_passed : List Given → List ℕ → Bool
is_passed ps name = list_any (λ one. bytes_eq one.name name) ps

-- a value of this name is passed on, and no entry stands for it
abbrev pub passes : List Given → List Entry → List ℕ → Bool
passes ps entries name = is_passed ps name && not (has_entry entries name)

-- of the names that the forwarded module took those that were passed on
abbrev pub taken_through : List Given → Forward → List (List ℕ) → List (List ℕ)
taken_through ps f names = map (λ name. prefix_of f ++ name) (filter (passes ps f.configuration) names)

-- the names of entries with a default in whose place another value went on
abbrev pub taken_by_entries : List Given → Forward → List (List ℕ)
taken_by_entries ps f =
    map (λ e. prefix_of f ++ e.name) (filter (λ e. is_some (value_passed ps e)) f.configuration)

-- the names that a forward takes of its own module's configuration, where the forwarded module took these
abbrev pub names_taken : List Given → Forward → List (List ℕ) → List (List ℕ)
names_taken ps f names = taken_through ps f names ++ taken_by_entries ps f

-- the names that a load takes of its module's configuration, by its answer
abbrev pub taken_by : Settings → Loading → Answer → List (List ℕ)
taken_by config (Forwarding x) (Loaded path names) = names_taken (passed_on config x) x names
taken_by config _ a = []

abbrev pub and_given : List Given → Option Given → List Given
and_given done None = done
and_given done (Some given) = done ++ given ∷ []
