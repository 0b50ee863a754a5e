-- The state of one compile outside the bodies of its modules (this project's own rule).
use Rattle.std.specs.Prelude.{ℕ, ◌-◌, List, [], ◌∷◌, ◌++◌, length, nat_lt, if◌then◌else◌, take, slice_get, slice_set, bytes_eq, Option}
use Rattle.std.specs.Option.{option_map_or}
use Rattle.std.specs.Map.{lookup, set_value}
use Rattle.indexmap.specs.IndexMap.{insert_entry}
use Rattle.sw_css_tree.specs.Output.{Output}
use Rattle.sw_folder.specs.Files.{Files}
use Rattle.sw_values.specs.declared.plain.Plain.{Plain}
use Rattle.sw_world.specs.declared.question.How.{How}
use Rattle.sw_world.specs.declared.question.Saying.{Saying}
use Rattle.sw_world.specs.declared.end.Finish.{Finish}
use Rattle.sw_modules.specs.declared.members.Entry.{Entry}
use Rattle.sw_modules.specs.declared.module.Module.{Module}
use Rattle.sw_modules.specs.declared.module.Opened.{Opened}
use Rattle.sw_modules.specs.declared.uses.Uses.{Uses}
use Rattle.sw_modules.specs.Uses.{no_uses, with_one}
use Rattle.sw_modules.specs.Callables.{callables_of}

-- the folder and the load paths; the loaded modules by their paths, in the order in which their bodies ended; the open
-- loads, the innermost one last; the messages; the outputs of the modules whose bodies ended, in that order
pub record State : Type 0 where
  pub folder : Files
  pub paths : List (List ℕ)
  pub loaded : List (List ℕ × Module)
  pub opened : List Opened
  pub says : List Saying
  pub outputs : List Output

abbrev pub nothing_loaded : Files → List (List ℕ) → State
nothing_loaded files paths = record { folder = files; paths = paths; loaded = []; opened = []; says = []; outputs = [] }

-- a path whose module is being loaded from now on
abbrev pub open_at : List ℕ → State → State
open_at path s = record s { opened = s.opened ++ (record { path = path; uses = no_uses }) ∷ [] }

-- the innermost open load
abbrev pub last_open : List Opened → Option Opened
last_open opened = slice_get opened (length opened - 1)

-- its path, and its uses so far
abbrev pub path_in : List Opened → List ℕ
path_in opened = option_map_or (λ load. load.path) (last_open opened) []

abbrev pub uses_in : List Opened → Uses
uses_in opened = option_map_or (λ load. load.uses) (last_open opened) no_uses

-- the innermost open load has these uses
abbrev pub with_uses : List Opened → (Uses → Uses) → List Opened
with_uses opened now =
    option_map_or (λ load. slice_set opened (length opened - 1) (record load { uses = now load.uses }))
    (last_open opened) opened

-- the innermost open load uses the module at a path too, which brings these members
abbrev pub with_use : How → List ℕ → List Entry → List Opened → List Opened
with_use how path brought opened = with_uses opened (with_one how path brought)

-- the open loads without the innermost one
abbrev pub below : List Opened → List Opened
below opened = take (length opened - 1) opened

-- the innermost load is open no more
abbrev pub closed : State → State
closed s = record s { opened = below s.opened }

-- the module that a body left behind, with these uses
abbrev pub module_of : Finish → Uses → Module
module_of finish uses =
    record { variables = finish.variables; callables = callables_of finish.callables; uses = uses }

-- the module at a path has these uses
abbrev pub used_by : List (List ℕ × Module) → List ℕ → Uses → List (List ℕ × Module)
used_by loaded path uses =
    option_map_or (λ held. set_value (bytes_eq path) loaded (record held { uses = uses }))
    (lookup (bytes_eq path) loaded) loaded

-- the innermost load's module is loaded
abbrev pub loaded_now : Finish → State → State
loaded_now finish s = record s {
  opened = below s.opened;
  loaded = insert_entry bytes_eq s.loaded (path_in s.opened) (module_of finish (uses_in s.opened));
  outputs = s.outputs ++ finish.css ∷ [];
}

-- the load at a place has these uses
abbrev pub changed_at : ℕ → (Uses → Uses) → List Opened → List Opened
changed_at at now opened =
    option_map_or (λ load. slice_set opened at (record load { uses = now load.uses })) (slice_get opened at) opened

-- the load below the innermost one has these uses, where there is one
abbrev pub changed_below : (Uses → Uses) → List Opened → List Opened
changed_below now opened = if nat_lt 1 (length opened) then changed_at (length opened - 2) now opened else opened

-- the variable of a module has a value
abbrev pub with_variable : List (List ℕ × Module) → List ℕ → List ℕ → Plain → List (List ℕ × Module)
with_variable loaded owner name value =
    option_map_or (λ held. set_value (bytes_eq owner) loaded
    (record held { variables = set_value (bytes_eq name) held.variables value })) (lookup (bytes_eq owner) loaded)
    loaded
