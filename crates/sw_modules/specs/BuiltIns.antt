-- The URLs of built-in modules (the Sass specification's modules).
use Rattle.std.specs.Prelude.{ℕ, List, codes, nat_eq, Bool}
use Rattle.std.specs.List.{starts_with}
use Rattle.std.specs.Option.{is_some}
use Rattle.sw_builtins.specs.Tables.{member_of}

-- the URL of a built-in module, if there is one; it stands for the module's path, and no path of a folder begins so
abbrev pub is_sass : List ℕ → Bool
is_sass url = starts_with nat_eq url (codes "sass:")

-- there is such a module: it has members
abbrev pub is_built_in : List ℕ → Bool
is_built_in url = is_some (member_of url 0)
