-- The names of the built-in modules and of the functions that stand in none (Sass reference documentation, "Built-In
-- Modules" and "Global Functions").
use Rattle.std.specs.Prelude.{ℕ, ℤ, pos, Bool, true, false, ◌&&◌, List, [], ◌∷◌, map, codes, bytes_eq, slice_get, Option, Some, None, if◌then◌else◌}
use Rattle.std.specs.Option.{option_map}
use Rattle.std.specs.Ordering.{nat_cmp, is_lt}
use Rattle.std.specs.List.{list_all}
use Rattle.std.specs.Cmp.Lexicographic.{slice_cmp}
use Rattle.sw_tree.specs.declared.callable.Kind.{Kind}
use Rattle.sw_tree.specs.declared.callable.Kind.TheVariants as K
use Rattle.sw_builtins.specs.declared.built_in.Found.{Found}
use Rattle.sw_builtins.specs.declared.built_in.Found.TheVariants as F
use Rattle.sw_builtins.specs.declared.built_in.BuiltIn.{BuiltIn}
use Rattle.sw_builtins.specs.declared.built_in.BuiltIn.TheVariants as B
use Rattle.sw_builtins.specs.declared.built_in.Constant.{Constant}
use Rattle.sw_builtins.specs.declared.built_in.Constant.TheVariants as C
use Rattle.sw_builtins.specs.declared.module_rows.TheConstants.{MATH, STRING, LIST, MAP, COLOR, META}
use Rattle.sw_builtins.specs.declared.global_rows.TheConstants.{GLOBAL}

-- a name, what it is the name of, and what it means
abbrev pub Row : Type 0
Row = List ℕ × Kind × Found

unfoldable pub math : List Row
math = map (λ row. (row.0.now, row.1, row.2)) MATH

unfoldable pub string : List Row
string = map (λ row. (row.0.now, row.1, row.2)) STRING

unfoldable pub list : List Row
list = map (λ row. (row.0.now, row.1, row.2)) LIST

unfoldable pub maps : List Row
maps = map (λ row. (row.0.now, row.1, row.2)) MAP

unfoldable pub color : List Row
color = map (λ row. (row.0.now, row.1, row.2)) COLOR

unfoldable pub meta : List Row
meta = map (λ row. (row.0.now, row.1, row.2)) META

-- those that stand in no module
unfoldable pub global : List Row
global = map (λ row. (row.0.now, row.1, row.2)) GLOBAL

-- the members of the module of a URL
unfoldable pub rows_of : List ℕ → List Row
rows_of url =
    if bytes_eq url (codes "sass:math") then math
    else if bytes_eq url (codes "sass:string") then string
    else if bytes_eq url (codes "sass:list") then list
    else if bytes_eq url (codes "sass:map") then maps
    else if bytes_eq url (codes "sass:color") then color
    else if bytes_eq url (codes "sass:meta") then meta
    else []

abbrev pub rows_for : Option (List ℕ) → List Row
rows_for (Some url) = rows_of url
rows_for None = global

abbrev pub same_kind : Kind → Kind → Bool
same_kind K.Variable K.Variable = true
same_kind K.Variable K.Function = false
same_kind K.Variable K.Mixin = false
same_kind K.Function K.Variable = false
same_kind K.Function K.Function = true
same_kind K.Function K.Mixin = false
same_kind K.Mixin K.Variable = false
same_kind K.Mixin K.Function = false
same_kind K.Mixin K.Mixin = true

abbrev pub of_kind : Kind → Kind → Found → Found
of_kind kind other meaning = if same_kind kind other then meaning else F.NoSuch

abbrev pub found_in : List Row → Kind → List ℕ → Found
found_in [] kind name = F.NoSuch
found_in (row ∷ rows) kind name = if bytes_eq row.0 name then of_kind kind row.1 row.2 else found_in rows kind name

-- what a name means in the module of a URL, or without one
abbrev pub found : Option (List ℕ) → Kind → List ℕ → Found
found url kind name = found_in (rows_for url) kind name

abbrev pub kind_and_name : Row → Kind × List ℕ
kind_and_name row = (row.1, row.0)

abbrev pub member_in : List Row → ℕ → Option (Kind × List ℕ)
member_in rows at = option_map kind_and_name (slice_get rows at)

-- the members one by one
abbrev pub member_of : List ℕ → ℕ → Option (Kind × List ℕ)
member_of url at = member_in (rows_of url) at

-- rounded to ten places
abbrev pub constant : Constant → ℤ
constant C.Pi = pos 31415926536
constant C.E = pos 27182818285

abbrev pub value_of : BuiltIn → Option ℤ
value_of (B.Math _) = None
value_of (B.Text _) = None
value_of (B.List _) = None
value_of (B.Map _) = None
value_of (B.Colour _) = None
value_of (B.Css _) = None
value_of (B.Meta _) = None
value_of (B.Asked _) = None
value_of B.If = None
value_of (B.Variable name) = Some (constant name)

abbrev pub value_in : Found → Option ℤ
value_in (F.Known built_in) = value_of built_in
value_in F.LeftOut = None
value_in F.NoSuch = None

-- the value of a variable of the module of a URL
abbrev pub variable_of : List ℕ → List ℕ → Option ℤ
variable_of url name = value_in (found_in (rows_of url) K.Variable name)

-- each name stands before all later ones in the alphabet, so none stands twice
abbrev pub names_rise : List Row → Bool
names_rise [] = true
names_rise (row ∷ rows) = list_all (λ later. is_lt (slice_cmp nat_cmp row.0 later.0)) rows && names_rise rows
