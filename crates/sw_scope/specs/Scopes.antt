-- The variables that running code sees (Sass reference documentation, "Variables: Scope"; that code of another module
-- asks for what no frame has is this project's own).
use Rattle.std.specs.Prelude.{ℕ, suc, Bool, true, false, ◌&&◌, ◌||◌, bytes_eq, if◌then◌else◌, List, [], ◌∷◌, length, Option, Some, None}
use Rattle.std.specs.Option.{is_some, is_none}
use Rattle.std.specs.Map.{lookup}
use Rattle.indexmap.specs.IndexMap.{insert_entry}
use Rattle.sw_values.specs.declared.plain.Plain.{Plain}
use Rattle.sw_scope.specs.declared.mark.FrameKind.{FrameKind}
use Rattle.sw_scope.specs.declared.mark.Origin.{Origin}
use Rattle.sw_scope.specs.declared.mark.Origin.TheVariants.{Own, Other}
use Rattle.sw_scope.specs.declared.scopes.Scopes.{Scopes}
use Rattle.sw_scope.specs.Frames.{Name, Variable, or_else, look_in, all_flow as are_flow}
use Rattle.sw_scope.specs.Stack.{Standing, seen, set_on, declare_on, put_on, popped}

-- no variables and no frame
abbrev pub empty : Scopes
empty = record { top = []; frames = [] }

-- ---- frames

abbrev pub innermost : List Standing → Option ℕ
innermost [] = None
innermost (s ∷ ss) = Some (suc (length ss))

-- the innermost frame, or none where only the top is there
abbrev pub mark : Scopes → Option ℕ
mark s = innermost s.frames

-- the number of a frame, or that of the top
abbrev pub number_of : Option ℕ → ℕ
number_of None = 0
number_of (Some n) = n

-- with a new frame, which stands on this one
abbrev pub on : Scopes → Option ℕ → FrameKind → Scopes
on s base kind = record s { frames = put_on s.frames (number_of base) kind }

-- with a new frame, which stands on the innermost one
abbrev pub push : Scopes → FrameKind → Scopes
push s kind = on s (mark s) kind

-- without the innermost frame
abbrev pub pop : Scopes → Scopes
pop s = record s { frames = popped s.frames }

-- ---- the top

-- the value of a name at the top
unfoldable pub look_top : Scopes → Name → Option Plain
look_top s name = lookup (bytes_eq name) s.top

-- the name has the value at the top, in its old place or behind the others
unfoldable pub set_top : Scopes → Variable → Scopes
set_top s v = record s { top = insert_entry bytes_eq s.top v.0 v.1 }

-- ---- what is seen

abbrev pub is_own : Origin → Bool
is_own Own = true
is_own Other = false

abbrev pub top_value : Origin → Scopes → Name → Option Plain
top_value Own s name = look_top s name
top_value Other s name = None

-- the value of a name: that of the innermost frame that is seen and has it, else the top's, for code of its module
unfoldable pub look : Origin → Scopes → Name → Option Plain
look origin s name = or_else (look_in (seen s.frames) name) (top_value origin s name)

-- only the top is there
abbrev pub is_at_top : Scopes → Bool
is_at_top s = is_none (mark s)

-- what a name has before its default is sought among the module's own variables alone: at the top, and with `!global`
abbrev pub top_alone : Origin → Scopes → Bool → Bool
top_alone origin s global = is_own origin && (global || is_at_top s)

-- all frames that are seen are of flow
abbrev pub all_flow : Scopes → Bool
all_flow s = are_flow (seen s.frames)

-- a name that no frame has is set at the top
abbrev pub sets_top : Origin → Scopes → Name → Bool
sets_top origin s name = is_own origin && all_flow s && is_some (look_top s name)

abbrev pub declare_by : List Standing → Scopes → Variable → Scopes
declare_by [] s v = set_top s v
declare_by (f ∷ fs) s v = record s { frames = declare_on (f ∷ fs) v }

-- a new variable of the innermost frame, or of the top where only that is there
unfoldable pub declare : Scopes → Variable → Scopes
declare s v = declare_by s.frames s v

abbrev pub set_new : Origin → Scopes → Variable → Scopes
set_new origin s v = if sets_top origin s v.0 then set_top s v else declare s v

abbrev pub set_seen : Option Plain → Origin → Scopes → Variable → Scopes
set_seen (Some old) origin s v = record s { frames = set_on s.frames v }
set_seen None origin s v = set_new origin s v

-- an assignment: to the variable that the frames show; else to the top's, or a new one in the innermost frame
unfoldable pub set : Origin → Scopes → Variable → Scopes
set origin s v = set_seen (look_in (seen s.frames) v.0) origin s v
