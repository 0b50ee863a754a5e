-- Variables as the running code sees them.
use Rattle.std.specs.Prelude.{ℕ, ◌==◌, Bool, if◌then◌else◌, List, Option}
use Rattle.sw_values.specs.declared.plain.Plain.{Plain}
use Rattle.sw_scope.specs.declared.mark.FrameKind.{FrameKind}
use Rattle.sw_scope.specs.declared.mark.Origin.{Origin}
use Rattle.sw_scope.specs.declared.mark.Origin.TheVariants.{Own, Other}
use Rattle.sw_scope.specs.Frames.{Variable}
use Rattle.sw_scope.specs.Scopes.{look, set, set_top, top_alone, push, pop}
use Rattle.sw_eval_state.specs.declared.state.State.{State}

-- the code is the body's own, or that of another module
abbrev pub origin : State → Origin
origin s = if s.here.site == 0 then Own else Other

-- the code is the body's own
abbrev pub is_home : State → Bool
is_home s = s.here.site == 0

-- a variable that is seen without asking
unfoldable pub own : State → List ℕ → Option Plain
own s name = look (origin s) s.scopes name

-- an assignment: to the variable that is seen, else to the top's, or to a new one of the innermost block
unfoldable pub set_by : State → Variable → State
set_by s v = record s { scopes = set (origin s) s.scopes v }

-- at the top level, and with `!global`, what a name has before its default is sought among the module's own variables
-- alone
unfoldable pub is_mine : State → Bool → Bool
is_mine s global = top_alone (origin s) s.scopes global

-- the module's own variable is given a value
unfoldable pub set_own : State → Variable → State
set_own s v = record s { scopes = set_top s.scopes v }

-- in a frame of its own
unfoldable pub entered : FrameKind → State → State
entered kind s = record s { scopes = push s.scopes kind }

-- out of it again
unfoldable pub left : State → State
left s = record s { scopes = pop s.scopes }
