-- Frames that are seen, the innermost first (Sass reference documentation, "Variables: Scope"). Each is of a kind and
-- has variables.
use Rattle.std.specs.Prelude.{ℕ, zero, suc, Bool, true, false, ◌&&◌, if◌then◌else◌, bytes_eq, List, [], ◌∷◌, ◌++◌, Option, Some, None, slice_get, slice_set}
use Rattle.std.specs.Option.{option_map}
use Rattle.sw_values.specs.declared.plain.Plain.{Plain}
use Rattle.sw_scope.specs.declared.mark.FrameKind.{FrameKind}
use Rattle.sw_scope.specs.declared.mark.FrameKind.TheVariants.{Flow, Block}

abbrev pub Name : Type 0
Name = List ℕ

abbrev pub Variable : Type 0
Variable = Name × Plain

pub record Frame : Type 0 where
  pub kind : FrameKind
  pub vars : List Variable

abbrev pub later : Option ℕ → Bool → Option ℕ
later (Some i) here = Some (suc i)
later None here = if here then Some zero else None

-- the last place of a name
abbrev pub place : List Variable → Name → Option ℕ
place [] name = None
place (v ∷ vs) name = later (place vs name) (bytes_eq v.0 name)

abbrev pub value_at : List Variable → Option ℕ → Option Plain
value_at vs None = None
value_at vs (Some i) = option_map (λ v. v.1) (slice_get vs i)

abbrev pub or_else : Option Plain → Option Plain → Option Plain
or_else (Some v) other = Some v
or_else None other = other

-- the value of a name: that of the first frame which has it
abbrev pub look_in : List Frame → Name → Option Plain
look_in [] name = None
look_in (f ∷ fs) name = or_else (value_at f.vars (place f.vars name)) (look_in fs name)

abbrev pub set_first : Option ℕ → Frame → List Frame → List Frame → Variable → List Frame
set_first (Some i) f fs after v = record f { vars = slice_set f.vars i v } ∷ fs
set_first None f fs after v = f ∷ after

-- a new value of a name: in the first frame which has it
abbrev pub set_in : List Frame → Variable → List Frame
set_in [] v = []
set_in (f ∷ fs) v = set_first (place f.vars v.0) f fs (set_in fs v) v

-- a new variable of the innermost frame
abbrev pub declare_in : List Frame → Variable → List Frame
declare_in [] v = []
declare_in (f ∷ fs) v = record f { vars = f.vars ++ v ∷ [] } ∷ fs

abbrev pub is_flow : FrameKind → Bool
is_flow Flow = true
is_flow Block = false

-- all frames are of flow
abbrev pub all_flow : List Frame → Bool
all_flow [] = true
all_flow (f ∷ fs) = is_flow f.kind && all_flow fs
