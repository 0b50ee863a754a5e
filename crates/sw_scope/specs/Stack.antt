-- Frames that stand on one another, the innermost first (this project's own). Each has a number, counted from 1 at the
-- outermost, and stands on the one of a lower number, or on the top where that is 0.
use Rattle.std.specs.Prelude.{ℕ, suc, ◌==◌, nat_le, if◌then◌else◌, List, [], ◌∷◌, ◌++◌, length, Option, Some, None, slice_set}
use Rattle.sw_scope.specs.declared.mark.FrameKind.{FrameKind}
use Rattle.sw_scope.specs.Frames.{Variable, Frame, place}

pub record Standing : Type 0 where
  pub frame : Frame
  pub below : ℕ

-- the frames that are seen from the one of this number, along what each stands on
abbrev pub seen_from : ℕ → List Standing → List Frame
seen_from n [] = []
seen_from n (s ∷ ss) = if n == suc (length ss) then s.frame ∷ seen_from s.below ss else seen_from n ss

-- the frames that are seen from the innermost
unfoldable pub seen : List Standing → List Frame
seen ss = seen_from (length ss) ss

-- the others
abbrev pub unseen_from : ℕ → List Standing → List Standing
unseen_from n [] = []
unseen_from n (s ∷ ss) = if n == suc (length ss) then unseen_from s.below ss else s ∷ unseen_from n ss

unfoldable pub unseen : List Standing → List Standing
unseen ss = unseen_from (length ss) ss

abbrev pub with_vars : Standing → List Variable → Standing
with_vars s vars = record s { frame = record s.frame { vars = vars } }

abbrev pub set_here : Option ℕ → Standing → List Standing → (ℕ → List Standing) → Variable → List Standing
set_here (Some i) s ss lower v = with_vars s (slice_set s.frame.vars i v) ∷ ss
set_here None s ss lower v = s ∷ lower s.below

abbrev pub set_from : ℕ → List Standing → Variable → List Standing
set_from n [] v = []
set_from n (s ∷ ss) v =
    if n == suc (length ss) then set_here (place s.frame.vars v.0) s ss (λ m. set_from m ss v) v
    else s ∷ set_from n ss v

-- a new value of a name, in the first of the frames that are seen which has it
unfoldable pub set_on : List Standing → Variable → List Standing
set_on ss v = set_from (length ss) ss v

-- a new variable of the innermost frame
abbrev pub declare_on : List Standing → Variable → List Standing
declare_on [] v = []
declare_on (s ∷ ss) v = with_vars s (s.frame.vars ++ v ∷ []) ∷ ss

-- the number of a frame that is there: this one, or the innermost's where there are fewer
abbrev pub number_in : List Standing → ℕ → ℕ
number_in ss n = if nat_le n (length ss) then n else length ss

-- a new frame, which stands on the one of this number
unfoldable pub put_on : List Standing → ℕ → FrameKind → List Standing
put_on ss n kind = record { frame = record { kind = kind; vars = [] }; below = number_in ss n } ∷ ss

-- without the innermost frame
abbrev pub popped : List Standing → List Standing
popped [] = []
popped (s ∷ ss) = ss
