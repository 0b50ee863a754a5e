-- How marks cut one list of variables into frames (this project's own).
use Rattle.std.specs.Prelude.{ℕ, suc, ◌+◌, ◌≤◌, ◌==◌, Bool, true, ◌&&◌, if◌then◌else◌, List, [], ◌∷◌, ◌++◌, length, take, drop, Option, Some, None, slice_set}
use Rattle.sw_scope.specs.declared.mark.FrameMark.{FrameMark}
use Rattle.sw_scope.specs.Frames.{Name, Variable, place, is_flow}
use Rattle.sw_scope.specs.Stack.{Standing}

-- the last first
abbrev pub back : List FrameMark → List FrameMark
back [] = []
back (m ∷ ms) = back ms ++ m ∷ []

abbrev pub standing : FrameMark → List Variable → Standing
standing m vs = record { frame = record { kind = m.kind; vars = vs }; below = m.below }

-- the frames of these marks, of which the innermost comes first
abbrev pub cut : List FrameMark → List Variable → List Standing
cut [] vs = []
cut (m ∷ ms) vs = standing m (drop m.start vs) ∷ cut ms (take m.start vs)

-- each frame stands on a lower one, or on the top
abbrev pub StandsLower : List FrameMark → Type 0
StandsLower [] = Unit {0}
StandsLower (m ∷ ms) = (m.below ≤ length ms) × StandsLower ms

-- each frame starts where there are variables, behind the frames below it, and stands on one of them
abbrev pub IsCut : List FrameMark → ℕ → Type 0
IsCut [] n = Unit {0}
IsCut (m ∷ ms) n = (m.start ≤ n) × (m.below ≤ length ms) × IsCut ms m.start

unfoldable pub frames : List FrameMark → List Variable → List Standing
frames ms vs = cut (back ms) vs

-- ---- where a variable stands that is seen

abbrev pub shifted : ℕ → Option ℕ → Option ℕ → Option ℕ
shifted start (Some i) below = Some (start + i)
shifted start None below = below

-- the place of the variable that a name means, from the frame of this number on
abbrev pub found : ℕ → List FrameMark → List Variable → Name → Option ℕ
found n [] vs name = None
found n (m ∷ ms) vs name =
    if n == suc (length ms)
    then shifted m.start (place (drop m.start vs) name) (found m.below ms (take m.start vs) name)
    else found n ms (take m.start vs) name

abbrev pub put_at : List Variable → Option ℕ → Variable → List Variable
put_at vs None v = vs
put_at vs (Some i) v = slice_set vs i v

-- all frames that are seen from the one of this number are of flow
abbrev pub flows : ℕ → List FrameMark → Bool
flows n [] = true
flows n (m ∷ ms) = if n == suc (length ms) then is_flow m.kind && flows m.below ms else flows n ms
