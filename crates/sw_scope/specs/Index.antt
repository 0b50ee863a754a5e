-- An index of a frame's names (this project's own).
use Rattle.std.specs.Prelude.{◌≡◌, ℕ, if◌then◌else◌, bytes_eq, List, [], ◌∷◌, take, drop, Option, Some, None}
use Rattle.std.specs.Map.{lookup}
use Rattle.sw_scope.specs.declared.mark.FrameMark.{FrameMark}
use Rattle.sw_scope.specs.Frames.{Name, Variable, place}

-- with the place of one more name, which may have had another
abbrev pub IsNoted : List (Name × ℕ) → Name → ℕ → List (Name × ℕ) → Type 0
IsNoted before name at after =
    (q : Name) → lookup (bytes_eq q) after ≡ (if bytes_eq name q then Some at else lookup (bytes_eq q) before)

-- it has the last place of each name
abbrev pub IsIndex : List (Name × ℕ) → List Variable → Type 0
IsIndex index vs = (q : Name) → lookup (bytes_eq q) index ≡ place vs q

-- so it has, where there is one
abbrev pub IsIndexed : Option (List (Name × ℕ)) → List Variable → Type 0
IsIndexed None vs = Unit {0}
IsIndexed (Some index) vs = IsIndex index vs

-- so it is in each frame of these marks, of which the innermost comes first
abbrev pub AreIndexed : List FrameMark → List Variable → Type 0
AreIndexed [] vs = Unit {0}
AreIndexed (m ∷ ms) vs = IsIndexed m.index (drop m.start vs) × AreIndexed ms (take m.start vs)

-- the index of the innermost frame
abbrev pub head_index : List FrameMark → Option (List (Name × ℕ))
head_index [] = None
head_index (m ∷ ms) = m.index

-- the innermost frame has this index
abbrev pub head_with : Option (List (Name × ℕ)) → List FrameMark → List FrameMark
head_with index [] = []
head_with index (m ∷ ms) = record m { index = index } ∷ ms
