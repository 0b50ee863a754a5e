-- What comes of a list of requests, one after the other. This project's own rule.
use Rattle.std.specs.Prelude.{ℕ, List, [], ◌∷◌, ◌++◌, ⊤}
use Rattle.sw_cmd_protocol.specs.Protocol.{Protocol, Turn}

-- these are the marks of the first requests, of as many as there are marks
unfoldable pub AreMarks : {Event Mark Held Reply : Type 0} → Protocol Event Mark Held Reply → Held → List Event
    → List Mark → Type 0
AreMarks p held events [] = ⊤
AreMarks p held [] (mark ∷ marks) = ⊥
AreMarks p held (event ∷ events) (mark ∷ marks) =
    p.IsMark held event mark × AreMarks p (p.turn_of held event mark).held events marks

-- with these marks the first requests are answered, as many as there are marks
unfoldable pub AreSaid : {Event Mark Held Reply : Type 0} → Protocol Event Mark Held Reply → Held → List Event
    → List Mark → Type 0
AreSaid p held events [] = ⊤
AreSaid p held [] (mark ∷ marks) = ⊥
AreSaid p held (event ∷ events) (mark ∷ marks) =
    p.IsSaid held event mark × AreSaid p (p.turn_of held event mark).held events marks

-- what comes of the first requests, those that have a mark
unfoldable pub turns : {Event Mark Held Reply : Type 0} → Protocol Event Mark Held Reply → Held → List Event → List Mark
    → List (Turn Held Reply)
turns p held events [] = []
turns p held [] (mark ∷ marks) = []
turns p held (event ∷ events) (mark ∷ marks) = let turn =
    p.turn_of held event mark in turn ∷ turns p turn.held events marks

-- the whole text of their replies
abbrev pub text : {Held Reply : Type 0} → List (Turn Held Reply) → List ℕ
text [] = []
text (turn ∷ turns) = turn.text ++ text turns

-- the paths of all bodies that ran, in order
abbrev pub ran_in : {Held Reply : Type 0} → List (Turn Held Reply) → List (List ℕ)
ran_in [] = []
ran_in (turn ∷ turns) = turn.ran ++ ran_in turns

-- what is held after them
abbrev pub held_after : {Held Reply : Type 0} → Held → List (Turn Held Reply) → Held
held_after held [] = held
held_after held (turn ∷ turns) = held_after turn.held turns
