-- What is left of a compile, by where its open bodies stand (this project's own rule).
use Rattle.std.specs.Prelude.{ℕ, suc, ◌-◌, List, [], ◌∷◌, ◌++◌, length, reverse}
use Rattle.sw_folder.specs.Files.{Files}
use Rattle.sw_world.specs.declared.question.Question.{Question}
use Rattle.sw_world.specs.declared.answer.Answer.{Answer}
use Rattle.sw_world.specs.declared.end.End.{End}
use Rattle.sw_world.specs.Body.{Pair, Job}
use Rattle.sw_world.specs.Laws.{most_asked}
use Rattle.sw_modules.specs.State.{State, path_in}
use Rattle.sw_modules.specs.Loads.{ended_by}
use Rattle.sw_modules.specs.Outside.{Outside}
use Rattle.sw_modules.specs.Fresh.{Setting, Outcome, fresh, goes_on}
use Rattle.sw_step_bodies.specs.declared.stepped.StepReply.{StepReply}
use Rattle.sw_step_bodies.specs.Compiled.{after_entry, compiled}
use Rattle.sw_step_bodies.specs.Stepping.{Step, Finished, Stepping, steps_left, stepping}

-- what is left of a compile: its steps but the last one, and its reply
pub record Rest : Type 0 where
  pub steps : List Step
  pub reply : StepReply

-- these steps come first
abbrev pub behind : List Step → Rest → Rest
behind steps rest = record rest { steps = steps ++ rest.steps }

-- how a body ended, and what is outside then
pub record Close : Type 0 where
  pub outside : Outside
  pub end : End

abbrev pub close_of : Outcome → Close
close_of c = record { outside = c.outside; end = c.end }

-- how the rest of an evaluation closes inside which so many loads may be open, where its body has these pairs behind it
abbrev pub close_left : Setting → ℕ → Job → List Pair → Outside → Close
close_left setting depth job pairs o =
    close_of (goes_on setting (fresh setting depth) job [] (suc most_asked - length pairs) pairs [] o)

-- what is left once a body has closed, by how many steps ran the bodies that have ended, and by its path
abbrev pub Later : Type 0
Later = List (List ℕ × ℕ) → List ℕ → Close → Rest

-- nothing, where it is that of the entry
abbrev pub over : Later
over times path c = let given = after_entry c.end c.outside.live in
    record { steps = []; reply = record { says = given.says; times = times; outcome = given.outcome } }

-- a body that is open: what it runs, to how many loads it came that opened bodies, and its pairs
pub record Standing : Type 0 where
  pub job : Job
  pub count : ℕ
  pub pairs : List Pair

abbrev pub left_with : Later → List (List ℕ × ℕ) → List ℕ → Stepping → Close → Rest
left_with later times path s c = behind s.steps (later (times ++ s.times) path c)

-- what is left while a body is open inside which so many loads may be
abbrev pub left_open : Setting → ℕ → Later → Standing → List (List ℕ × ℕ) → Outside → Rest
left_open setting depth later b times o =
    left_with later times b.job.path (steps_left setting depth b.job b.count b.pairs o)
    (close_left setting depth b.job b.pairs o)

-- a body that waits for the answer to a load which opened the body above it
pub record Waits : Type 0 where
  pub body : Standing
  pub op : Question

abbrev pub with_answer : Standing → Question → Answer → Standing
with_answer b op answer = record b { pairs = b.pairs ++ (op, answer) ∷ [] }

abbrev pub resumed : Waits → Answer → Standing
resumed w answer = record (with_answer w.body w.op answer) { count = suc w.body.count }

-- the answer to a load whose body closed so
abbrev pub answer_at : Question → Close → Answer × State
answer_at op c = ended_by op (path_in c.outside.live.opened) c.end c.outside.live

-- what is left once the body has closed for which another waits
abbrev pub after_load : Setting → ℕ → Later → Waits → Later
after_load setting depth later w times path c = let p = answer_at w.op c in
    behind (Finished path ∷ [])
    (left_open setting depth later (resumed w p.0) times (record { live = p.1; hosts = c.outside.hosts }))

-- how many loads may be open inside the body for which these wait
abbrev pub depth_above : List Waits → ℕ
depth_above waits = 63 - length waits

-- what is left once the body has closed for which these wait, the innermost one first
abbrev pub later_of : Setting → List Waits → Later
later_of setting [] = over
later_of setting (w ∷ ws) = after_load setting (depth_above ws) (later_of setting ws) w

-- a moment of a compile: the state, the bodies that wait, the innermost one last, the innermost open body, and how many
-- steps ran each body that has ended
pub record Moment : Type 0 where
  pub live : State
  pub waits : List Waits
  pub inner : Standing
  pub times : List (List ℕ × ℕ)

abbrev pub outside_of : State → Outside
outside_of live = record { live = live; hosts = [] }

abbrev pub left_above : Setting → List Waits → Standing → List (List ℕ × ℕ) → State → Rest
left_above setting waits inner times live =
    left_open setting (depth_above waits) (later_of setting waits) inner times (outside_of live)

abbrev pub left_at : Setting → Moment → Rest
left_at setting m = left_above setting (reverse m.waits) m.inner m.times m.live

-- what a compile of an entry of a folder with these load paths is to come to
abbrev pub whole : Setting → Files → List (List ℕ) → List ℕ → Rest
whole setting folder paths entry =
    let given = compiled setting folder paths entry in
    let s = stepping setting folder paths entry in
    record { steps = s.steps; reply = record { says = given.says; times = s.times; outcome = given.outcome } }
