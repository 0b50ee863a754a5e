-- Several kept runs whose questions are asked again at once (this project's own rule).
use Rattle.std.specs.Prelude.{◌≡◌, ◌≢◌, ◌↔◌, ℕ, ◌<◌, ◌≤◌, Bool, true, false, List, [], ◌∷◌, ◌++◌, length, drop, slice_get, slice_index_or, Some}
use Rattle.sw_world.specs.declared.question.Question.{Question}
use Rattle.sw_world.specs.declared.answer.Answer.{Answer}
use Rattle.sw_world.specs.Questions.{Fits}
use Rattle.sw_world.specs.Body.{Pair, Job, BodyOf, Leads}
use Rattle.sw_record.specs.Kept.{Kept, IsKept, job_of}
use Rattle.sw_record.specs.Replay.{LoadAt, DiffersAt}
use Rattle.sw_record.specs.declared.again.Again.{Again}
use Rattle.sw_record.specs.declared.again.Again.TheVariants as again
use Rattle.sw_record.specs.declared.replay.Asked.{Asked}
use Rattle.sw_record.specs.declared.replay.Asked.TheVariants as asked
use Rattle.sw_record.specs.declared.replay.Step.{Step}
use Rattle.sw_record.specs.declared.replay.Step.TheVariants.{Stops, GoesOn}
use Rattle.sw_record.specs.declared.replay.Replayed.{Replayed}
use Rattle.sw_record.specs.declared.replay.Replayed.TheVariants.{Same, Load, Differs}

-- the run at a place is marked
abbrev pub IsMarked : List Bool → ℕ → Type 0
IsMarked marks place = slice_index_or marks place false ≡ true

-- the first of the places that are marked
pub record IsFirstMarked (marks : List Bool) (place : ℕ) : Type 0 where
  pub marked : IsMarked marks place
  pub first : (other : ℕ) → other < place → IsMarked marks other → ⊥

abbrev pub HasMark : List Bool → Type 0
HasMark marks = (place : ℕ) × IsMarked marks place

-- pairs that begin with these
abbrev pub Begins : List Pair → List Pair → Type 0
Begins first seen = (rest : List Pair) × (seen ≡ first ++ rest)

-- so do those of the run at a place
abbrev pub BeginsAt : List Kept → ℕ → List Pair → Type 0
BeginsAt runs place first = (kept : Kept) × (slice_get runs place ≡ Some kept) × Begins first kept.run.seen

-- the run at a place is one of this job's body, and begins with these pairs
pub record IsOf (body : BodyOf) (job : Job) (first : List Pair) (runs : List Kept) (place : ℕ) : Type 0 where
  pub kept : Kept
  pub here : slice_get runs place ≡ Some kept
  pub is_kept : IsKept body kept
  pub same_job : job_of kept ≡ job
  pub begins : Begins first kept.run.seen

-- there are marked runs; all are of one job, and their first pairs are the same, so many
pub record AreTogether (body : BodyOf) (runs : List Kept) (marks : List Bool) (from : ℕ) : Type 0 where
  pub job : Job
  pub first : List Pair
  pub count : length first ≡ from
  pub some : HasMark marks
  pub each : (place : ℕ) → IsMarked marks place → IsOf body job first runs place

-- of the marked runs just those are marked still that begin with these pairs
abbrev pub AreLeft : List Kept → List Bool → List Pair → List Bool → Type 0
AreLeft runs marks first left = (place : ℕ) → IsMarked left place ↔ (IsMarked marks place × BeginsAt runs place first)

-- none of them does
abbrev pub NoneBegins : List Kept → List Bool → List Pair → Type 0
NoneBegins runs marks first = (place : ℕ) → IsMarked marks place → BeginsAt runs place first → ⊥

-- none of them that stands before a place does
abbrev pub NoneBeginsBefore : List Kept → List Bool → ℕ → List Pair → Type 0
NoneBeginsBefore runs marks before first =
    (place : ℕ) → place < before → IsMarked marks place → BeginsAt runs place first → ⊥

-- the run at a place has this answer at a place of its pairs
abbrev pub HasAnswerAt : List Kept → ℕ → ℕ → Answer → Type 0
HasAnswerAt runs place at answer =
    (kept : Kept) × (slice_get runs place ≡ Some kept)
    × ((pair : Pair) × (slice_get kept.run.seen at ≡ Some pair) × (pair.1 ≡ answer))

-- of the marked runs just those are marked still that have this answer at a place of their pairs
abbrev pub AreNarrowed : List Kept → List Bool → ℕ → Answer → List Bool → Type 0
AreNarrowed runs marks at answer left =
    (place : ℕ) → IsMarked left place ↔ (IsMarked marks place × HasAnswerAt runs place at answer)

-- the questions of these pairs from a place on, asked in order, are answered so; none is a load
abbrev pub AskedFrom : {W : Type 0} → (W → Question → Answer → W → Type 0) → List Pair → ℕ → W → W → Type 0
AskedFrom gives pairs from w after = (from ≤ length pairs) × Leads gives w (drop from pairs) after

-- the run at a place has these pairs, and then another answer to this question than this one
pub record DepartsAt (runs : List Kept) (place : ℕ) (pairs : List Pair) (op : Question) (answer : Answer) : Type 0 where
  pub kept : Kept
  pub here : slice_get runs place ≡ Some kept
  pub old : Answer
  pub rest : List Pair
  pub seen : kept.run.seen ≡ pairs ++ (op, old) ∷ rest
  pub differs : old ≢ answer
  pub fits : Fits op answer

-- each marked run is at a load
abbrev pub AreAtLoads : List Kept → List Bool → ℕ → Type 0
AreAtLoads runs marks at =
    (place : ℕ) → IsMarked marks place → (kept : Kept) × (slice_get runs place ≡ Some kept) × LoadAt kept.run.seen at

-- what the replay of the marked runs from a place on comes to: one agreed to its end; those that agree are at a load,
-- which wasn't asked; or a question was answered as in none of those that had agreed so far, of which one is the first
abbrev pub IsReplay : {W : Type 0} → (W → Question → Answer → W → Type 0) → List Kept → List Bool → ℕ → Replayed → W → W → Type 0
IsReplay gives runs marks from (Same place) w after =
    (kept : Kept) × IsMarked marks place × (slice_get runs place ≡ Some kept)
    × AskedFrom gives kept.run.seen from w after
IsReplay gives runs marks from (Load alive at) w after =
    (pairs : List Pair) × (length pairs ≡ at) × AskedFrom gives pairs from w after × AreLeft runs marks pairs alive
    × HasMark alive × AreAtLoads runs alive at
IsReplay gives runs marks from (Differs near at answer) w after =
    (pairs : List Pair) × (op : Question) × (length pairs ≡ at) × (from ≤ at)
    × AskedFrom gives (pairs ++ (op, answer) ∷ []) from w after × IsMarked marks near
    × DepartsAt runs near pairs op answer × NoneBegins runs marks (pairs ++ (op, answer) ∷ [])
    × NoneBeginsBefore runs marks near pairs

-- the first of the questions on which a marked run goes on from a place were asked, and answered as in that run
abbrev pub BrokeOff : {W : Type 0} → (W → Question → Answer → W → Type 0) → List Kept → List Bool → ℕ → W → W → Type 0
BrokeOff gives runs marks from w after =
    (pairs : List Pair) × (place : ℕ) × IsMarked marks place × BeginsAt runs place pairs
    × AskedFrom gives pairs from w after

-- the marked runs went on together from a place to another, and these are left
pub record WentOn {W : Type 0} (gives : W → Question → Answer → W → Type 0) (runs : List Kept) (marks : List Bool)
    (from : ℕ) (left : List Bool) (to : ℕ) (w after : W) : Type 0 where
  pub pairs : List Pair
  pub count : length pairs ≡ to
  pub asked : AskedFrom gives pairs from w after
  pub are_left : AreLeft runs marks pairs left
  pub some : HasMark left

-- what asking one question comes to
abbrev pub IsStep : {W : Type 0} → (W → Question → Answer → W → Type 0) → List Kept → List Bool → ℕ → Step → W → W → Type 0
IsStep gives runs marks at (Stops replayed) w after = IsReplay gives runs marks at replayed w after
IsStep gives runs marks at (GoesOn alive to) w after = WentOn gives runs marks at alive to w after × (at < to)

-- what asking the question at a place of kept pairs comes to
abbrev pub IsAsked : {W : Type 0} → (W → Question → Answer → W → Type 0) → List Pair → ℕ → Asked → W → W → Type 0
IsAsked gives seen at asked.Load w after = LoadAt seen at × (after ≡ w)
IsAsked gives seen at asked.AsKept w after =
    (pair : Pair) × (slice_get seen at ≡ Some pair) × Leads gives w (pair ∷ []) after
IsAsked gives seen at (asked.Other answer) w after = DiffersAt gives seen at answer w after

-- what is left to one run is left to all that are marked, where it is the only one
abbrev pub replayed_by : ℕ → List Bool → Again → Replayed
replayed_by near alive again.Same = Same near
replayed_by near alive (again.Load at) = Load alive at
replayed_by near alive (again.Differs at answer) = Differs near at answer
