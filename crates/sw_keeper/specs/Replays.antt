-- What the steps of a replay do.
use Rattle.std.specs.Prelude.{◌≡◌, ℕ, ◌<◌, ◌≤◌, Bool, List, [], ◌∷◌, ◌++◌, length, slice_get, Some}
use Rattle.sw_world.specs.declared.question.Question.{Question}
use Rattle.sw_world.specs.declared.answer.Answer.{Answer}
use Rattle.sw_world.specs.Body.{Pair, Job, Run}
use Rattle.sw_modules.specs.Outside.{Outside}
use Rattle.sw_modules.specs.Fresh.{Setting}
use Rattle.sw_record.specs.declared.replay.Replayed.{Replayed}
use Rattle.sw_record.specs.declared.replay.Replayed.TheVariants.{Same, Load, Differs}
use Rattle.sw_record.specs.Kept.{Kept}
use Rattle.sw_record.specs.Ran.{IsCauseBy}
use Rattle.sw_record.specs.Together.{IsMarked, HasMark, AreLeft, NoneBegins, DepartsAt, AreAtLoads}
use Rattle.sw_keeper.specs.Keeping.{Table}
use Rattle.sw_keeper.specs.Steps.{Moment, Grown, Advances}
use Rattle.sw_keeper.specs.declared.departure.Departure.{Departure}
use Rattle.sw_keeper.specs.declared.loading.Came.{Came}
use Rattle.sw_keeper.specs.declared.loading.Came.TheVariants.{Whole, Next, Upto}
use Rattle.sw_keeper.specs.declared.evaluate.Ending.{Ending}
use Rattle.sw_keeper.specs.declared.evaluate.Ending.TheVariants.{Agrees, Departs}

-- kept questions of marked runs were asked again, behind these first pairs
abbrev pub AskedTo : Setting → Job → List Kept → List Bool → List Pair → Replayed → Outside → Outside → Type 0
AskedTo setting job runs marks first (Same place) old now =
    (kept : Kept) × IsMarked marks place × (slice_get runs place ≡ Some kept)
    × Advances setting job first kept.run.seen [] old now
AskedTo setting job runs marks first (Load alive at) old now =
    (pairs : List Pair) × (length pairs ≡ at) × (length first ≤ at) × Advances setting job first pairs [] old now
    × AreLeft runs marks pairs alive × HasMark alive × AreAtLoads runs alive at
AskedTo setting job runs marks first (Differs near at answer) old now =
    (pairs : List Pair) × (op : Question) × (length pairs ≡ at) × (length first ≤ at)
    × Advances setting job first (pairs ++ (op, answer) ∷ []) [] old now × IsMarked marks near
    × DepartsAt runs near pairs op answer × NoneBegins runs marks (pairs ++ (op, answer) ∷ [])

-- a marked run has these pairs up to a question, to which the answer is none that a marked run has behind these pairs
pub record IsDeparture (runs : List Kept) (marks : List Bool) (departure : Departure) : Type 0 where
  pub place : ℕ
  pub marked : IsMarked marks place
  pub pairs : List Pair
  pub op : Question
  pub answer : Answer
  pub departs : DepartsAt runs place pairs op answer
  pub none : NoneBegins runs marks (pairs ++ (op, answer) ∷ [])
  pub known_is : departure.known ≡ pairs ++ (op, answer) ∷ []
  pub by : IsCauseBy op departure.cause

-- a replay went on: these runs are left, which have the same pairs up to a place
pub record GoneTo (setting : Setting) (table : Table) (job : Job) (runs : List Kept) (marks : List Bool)
    (first : List Pair) (left : List Bool) (at : ℕ) (old now : Moment) : Type 0 where
  pub pairs : List Pair
  pub count : length pairs ≡ at
  pub later : length first ≤ at
  pub are_left : AreLeft runs marks pairs left
  pub some : HasMark left
  pub new : List Run
  pub advances : Advances setting job first pairs new old.outside now.outside
  pub grown : Grown table new old now

-- one run agreed to its end
pub record DidAgree (setting : Setting) (table : Table) (job : Job) (runs : List Kept) (marks : List Bool)
    (first : List Pair) (place : ℕ) (old now : Moment) : Type 0 where
  pub kept : Kept
  pub marked : IsMarked marks place
  pub here : slice_get runs place ≡ Some kept
  pub new : List Run
  pub advances : Advances setting job first kept.run.seen new old.outside now.outside
  pub grown : Grown table new old now

-- a question was answered as in none
pub record DidDepart (setting : Setting) (table : Table) (job : Job) (runs : List Kept) (marks : List Bool)
    (first : List Pair) (departure : Departure) (old now : Moment) : Type 0 where
  pub departs : IsDeparture runs marks departure
  pub later : length first ≤ length departs.pairs
  pub new : List Run
  pub advances : Advances setting job first departure.known new old.outside now.outside
  pub grown : Grown table new old now

-- one turn of a replay
abbrev pub DidTurn : Setting → Table → Job → List Kept → List Bool → List Pair → Came → Moment → Moment → Type 0
DidTurn setting table job runs marks first (Whole place) old now =
    DidAgree setting table job runs marks first place old now
DidTurn setting table job runs marks first (Next alive at) old now =
    GoneTo setting table job runs marks first alive at old now × (length first < at)
DidTurn setting table job runs marks first (Upto departure) old now =
    DidDepart setting table job runs marks first departure old now

-- a whole replay
abbrev pub DidReplay : Setting → Table → Job → List Kept → List Bool → List Pair → Ending → Moment → Moment → Type 0
DidReplay setting table job runs marks first (Agrees place) old now =
    DidAgree setting table job runs marks first place old now
DidReplay setting table job runs marks first (Departs departure) old now =
    DidDepart setting table job runs marks first departure old now
