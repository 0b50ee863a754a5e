-- Which bodies a compile runs, and why (this project's own rule): those whose run is none of the kept runs of its path.
use Rattle.std.specs.Prelude.{◌≡◌, ◌≢◌, ◌⊎◌, ℕ, List, [], ◌∷◌, ◌++◌}
use Rattle.std.specs.List.{All, Any, Contains}
use Rattle.sw_world.specs.declared.question.Question.{Question}
use Rattle.sw_world.specs.declared.question.Question.TheVariants as ops
use Rattle.sw_world.specs.declared.answer.Answer.{Answer}
use Rattle.sw_world.specs.Body.{Pair, Run}
use Rattle.sw_record.specs.declared.reply.Cause.{Cause}
use Rattle.sw_record.specs.declared.reply.Cause.TheVariants.{First, Text, Config, Load, Member, Variable, Call}

-- the kept runs of the module at a path
abbrev pub KeptRuns : Type 0
KeptRuns = List ℕ → List Run

-- of no module a run is kept
abbrev pub none_kept : KeptRuns
none_kept path = []

-- the cause that such a question stands for; an assignment and a message have one answer alone
abbrev pub IsCauseBy : Question → Cause → Type 0
IsCauseBy (ops.Load site url span how config) cause = cause ≡ Load
IsCauseBy (ops.Find site space kind name) cause = cause ≡ Member
IsCauseBy (ops.Get owner name) cause = cause ≡ Variable
IsCauseBy (ops.Call name args) cause = cause ≡ Call
IsCauseBy (ops.Put owner name value) cause = ⊥
IsCauseBy (ops.Say kind span text) cause = ⊥

-- two runs are of the same text and the same configuration
pub record IsAlike (one other : Run) : Type 0 where
  pub same_text : one.text ≡ other.text
  pub same_config : one.config ≡ other.config

-- the pairs are the same up to a question that has another answer
pub record FirstDiffer (old new : List Pair) (op : Question) : Type 0 where
  pub before : List Pair
  pub old_answer : Answer
  pub new_answer : Answer
  pub old_rest : List Pair
  pub new_rest : List Pair
  pub old_is : old ≡ before ++ (op, old_answer) ∷ old_rest
  pub new_is : new ≡ before ++ (op, new_answer) ∷ new_rest
  pub differ : old_answer ≢ new_answer

-- no kept run that is like this one begins with these pairs and then this pair
abbrev pub NoneGoesOn : List Run → Run → List Pair → Pair → Type 0
NoneGoesOn kept run before pair =
    All (λ one. IsAlike one run → (rest : List Pair) → one.seen ≢ before ++ pair ∷ rest) kept

-- of the kept runs that are like this one, one has the same pairs the furthest, up to a question that has another answer
pub record IsAnswered (kept : List Run) (run : Run) (cause : Cause) : Type 0 where
  pub one : Run
  pub among : Contains kept one
  pub alike : IsAlike one run
  pub op : Question
  pub first : FirstDiffer one.seen run.seen op
  pub furthest : NoneGoesOn kept run first.before (op, first.new_answer)
  pub by : IsCauseBy op cause

-- why a run is none of the kept ones: none is kept, none has its text, of those that have its text none has its
-- configuration, or the first question that is answered otherwise than in the kept run that goes with it the furthest
abbrev pub IsCause : List Run → Run → Cause → Type 0
IsCause kept run First = kept ≡ []
IsCause kept run Text = (kept ≢ []) × All (λ one. one.text ≢ run.text) kept
IsCause kept run Config = Any (λ one. one.text ≡ run.text) kept × All (λ one. IsAlike one run → ⊥) kept
IsCause kept run Load = IsAnswered kept run Load
IsCause kept run Member = IsAnswered kept run Member
IsCause kept run Variable = IsAnswered kept run Variable
IsCause kept run Call = IsAnswered kept run Call

-- of the runs in order, those that are none of the kept ones ran, each for its cause
abbrev pub Ran : KeptRuns → List Run → List (List ℕ × Cause) → Type 0
Ran kept [] ran = ran ≡ []
Ran kept (run ∷ runs) ran =
    (Contains (kept run.path) run × Ran kept runs ran)
    ⊎ ((cause : Cause) × IsCause (kept run.path) run cause
    × ((rest : List (List ℕ × Cause)) × (ran ≡ (run.path, cause) ∷ rest) × Ran kept runs rest))

-- so the kept runs and the runs of a compile give which bodies ran and why
abbrev pub RanIsOne : Type 0
RanIsOne =
    (kept : KeptRuns) (runs : List Run) (ran other : List (List ℕ × Cause)) → Ran kept runs ran → Ran kept runs other
    → ran ≡ other
