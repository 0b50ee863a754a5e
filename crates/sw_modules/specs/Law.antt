-- A body that was answered as what is outside would answer it is where the evaluation from nothing comes by.
use Rattle.std.specs.Prelude.{◌≡◌, ℕ, ◌+◌, List, [], ◌∷◌, ◌++◌, length}
use Rattle.sw_world.specs.Body.{Pair, Run, Job, answers, Goes}
use Rattle.sw_modules.specs.Outside.{Functions, Outside}
use Rattle.sw_modules.specs.Fresh.{Setting, Evaluation, responds, goes_on}

-- what is outside after the questions of these pairs are answered in order
abbrev pub left_after : Functions → Evaluation → Outside → List Pair → Outside
left_after functions inner o [] = o
left_after functions inner o (p ∷ ps) = left_after functions inner (responds functions inner p.0 o).outside ps

-- the runs that end for them
abbrev pub runs_of : Functions → Evaluation → Outside → List Pair → List Run
runs_of functions inner o [] = []
runs_of functions inner o (p ∷ ps) =
    (responds functions inner p.0 o).runs ++ runs_of functions inner (responds functions inner p.0 o).outside ps

-- the questions are answered with these answers
abbrev pub AreAnswers : Functions → Evaluation → Outside → List Pair → Type 0
AreAnswers functions inner o [] = Unit {0}
AreAnswers functions inner o (p ∷ ps) =
    ((responds functions inner p.0 o).answer ≡ p.1)
    × AreAnswers functions inner (responds functions inner p.0 o).outside ps

-- an evaluation whose body has the pairs of before behind it comes by what is outside after these pairs
abbrev pub ComesBy : Type 0
ComesBy =
    (setting : Setting) (inner : Evaluation) (job : Job) (text : List ℕ) (more : ℕ) (before : List Pair)
    (runs : List Run) (o : Outside) (pairs : List Pair) →
    Goes (setting.body job) (answers before) pairs → AreAnswers setting.functions inner o pairs →
    goes_on setting inner job text (more + length pairs) before runs o
    ≡ goes_on setting inner job text more (before ++ pairs) (runs ++ runs_of setting.functions inner o pairs)
    (left_after setting.functions inner o pairs)
