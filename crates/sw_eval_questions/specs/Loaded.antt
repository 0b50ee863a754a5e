-- Loads as questions to the world.
use Rattle.std.specs.Prelude.{ℕ, List, [], Option, Some, None}
use Rattle.sw_world.specs.declared.question.Question.{Question}
use Rattle.sw_eval_questions.specs.Talk.{NumberedQuestion, op_of}

-- what a load asks doesn't depend on what was answered
abbrev pub loaded : List ℕ → Option NumberedQuestion → Option Question
loaded path None = None
loaded path (Some q) = op_of path [] q
