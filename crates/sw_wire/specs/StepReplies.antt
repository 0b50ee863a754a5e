-- The text of replies where compiles go on by steps. This project's own rule.
use Rattle.std.specs.Prelude.{ℕ, List, [], ◌∷◌, ◌++◌, codes}
use Rattle.std.specs.Fmt.{decimal}
use Rattle.sw_world.specs.declared.question.Saying.{Saying}
use Rattle.sw_record.specs.declared.reply.Outcome.{Outcome}
use Rattle.sw_wire.specs.Replies.{says_text, outcome_text}

-- a compile began under this number
abbrev pub started_text : ℕ → List ℕ
started_text number = codes "started " ++ decimal number ++ codes "\n"

-- the body of one sheet came to a load for which that of another began
abbrev pub loading_text : List ℕ → List ℕ → List ℕ
loading_text body opened = codes "loading " ++ body ++ codes " " ++ opened ++ codes "\n"

-- a body ended, and the load that waited for it was answered
abbrev pub finished_text : List ℕ → List ℕ
finished_text body = codes "finished " ++ body ++ codes "\n"

-- how many steps ran a body
abbrev pub times_line : List ℕ × ℕ → List ℕ
times_line one = codes "times " ++ one.0 ++ codes " " ++ decimal one.1 ++ codes "\n"

abbrev pub times_text : List (List ℕ × ℕ) → List ℕ
times_text [] = []
times_text (one ∷ times) = times_line one ++ times_text times

-- the last step of a compile: its messages, how many steps ran each body, and its outcome
abbrev pub steps_text : List Saying → List (List ℕ × ℕ) → Outcome → List ℕ
steps_text says times outcome = says_text says ++ times_text times ++ outcome_text outcome

-- no compile under way has the number
abbrev pub no_compile_text : List ℕ
no_compile_text = codes "refused 206\n"
