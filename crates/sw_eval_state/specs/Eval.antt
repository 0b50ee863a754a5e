-- An evaluation, from what was made so far.
use Rattle.sw_eval_questions.specs.Talk.{Talk}
use Rattle.sw_eval_state.specs.declared.state.State.{State}

abbrev pub Eval : Type 0 → Type 0
Eval A = State → Talk (A × State)
