-- The code that called the running code.
use Rattle.std.proofs.Common.{◌≡◌, List, [], ◌∷◌, ◌++◌, refl}
use Rattle.sw_scope.specs.Scopes.{pop}
use Rattle.sw_eval_state.specs.Entering.{closed}
use Rattle.sw_eval_state.specs.declared.here.Here.{Here}
use Rattle.sw_eval_state.specs.declared.state.State.{State}
use Rattle.sw_eval_state.proofs.Outer.{last_pushed, before_pushed}

pub closed_some : (s : State) (callers : List Here) (caller : Here) → s.callers ≡ callers ++ caller ∷ []
    → record s { scopes = pop s.scopes; here = caller; callers = callers } ≡ closed s
unfolding closed
closed_some s callers caller e = rw (e, last_pushed callers caller, before_pushed callers caller) refl

pub closed_none : (s : State) → s.callers ≡ [] → record s { scopes = pop s.scopes; callers = [] } ≡ closed s
unfolding closed
closed_none s e = rw e refl
