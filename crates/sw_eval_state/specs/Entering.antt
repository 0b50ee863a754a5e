-- Code that is called (the Sass specification on functions and mixins).
use Rattle.std.specs.Prelude.{ℕ, ◌-◌, List, [], ◌∷◌, ◌++◌, length, take, Option, Some, None}
use Rattle.sw_text.specs.declared.fault.FaultCode.TheVariants as C
use Rattle.sw_text.specs.declared.place.Span.{Span}
use Rattle.sw_values.specs.declared.plain.Plain.{Plain}
use Rattle.sw_scope.specs.declared.mark.FrameKind.TheVariants as F
use Rattle.sw_scope.specs.Scopes.{on, pop, declare}
use Rattle.sw_css_tree.specs.Output.{last}
use Rattle.sw_eval_questions.specs.Talk.{Gives, Fails}
use Rattle.sw_eval_questions.specs.Asking.{fault}
use Rattle.sw_eval_state.specs.Eval.{Eval}
use Rattle.sw_eval_state.specs.declared.here.Here.{Here}
use Rattle.sw_eval_state.specs.declared.state.State.{State}

-- the code that was written there goes on, in a new frame on this one
unfoldable pub opened : Here → Option ℕ → State → State
opened here mark s = record s { scopes = on s.scopes mark F.Block; here = here; callers = s.callers ++ s.here ∷ [] }

abbrev pub or_here : Here → Option Here → Here
or_here here None = here
or_here here (Some caller) = caller

-- the code that called it goes on
unfoldable pub closed : State → State
closed s = record s {
  scopes = pop s.scopes;
  here = or_here s.here (last s.callers);
  callers = take (length s.callers - 1) s.callers;
}

-- a parameter is given a value
unfoldable pub given : List ℕ → Plain → State → State
given name v s = record s { scopes = declare s.scopes (name, v) }

-- what a function gives, whose call stands here
abbrev pub returned : Option Plain → Span → Eval Plain
returned (Some v) span s = Gives (v, s)
returned None span s = Fails (fault C.NoReturn span)
