-- What a body begins with, and what is left of its turns (limits and places of faults are this project's own).
use Rattle.std.specs.Prelude.{◌==◌, ◌-◌, if◌then◌else◌, [], false, None}
use Rattle.sw_text.specs.declared.fault.FaultCode.TheVariants as C
use Rattle.sw_text.specs.declared.place.Span.{Span}
use Rattle.sw_scope.specs.Scopes.{empty}
use Rattle.sw_css_tree.specs.Output.{nothing}
use Rattle.sw_eval_questions.specs.Talk.{Gives, Fails}
use Rattle.sw_eval_questions.specs.Asking.{fault}
use Rattle.sw_eval_state.specs.Eval.{Eval}
use Rattle.sw_eval_state.specs.Nestings.{at_top}
use Rattle.sw_eval_state.specs.declared.here.Inside.TheVariants as I
use Rattle.sw_eval_state.specs.declared.state.State.{State}

abbrev pub begin : State
begin = record {
  scopes = empty;
  functions = [];
  mixins = [];
  here = record { site = 0; inside = I.Sheet; content = None };
  callers = [];
  css = nothing;
  nesting = at_top;
  outer = [];
  taken = [];
  given = None;
  late = false;
  turns = 1000000;
}

-- one of the turns that are left
unfoldable pub spent : Span → Eval (Unit {0})
spent span s = if s.turns == 0 then Fails (fault C.Turns span) else Gives (tt, record s { turns = s.turns - 1 })
