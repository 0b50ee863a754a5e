-- The requests of compiles that go on by steps. This project's own rule.
use Rattle.std.specs.Prelude.{ℕ, List, Option, None, Some}
use Rattle.sw_wire.specs.declared.request.StepRequest.{StepRequest}
use Rattle.sw_wire.specs.declared.request.StepRequest.TheVariants as line
use Rattle.sw_wire.specs.Requests.{step_request_of}
use Rattle.sw_cmd_protocol.specs.declared.stop.Stop.{Stop}
use Rattle.sw_cmd_protocol.specs.declared.stop.Stop.TheVariants as stop
use Rattle.sw_cmd_protocol.specs.Script.{Next, Whole, Closing, NoRequest, Ending, End, Bad, Over, Grammar}
use Rattle.sw_cmd_edits.specs.Puts.{put_next}

-- a whole request that is answered; a put has its bytes
pub data Event : Type 0 where
  Put : (path bytes : List ℕ) → Event
  Remove : (path : List ℕ) → Event
  Start : (entry : List ℕ) → (paths : List (List ℕ)) → Event
  Step : (number : ℕ) → Event

-- what a line asks for, with the bytes behind it
abbrev pub front_by : Option StepRequest → List ℕ → Next Event
front_by None rest = NoRequest
front_by (Some (line.Put path count)) rest = put_next (Put path) count rest
front_by (Some (line.Remove path)) rest = Whole (Remove path) rest
front_by (Some (line.Start entry paths)) rest = Whole (Start entry paths) rest
front_by (Some (line.Step number)) rest = Whole (Step number) rest
front_by (Some line.End) rest = Closing

-- how a line ends a script where no request is answered any more
abbrev pub last_by : Option StepRequest → Ending
last_by None = Bad
last_by (Some (line.Put path count)) = Over
last_by (Some (line.Remove path)) = Over
last_by (Some (line.Start entry paths)) = Over
last_by (Some (line.Step number)) = Over
last_by (Some line.End) = End

abbrev pub grammar : Grammar Event
grammar =
    record { front = λ said rest. front_by (step_request_of said) rest; last = λ said. last_by (step_request_of said) }

-- how a request ends the answers where no more are given
abbrev pub last_stop : StepRequest → Stop
last_stop (line.Put path count) = stop.Over
last_stop (line.Remove path) = stop.Over
last_stop (line.Start entry paths) = stop.Over
last_stop (line.Step number) = stop.Over
last_stop line.End = stop.Ended
