-- The requests of a session. This project's own rule.
use Rattle.std.specs.Prelude.{ℕ, List, Option, None, Some}
use Rattle.sw_wire.specs.declared.request.Request.{Request}
use Rattle.sw_wire.specs.declared.request.Request.TheVariants.{Put as Put_line, Remove as Remove_line, Compile as Compile_line, End as End_line}
use Rattle.sw_wire.specs.Requests.{request_of}
use Rattle.sw_cmd_protocol.specs.Script.{Next, Whole, Closing, NoRequest, Ending, End, Bad, Over, Grammar}
use Rattle.sw_cmd_edits.specs.Puts.{put_next}

-- a whole request that is answered; a put has its bytes
pub data Event : Type 0 where
  Put : (path bytes : List ℕ) → Event
  Remove : (path : List ℕ) → Event
  Compile : (entry : List ℕ) → (paths : List (List ℕ)) → Event

-- what a line asks for, with the bytes behind it
abbrev pub front_by : Option Request → List ℕ → Next Event
front_by None rest = NoRequest
front_by (Some (Put_line path count)) rest = put_next (Put path) count rest
front_by (Some (Remove_line path)) rest = Whole (Remove path) rest
front_by (Some (Compile_line entry paths)) rest = Whole (Compile entry paths) rest
front_by (Some End_line) rest = Closing

-- how a line ends a script where no request is answered any more
abbrev pub last_by : Option Request → Ending
last_by None = Bad
last_by (Some (Put_line path count)) = Over
last_by (Some (Remove_line path)) = Over
last_by (Some (Compile_line entry paths)) = Over
last_by (Some End_line) = End

abbrev pub grammar : Grammar Event
grammar = record { front = λ line rest. front_by (request_of line) rest; last = λ line. last_by (request_of line) }
