-- What comes of the request of a line.
use Rattle.std.proofs.Common.{◌≡◌, ℕ, ◌≤◌, List, [], length, None, Some, refl, ap, ◌∙◌}
use Rattle.std.specs.declared.option.Option.{Option}
use Rattle.sw_wire.specs.declared.request.StepRequest.{StepRequest}
use Rattle.sw_wire.specs.declared.request.StepRequest.TheVariants as line
use Rattle.sw_wire.specs.Requests.{step_request_of}
use Rattle.sw_modules.specs.Fresh.{Setting}
use Rattle.sw_step.specs.Joint.{Joint}
use Rattle.sw_cmd_protocol.specs.declared.stop.Stop.{Stop}
use Rattle.sw_cmd_protocol.specs.declared.stop.Stop.TheVariants.{Ended}
use Rattle.sw_cmd_protocol.specs.Script.{Whole}
use Rattle.sw_cmd_protocol.specs.Endings.{LineStops, LastLine}
use Rattle.sw_cmd_protocol.specs.Turns.{Place, place, Standing, standing, Says, SayStops, Answers, TurnEnds}
use Rattle.sw_cmd_protocol.proofs.LineTurns as lines
use Rattle.sw_cmd_edits.specs.Puts.{put_next}
use Rattle.sw_cmd_edits.specs.Edits.{PutAnswers, PutStops}
use Rattle.sw_cmd_edits.proofs.Putting.{CarriesOut}
use Rattle.sw_cmd_edits.proofs.Putting as putting
use Rattle.sw_cmd_steps.specs.Script.{Event, Put, front_by, last_by, last_stop, grammar}
use Rattle.sw_cmd_steps.specs.Transcript.{Edited, over, steps}
use Rattle.sw_cmd_steps.proofs.Saying.{put_is, beside, edited}

-- the last line
pub last_request : (request : StepRequest) (said : List ℕ) → step_request_of said ≡ Some request → LastLine (last_stop request) (last_by (step_request_of said))
last_request (line.Put path count) said e = ap last_by e
last_request (line.Remove path) said e = ap last_by e
last_request (line.Start entry paths) said e = ap last_by e
last_request (line.Step number) said e = ap last_by e
last_request line.End said e = ap last_by e

pub last_line : (stop : Stop) (said : List ℕ) → LineStops stop (step_request_of said) → LastLine stop (last_by (step_request_of said))
last_line stop said e = lines.last_line last_by (step_request_of said) refl stop e

module _ (setting : Setting) (said ahead : List ℕ) (left written now : Option (List ℕ)) (s t : Standing Joint) where
  front_is : (request : Option StepRequest) → step_request_of said ≡ request → (rest : List ℕ) → grammar.front said rest ≡ front_by request rest
  front_is request e rest = ap (λ x. front_by x rest) e

  -- no request came of the line
  pub line_stops : (stop : Stop) → LineStops stop (step_request_of said) → TurnEnds (grammar.front said) (steps setting) stop (place ahead left written) s (place ahead left written) s
  line_stops stop e = lines.line_stops (steps setting) (grammar.front said) ahead left written s (step_request_of said) (λ n. front_is None n) stop e

  pub line_closes : step_request_of said ≡ Some line.End → TurnEnds (grammar.front said) (steps setting) Ended (place ahead left written) s (place ahead left written) s
  line_closes e = lines.line_closes (steps setting) (grammar.front said) ahead left written s (front_is (Some line.End) e)

  -- the line alone is a request
  module _ (request : StepRequest) (event : Event) (e : step_request_of said ≡ Some request) (w : (rest : List ℕ) → front_by (Some request) rest ≡ Whole event rest) where
    pub line_answers : Says (steps setting) event [] s t written now → Answers (grammar.front said) (steps setting) [] (place ahead left written) s (place ahead left now) t
    line_answers = lines.line_answers (steps setting) (grammar.front said) ahead left written s now t event (λ rest. front_is (Some request) e rest ∙ w rest) []

    pub line_breaks : length ahead ≤ 4096 → (stop : Stop) → SayStops (steps setting) stop event s t written now
        → TurnEnds (grammar.front said) (steps setting) stop (place ahead left written) s (place ahead left now) t
    line_breaks = lines.line_breaks (steps setting) (grammar.front said) ahead left written s now t event (λ rest. front_is (Some request) e rest ∙ w rest)

-- a put's line, and what stands behind it
module _ (setting : Setting) (joint new_joint : Joint) (same : beside new_joint ≡ beside joint) (ran : List (List ℕ))
    (said path : List ℕ) (count : ℕ) (e : step_request_of said ≡ Some (line.Put path count)) (old new : Place) where
  carries : CarriesOut (steps setting) (Put path) Edited joint (over joint) joint.folder path
  carries = record { turn = λ bytes. put_is setting joint path bytes; is_mark = λ bytes. tt; is_said = λ bytes. tt; held = refl }

  front : (bytes : List ℕ) → grammar.front said bytes ≡ put_next (Put path) count bytes
  front bytes = ap (λ x. front_by x bytes) e

  pub put_answers : PutAnswers path count old joint.folder new new_joint.folder → Answers (grammar.front said) (steps setting) [] old (standing joint ran) new (standing new_joint ran)
  put_answers = putting.put_answers (steps setting) (Put path) Edited joint new_joint (over joint) joint.folder new_joint.folder path carries (edited joint new_joint same) ran (grammar.front said) count front old new

  pub put_stops : (stop : Stop) → PutStops stop path count old joint.folder new new_joint.folder → TurnEnds (grammar.front said) (steps setting) stop old (standing joint ran) new (standing new_joint ran)
  put_stops = putting.put_stops (steps setting) (Put path) Edited joint new_joint (over joint) joint.folder new_joint.folder path carries (edited joint new_joint same) ran (grammar.front said) count front old new
