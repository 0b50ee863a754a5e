-- What follows for compiles that go on by steps from what holds of every protocol.
use Rattle.std.proofs.Common.{◌≡◌, ◌≢◌, ℕ, nat_eq, List, [], ◌∷◌, ◌++◌, None, Some, ◌⊎◌, refl, ap, subst}
use Rattle.std.specs.declared.option.Option.{Option}
use Rattle.sw_wire.specs.declared.request.StepRequest.{StepRequest}
use Rattle.sw_wire.specs.declared.request.StepRequest.TheVariants as line
use Rattle.sw_wire.specs.Requests.{step_request_of}
use Rattle.sw_modules.specs.Fresh.{Setting}
use Rattle.sw_step_bodies.specs.Stepping.{Step}
use Rattle.sw_step.specs.Joint.{Joint, UnderWay}
use Rattle.std.specs.Map.{lookup}
use Rattle.sw_cmd_protocol.specs.declared.stop.Stop.{Stop}
use Rattle.sw_cmd_protocol.specs.declared.stop.Stop.TheVariants.{Ended, OutsideFailed}
use Rattle.sw_cmd_protocol.specs.Script.{Short, script, End}
use Rattle.sw_cmd_protocol.specs.Endings.{IsBrokenOffAlone}
use Rattle.sw_cmd_protocol.specs.Exactly.{more_next, Grows, AnswersAll, EndsExactlyAlone}
use Rattle.sw_cmd_protocol.specs.Served as protocol
use Rattle.sw_cmd_protocol.specs.Heard.{TellsNothing}
use Rattle.sw_cmd_protocol.specs.One.{OneMark, OneTranscript}
use Rattle.sw_cmd_protocol.proofs.Whole.{exactly as exactly_of_any, all_answered as all_answered_of_any}
use Rattle.sw_cmd_protocol.proofs.One.{one_transcript}
use Rattle.sw_cmd_protocol.proofs.Alone.{alone}
use Rattle.sw_cmd_edits.proofs.Nexts.{put_grows}
use Rattle.sw_cmd_steps.specs.Script.{Event, Put, Remove, Start, Step as Step_event, front_by, grammar}
use Rattle.sw_cmd_steps.specs.Transcript.{Mark, Edited, Answered, Refused, goes_on, answered_step, turn_of, IsEditMark, IsStartMark, IsStepMark, IsLeft, steps, refusal}
use Rattle.sw_cmd_steps.specs.Served.{surroundings, nothing_held, Served}

front_grows : (said : Option StepRequest) (rest more : List ℕ) → front_by said rest ≢ Short → front_by said (rest ++ more) ≡ more_next more (front_by said rest)
front_grows None rest more h = refl
front_grows (Some (line.Remove path)) rest more h = refl
front_grows (Some (line.Start entry paths)) rest more h = refl
front_grows (Some (line.Step number)) rest more h = refl
front_grows (Some line.End) rest more h = refl
front_grows (Some (line.Put path count)) rest more h = put_grows (Put path) count rest more h

grows : Grows grammar
grows said rest more h = front_grows (step_request_of said) rest more h

-- nothing is asked that fails
pub none_left : (mark : Mark) → IsLeft OutsideFailed mark → ⊥
none_left mark left = left

not_outside_by : (setting : Setting) (most : ℕ) (old new : protocol.Surroundings Joint) → protocol.Served (steps setting) most OutsideFailed old new → ⊥
not_outside_by setting most old new s = none_left s.tells.mark s.tells.left

pub not_outside : (setting : Setting) (most : ℕ) (stop : Stop) (old new : protocol.Surroundings Joint) → protocol.Served (steps setting) most stop old new → stop ≢ OutsideFailed
not_outside setting most stop old new s e = not_outside_by setting most old new (subst (λ (x : Stop). protocol.Served (steps setting) most x old new) e s)

pub exactly : (setting : Setting) (most : ℕ) (stop : Stop) (bytes : List ℕ) (left written written_now : Option (List ℕ)) (ran ran_now : List (List ℕ))
    (s : Served setting most stop (surroundings (Some bytes) written ran) (surroundings left written_now ran_now)) → EndsExactlyAlone grammar most stop bytes s.served.taken
exactly setting most stop bytes left written written_now ran ran_now s =
    alone (steps setting) most none_left stop _ _ s.served (exactly_of_any (steps setting) grows most bytes ran ran_now nothing_held s.holds stop left written written_now s.served)

pub all_answered : (setting : Setting) (most : ℕ) (stop : Stop) (bytes before now : List ℕ) (left : Option (List ℕ)) (ran ran_now : List (List ℕ))
    (s : Served setting most stop (surroundings (Some bytes) (Some before) ran) (surroundings left (Some now) ran_now)) → (script grammar most bytes).ending ≡ End
    → IsBrokenOffAlone stop ⊎ ((stop ≡ Ended) × AnswersAll (steps setting) most bytes s.served.marks before now ran ran_now nothing_held s.holds)
all_answered setting most stop bytes before now left ran ran_now s e =
    alone (steps setting) most none_left stop _ _ s.served (all_answered_of_any (steps setting) grows most bytes ran ran_now nothing_held s.holds before now left stop s.served e)

edit_mark : (mark other : Mark) → IsEditMark mark → IsEditMark other → mark ≡ other
edit_mark Edited Edited a b = refl
edit_mark Edited Answered a b = absurd b
edit_mark Edited (Refused ran) a b = absurd b
edit_mark Answered other a b = absurd a
edit_mark (Refused ran) other a b = absurd a

some_same : (a b : List (List ℕ)) → Some a ≡ Some b → a ≡ b
some_same a b e = cc

-- two marks that are none of an edit
other_mark : (mark other : Mark) → mark ≢ Edited → other ≢ Edited → refusal mark ≡ refusal other → mark ≡ other
other_mark Edited other a b e = absurd (a refl)
other_mark Answered Edited a b e = absurd (b refl)
other_mark Answered Answered a b e = refl
other_mark Answered (Refused ran) a b e = cc
other_mark (Refused ran) Edited a b e = absurd (b refl)
other_mark (Refused ran) Answered a b e = cc
other_mark (Refused ran) (Refused others) a b e = ap Refused (some_same ran others e)

start_mark : (mark : Mark) → IsStartMark mark → mark ≢ Edited
start_mark Edited a e = a
start_mark Answered a e = cc
start_mark (Refused ran) a e = cc

step_mark : (joint : Joint) (number : ℕ) (mark : Mark) → IsStepMark joint number mark → mark ≢ Edited
step_mark joint number Edited a e = a
step_mark joint number Answered a e = cc
step_mark joint number (Refused ran) a e = cc

one_mark : (setting : Setting) → OneMark (steps setting) refusal
one_mark setting joint (Put path bytes) mark other a b e = edit_mark mark other a b
one_mark setting joint (Remove path) mark other a b e = edit_mark mark other a b
one_mark setting joint (Start entry paths) mark other a b e = other_mark mark other (start_mark mark a) (start_mark other b) e
one_mark setting joint (Step_event number) mark other a b e = other_mark mark other (step_mark joint number mark a) (step_mark joint number other b) e

pub transcript_is_one : (setting : Setting) → OneTranscript (steps setting) refusal
transcript_is_one setting = one_transcript (steps setting) refusal (one_mark setting)

-- nobody is told of a reply
goes_untold : (setting : Setting) (joint : Joint) (number : ℕ) (compile : UnderWay) (left : List Step) → (goes_on setting joint number compile left).told ≡ []
goes_untold setting joint number compile [] = refl
goes_untold setting joint number compile (step ∷ left) = refl

step_untold : (setting : Setting) (joint : Joint) (number : ℕ) (compile : Option UnderWay) → (answered_step setting joint number compile).told ≡ []
step_untold setting joint number None = refl
step_untold setting joint number (Some compile) = goes_untold setting joint number compile compile.left

pub tells_nothing : (setting : Setting) → TellsNothing (steps setting)
unfolding turn_of
tells_nothing setting joint (Put path bytes) mark = refl
tells_nothing setting joint (Remove path) mark = refl
tells_nothing setting joint (Start entry paths) Edited = refl
tells_nothing setting joint (Start entry paths) Answered = refl
tells_nothing setting joint (Start entry paths) (Refused ran) = refl
tells_nothing setting joint (Step_event number) Edited = refl
tells_nothing setting joint (Step_event number) Answered = step_untold setting joint number (lookup (nat_eq number) joint.under_way)
tells_nothing setting joint (Step_event number) (Refused ran) = refl
