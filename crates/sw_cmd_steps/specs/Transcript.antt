-- What comes of each request where compiles go on by steps. This project's own rule.
use Rattle.std.specs.Prelude.{◌≡◌, ◌≢◌, ℕ, nat_eq, List, [], ◌∷◌, Option, None, Some, ⊤}
use Rattle.std.specs.Map.{lookup}
use Rattle.sw_folder.specs.Files.{Files}
use Rattle.sw_folder.specs.Edits.{after_put, after_removal}
use Rattle.sw_wire.specs.Replies.{memory_text}
use Rattle.sw_wire.specs.StepReplies.{started_text, loading_text, finished_text, steps_text, no_compile_text}
use Rattle.sw_modules.specs.Fresh.{Setting}
use Rattle.sw_record.specs.declared.reply.Reply.{Reply}
use Rattle.sw_step_bodies.specs.declared.stepped.StepReply.{StepReply}
use Rattle.sw_step_bodies.specs.declared.stepped.Stepped.{Stepped}
use Rattle.sw_step_bodies.specs.declared.stepped.Stepped.TheVariants as answer
use Rattle.sw_step_bodies.specs.Compiled.{compiled}
use Rattle.sw_step_bodies.specs.Stepping.{Step, Loading, Finished, Ended as Ended_step, stepping}
use Rattle.sw_step_bodies.specs.Steps.{ended_in}
use Rattle.sw_step.specs.Joint.{Joint, UnderWay, started, stepped}
use Rattle.sw_cmd_protocol.specs.declared.stop.Stop.{Stop}
use Rattle.sw_cmd_protocol.specs.declared.stop.Stop.TheVariants.{Ended, Wrong, CutOff, SourceFailed, SinkFailed, Memory, OutsideFailed, Over}
use Rattle.sw_cmd_protocol.specs.Protocol.{Protocol, Turn}
use Rattle.sw_cmd_edits.specs.Puts.{edit_turn}
use Rattle.sw_cmd_steps.specs.Script.{Event, Put, Remove, Start, Step as Step_event, grammar}

-- what follows of a request from no definition. An edit has one mark alone. A start or a step was answered, or it was
-- refused for want of memory after these bodies ran
pub data Mark : Type 0 where
  Edited : Mark
  Answered : Mark
  Refused : (ran : List (List ℕ)) → Mark

-- the same compiles under way, over another folder
abbrev pub over : Joint → Files → Joint
over joint folder = record joint { folder = folder }

-- a line of reply, of which nobody is told
abbrev pub turn : List ℕ → List (List ℕ) → Joint → Turn Joint Reply
turn text ran joint = record { text = text; told = []; ran = ran; held = joint }

-- a start or a step that is refused for want of memory leaves the compiles as they are
abbrev pub refused_turn : Joint → List (List ℕ) → Turn Joint Reply
refused_turn joint ran = turn memory_text ran joint

-- an edit's mark is none of a start or a step
abbrev pub no_turn : Joint → Turn Joint Reply
no_turn joint = turn [] [] joint

-- a compile begins over the folder as it is, under the next number
abbrev pub start_turn : Setting → Joint → List ℕ → List (List ℕ) → Mark → Turn Joint Reply
start_turn setting joint entry paths Edited = no_turn joint
start_turn setting joint entry paths Answered =
    turn (started_text joint.given) [] (started setting entry paths joint)
start_turn setting joint entry paths (Refused ran) = refused_turn joint ran

-- what a compile replies at its end: what it gives from nothing, over the folder as it was when it began, and how many
-- steps ran each body
abbrev pub reply_of : Setting → UnderWay → StepReply
reply_of setting compile = record {
  says = (compiled setting compile.folder compile.paths compile.entry).says;
  times = (stepping setting compile.folder compile.paths compile.entry).times;
  outcome = (compiled setting compile.folder compile.paths compile.entry).outcome;
}

abbrev pub answer_of : Setting → UnderWay → Step → Stepped
answer_of setting compile (Loading body opened) = answer.Loading body opened
answer_of setting compile (Finished body) = answer.Finished body
answer_of setting compile Ended_step = answer.Ended (reply_of setting compile)

abbrev pub stepped_text : Stepped → List ℕ
stepped_text (answer.Loading body opened) = loading_text body opened
stepped_text (answer.Finished body) = finished_text body
stepped_text (answer.Ended reply) = steps_text reply.says reply.times reply.outcome

-- how a compile goes on of which these steps are left: by the first of them
abbrev pub goes_on : Setting → Joint → ℕ → UnderWay → List Step → Turn Joint Reply
goes_on setting joint number compile [] = no_turn joint
goes_on setting joint number compile (step ∷ left) = let came =
    answer_of setting compile step in
    turn (stepped_text came) (ended_in came) (stepped number compile came left joint)

abbrev pub answered_step : Setting → Joint → ℕ → Option UnderWay → Turn Joint Reply
answered_step setting joint number None = turn no_compile_text [] joint
answered_step setting joint number (Some compile) = goes_on setting joint number compile compile.left

-- the compile under way with this number goes on by a step, or none has it
abbrev pub step_turn : Setting → Joint → ℕ → Mark → Turn Joint Reply
step_turn setting joint number Edited = no_turn joint
step_turn setting joint number Answered =
    answered_step setting joint number (lookup (nat_eq number) joint.under_way)
step_turn setting joint number (Refused ran) = refused_turn joint ran

-- what comes of one request
unfoldable pub turn_of : Setting → Joint → Event → Mark → Turn Joint Reply
turn_of setting joint (Put path bytes) mark = edit_turn (over joint) joint.folder (after_put path bytes joint.folder)
turn_of setting joint (Remove path) mark = edit_turn (over joint) joint.folder (after_removal path joint.folder)
turn_of setting joint (Start entry paths) mark = start_turn setting joint entry paths mark
turn_of setting joint (Step_event number) mark = step_turn setting joint number mark

abbrev pub IsEditMark : Mark → Type 0
IsEditMark Edited = ⊤
IsEditMark Answered = ⊥
IsEditMark (Refused ran) = ⊥

-- a start runs no body
abbrev pub IsStartMark : Mark → Type 0
IsStartMark Edited = ⊥
IsStartMark Answered = ⊤
IsStartMark (Refused ran) = ran ≡ []

-- of a compile under way some step is left
abbrev pub HasNext : Option UnderWay → Type 0
HasNext None = ⊤
HasNext (Some compile) = compile.left ≢ []

abbrev pub IsStepMark : Joint → ℕ → Mark → Type 0
IsStepMark joint number Edited = ⊥
IsStepMark joint number Answered = HasNext (lookup (nat_eq number) joint.under_way)
IsStepMark joint number (Refused ran) = ⊤

abbrev pub IsMark : Joint → Event → Mark → Type 0
IsMark joint (Put path bytes) mark = IsEditMark mark
IsMark joint (Remove path) mark = IsEditMark mark
IsMark joint (Start entry paths) mark = IsStartMark mark
IsMark joint (Step_event number) mark = IsStepMark joint number mark

-- a start or a step that was answered
abbrev pub IsAnswered : Mark → Type 0
IsAnswered Edited = ⊥
IsAnswered Answered = ⊤
IsAnswered (Refused ran) = ⊥

-- for want of memory the reply to a start or a step that was answered can be left out
abbrev pub IsLeft : Stop → Mark → Type 0
IsLeft Ended mark = ⊥
IsLeft Wrong mark = ⊥
IsLeft CutOff mark = ⊥
IsLeft SourceFailed mark = ⊥
IsLeft SinkFailed mark = ⊥
IsLeft Memory mark = IsAnswered mark
IsLeft OutsideFailed mark = ⊥
IsLeft Over mark = ⊥

abbrev pub steps : Setting → Protocol Event Mark Joint Reply
steps setting = record {
  grammar = grammar;
  turn_of = turn_of setting;
  IsMark = IsMark;
  IsSaid = λ joint event mark. ⊤;
  IsLeft = IsLeft;
}

-- what is free in a mark: whether memory was found, and what ran where it wasn't
abbrev pub refusal : Mark → Option (List (List ℕ))
refusal Edited = None
refusal Answered = None
refusal (Refused ran) = Some ran
