-- Starts, steps and edits that were carried out, and their replies.
use Rattle.std.proofs.Common.{◌≡◌, ◌≢◌, ℕ, nat_eq, List, [], ◌∷◌, ◌++◌, None, Some, refl, sym, ap, ◌∙◌, subst}
use Rattle.std.specs.declared.option.Option.{Option}
use Rattle.std.specs.Io.KnownBytes.{Appends}
use Rattle.std.specs.Map.{lookup}
use Rattle.std.proofs.lemmas.List.{append-nil}
use Rattle.sw_folder.specs.Files.{Files}
use Rattle.sw_folder.specs.Edits.{after_put, after_removal, folder_after}
use Rattle.sw_wire.specs.Replies.{edit_text, memory_text}
use Rattle.sw_wire.specs.StepReplies.{started_text, no_compile_text}
use Rattle.sw_world.specs.declared.question.Saying.{Saying}
use Rattle.sw_modules.specs.Fresh.{Setting}
use Rattle.sw_record.specs.declared.reply.Outcome.{Outcome}
use Rattle.sw_record.specs.declared.reply.Reply.{Reply}
use Rattle.sw_step_bodies.specs.declared.stepped.StepReply.{StepReply}
use Rattle.sw_step_bodies.specs.declared.stepped.Stepped.{Stepped}
use Rattle.sw_step_bodies.specs.declared.stepped.Stepped.TheVariants as answer
use Rattle.sw_step_bodies.specs.Stepping.{Step}
use Rattle.sw_step_bodies.specs.Steps.{step_of, ended_in}
use Rattle.sw_step.specs.Joint.{Joint, UnderWay, started, stepped, IsReply, RepliesWell, Answers as AnswersStep}
use Rattle.sw_cmd_protocol.specs.declared.stop.Stop.{Stop}
use Rattle.sw_cmd_protocol.specs.declared.stop.Stop.TheVariants.{SinkFailed}
use Rattle.sw_cmd_protocol.specs.Protocol.{Turn}
use Rattle.sw_cmd_protocol.specs.Sending.{IsCutShort, SendEnds}
use Rattle.sw_cmd_protocol.specs.Turns.{standing, Says, SayStops}
use Rattle.sw_cmd_protocol.proofs.Saying.{says, cut_short, send_ends}
use Rattle.sw_cmd_edits.specs.Puts.{edit_turn}
use Rattle.sw_cmd_steps.specs.Script.{Put, Remove, Start, Step as Step_event}
use Rattle.sw_cmd_steps.specs.Transcript.{Mark, Edited, Answered, Refused, over, turn, refused_turn, start_turn, reply_of, answer_of, stepped_text, goes_on, answered_step, step_turn, turn_of, HasNext, steps}

pub put_is : (setting : Setting) (joint : Joint) (path bytes : List ℕ) → turn_of setting joint (Put path bytes) Edited ≡ edit_turn (over joint) joint.folder (after_put path bytes joint.folder)
unfolding turn_of
put_is setting joint path bytes = refl

removal_is : (setting : Setting) (joint : Joint) (path : List ℕ) → turn_of setting joint (Remove path) Edited ≡ edit_turn (over joint) joint.folder (after_removal path joint.folder)
unfolding turn_of
removal_is setting joint path = refl

start_is : (setting : Setting) (joint : Joint) (entry : List ℕ) (paths : List (List ℕ)) (mark : Mark) → turn_of setting joint (Start entry paths) mark ≡ start_turn setting joint entry paths mark
unfolding turn_of
start_is setting joint entry paths mark = refl

step_is : (setting : Setting) (joint : Joint) (number : ℕ) (mark : Mark) → turn_of setting joint (Step_event number) mark ≡ step_turn setting joint number mark
unfolding turn_of
step_is setting joint number mark = refl

-- what is held beside the folder
abbrev pub beside : Joint → ℕ × List (ℕ × UnderWay)
beside joint = (joint.given, joint.under_way)

-- an edit leaves it
pub edited : (old new : Joint) → beside new ≡ beside old → new ≡ over old new.folder
edited old new same =
    ap (λ (rest : ℕ × List (ℕ × UnderWay)). let joint : Joint = record { folder = new.folder; given = rest.0; under_way = rest.1 } in joint) same

module _ (setting : Setting) (old new : Joint) (ran : List (List ℕ)) (written now : Option (List ℕ)) where
  -- a removal
  module _ (path : List ℕ) (f : new.folder ≡ folder_after (after_removal path old.folder) old.folder) (same : beside new ≡ beside old) where
    pub removal_says : Appends written now (edit_text (after_removal path old.folder)) → Says (steps setting) (Remove path) [] (standing old ran) (standing new ran) written now
    removal_says a =
        says (steps setting) (Remove path) Edited (standing old ran) (standing new ran) (edit_turn (over old) old.folder (after_removal path old.folder))
        (removal_is setting old path) tt (edited old new same ∙ ap (over old) f) (sym (append-nil ran)) written now _ refl [] refl tt a

    pub removal_stops : (stop : Stop) → (stop ≡ SinkFailed) × IsCutShort (edit_text (after_removal path old.folder)) written now
        → SayStops (steps setting) stop (Remove path) (standing old ran) (standing new ran) written now
    removal_stops =
        cut_short (steps setting) (Remove path) Edited (standing old ran) (standing new ran) (edit_turn (over old) old.folder (after_removal path old.folder))
        (removal_is setting old path) tt (edited old new same ∙ ap (over old) f) (sym (append-nil ran)) written now _ refl

  -- a start
  module _ (entry : List ℕ) (paths : List (List ℕ)) where
    module _ (number : ℕ) (n : number ≡ old.given) (s : new ≡ started setting entry paths old) where
      pub start_says : Appends written now (started_text number) → Says (steps setting) (Start entry paths) [] (standing old ran) (standing new ran) written now
      start_says a =
          says (steps setting) (Start entry paths) Answered (standing old ran) (standing new ran) (start_turn setting old entry paths Answered)
          (start_is setting old entry paths Answered) tt s (sym (append-nil ran)) written now (started_text number) (ap started_text n) [] refl tt a

      pub start_stops : (stop : Stop) → SendEnds stop (started_text number) written now → SayStops (steps setting) stop (Start entry paths) (standing old ran) (standing new ran) written now
      start_stops =
          send_ends (steps setting) (Start entry paths) Answered (standing old ran) (standing new ran) (start_turn setting old entry paths Answered)
          (start_is setting old entry paths Answered) tt s (sym (append-nil ran)) written now (started_text number) (ap started_text n) tt

    -- that was refused
    module _ (same : new ≡ old) (reply : List ℕ) (e : reply ≡ memory_text) where
      pub no_start_says : Appends written now reply → Says (steps setting) (Start entry paths) [] (standing old ran) (standing new ran) written now
      no_start_says a =
          says (steps setting) (Start entry paths) (Refused []) (standing old ran) (standing new ran) (refused_turn old [])
          (start_is setting old entry paths (Refused [])) refl same (sym (append-nil ran)) written now reply e [] refl tt a

      pub no_start_stops : (stop : Stop) → (stop ≡ SinkFailed) × IsCutShort reply written now → SayStops (steps setting) stop (Start entry paths) (standing old ran) (standing new ran) written now
      no_start_stops =
          cut_short (steps setting) (Start entry paths) (Refused []) (standing old ran) (standing new ran) (refused_turn old [])
          (start_is setting old entry paths (Refused [])) refl same (sym (append-nil ran)) written now reply e

-- the last step replies as the compile from nothing does
reply_is : (setting : Setting) (compile : UnderWay) (reply : StepReply) → IsReply setting compile reply → reply_of setting compile ≡ reply
reply_is setting compile reply r =
    ap (λ (x : List Saying). let y : StepReply = record { says = x; times = (reply_of setting compile).times; outcome = (reply_of setting compile).outcome } in y) (sym r.says)
    ∙ ap (λ (x : List (List ℕ × ℕ)). let y : StepReply = record { says = reply.says; times = x; outcome = (reply_of setting compile).outcome } in y) (sym r.times)
    ∙ ap (λ (x : Outcome). let y : StepReply = record { says = reply.says; times = reply.times; outcome = x } in y) (sym r.outcome)

answer_is : (setting : Setting) (compile : UnderWay) (a : Stepped) → RepliesWell setting compile a → answer_of setting compile (step_of a) ≡ a
answer_is setting compile (answer.Loading body opened) r = refl
answer_is setting compile (answer.Finished body) r = refl
answer_is setting compile (answer.Ended reply) r = ap answer.Ended (reply_is setting compile reply r)

not_none : (left rest : List Step) (step : Step) → left ≡ step ∷ rest → left ≢ []
not_none left rest step e n = cc

module _ (setting : Setting) (old new : Joint) (ran ran_now : List (List ℕ)) (written now : Option (List ℕ)) (number : ℕ) where
  -- a step that a compile answered
  module _ (a : Stepped) (s : AnswersStep setting number a old new) (told : ran_now ≡ ran ++ ended_in a) where
    abbrev went : Turn Joint Reply
    went = turn (stepped_text a) (ended_in a) (stepped number s.compile a s.left old)

    went_is : turn_of setting old (Step_event number) Answered ≡ went
    went_is =
        step_is setting old number Answered ∙ ap (answered_step setting old number) s.is ∙ ap (goes_on setting old number s.compile) s.next
        ∙ ap (λ (x : Stepped). turn (stepped_text x) (ended_in x) (stepped number s.compile x s.left old)) (answer_is setting s.compile a s.replies)

    has_next : HasNext (lookup (nat_eq number) old.under_way)
    has_next = subst HasNext (sym s.is) (not_none s.compile.left s.left (step_of a) s.next)

    pub step_says : Appends written now (stepped_text a) → Says (steps setting) (Step_event number) [] (standing old ran) (standing new ran_now) written now
    step_says x =
        says (steps setting) (Step_event number) Answered (standing old ran) (standing new ran_now) went went_is has_next s.after told written now (stepped_text a) refl [] refl tt x

    pub step_stops : (stop : Stop) → SendEnds stop (stepped_text a) written now → SayStops (steps setting) stop (Step_event number) (standing old ran) (standing new ran_now) written now
    step_stops = send_ends (steps setting) (Step_event number) Answered (standing old ran) (standing new ran_now) went went_is has_next s.after told written now (stepped_text a) refl tt

  -- no compile has the number
  module _ (none : lookup (nat_eq number) old.under_way ≡ None) (quiet : ran_now ≡ ran) (same : new ≡ old) (reply : List ℕ) (e : reply ≡ no_compile_text) where
    none_is : turn_of setting old (Step_event number) Answered ≡ turn no_compile_text [] old
    none_is = step_is setting old number Answered ∙ ap (answered_step setting old number) none

    pub none_says : Appends written now reply → Says (steps setting) (Step_event number) [] (standing old ran) (standing new ran_now) written now
    none_says x =
        says (steps setting) (Step_event number) Answered (standing old ran) (standing new ran_now) (turn no_compile_text [] old) none_is (subst HasNext (sym none) tt) same
        (quiet ∙ sym (append-nil ran)) written now reply e [] refl tt x

    pub none_stops : (stop : Stop) → (stop ≡ SinkFailed) × IsCutShort reply written now → SayStops (steps setting) stop (Step_event number) (standing old ran) (standing new ran_now) written now
    none_stops =
        cut_short (steps setting) (Step_event number) Answered (standing old ran) (standing new ran_now) (turn no_compile_text [] old) none_is (subst HasNext (sym none) tt) same
        (quiet ∙ sym (append-nil ran)) written now reply e

  -- no memory was found
  module _ (more : List (List ℕ)) (told : ran_now ≡ ran ++ more) (same : new ≡ old) (reply : List ℕ) (e : reply ≡ memory_text) where
    pub no_step_says : Appends written now reply → Says (steps setting) (Step_event number) [] (standing old ran) (standing new ran_now) written now
    no_step_says x =
        says (steps setting) (Step_event number) (Refused more) (standing old ran) (standing new ran_now) (refused_turn old more) (step_is setting old number (Refused more)) tt same told
        written now reply e [] refl tt x

    pub no_step_stops : (stop : Stop) → (stop ≡ SinkFailed) × IsCutShort reply written now → SayStops (steps setting) stop (Step_event number) (standing old ran) (standing new ran_now) written now
    no_step_stops =
        cut_short (steps setting) (Step_event number) (Refused more) (standing old ran) (standing new ran_now) (refused_turn old more) (step_is setting old number (Refused more)) tt same told
        written now reply e
