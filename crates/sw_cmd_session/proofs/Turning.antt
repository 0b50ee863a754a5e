-- What comes of the request of a line.
use Rattle.std.proofs.Common.{◌≡◌, ℕ, ◌≤◌, List, [], ◌∷◌, ◌++◌, length, None, Some, Ok, Err, IfOk, OnOk, refl, sym, ap, ◌∙◌, subst}
use Rattle.std.specs.declared.option.Option.{Option}
use Rattle.std.specs.declared.result.Result.{Result}
use Rattle.std.specs.Io.KnownBytes.{Appends}
use Rattle.std.proofs.lemmas.List.{append-nil}
use Rattle.sw_folder.specs.Files.{Files}
use Rattle.sw_folder.specs.Edits.{after_put, after_removal, folder_after}
use Rattle.sw_wire.specs.declared.request.Request.{Request}
use Rattle.sw_wire.specs.declared.request.Request.TheVariants.{Put as Put_line, Remove as Remove_line, Compile as Compile_line, End as End_line}
use Rattle.sw_wire.specs.Requests.{request_of}
use Rattle.sw_wire.specs.Replies.{edit_text, reply_text, says_text, ran_text, outcome_text, memory_text}
use Rattle.sw_world.specs.Hosts.{HostState}
use Rattle.sw_world.specs.declared.question.Saying.{Saying}
use Rattle.sw_modules.specs.Fresh.{Setting}
use Rattle.sw_record.specs.declared.reply.Outcome.{Outcome}
use Rattle.sw_record.specs.declared.reply.Reply.{Reply}
use Rattle.sw_keeper.specs.Compile.{Compile as Compiled, compiled, CompilesTo, BreaksOff}
use Rattle.sw_keeper.specs.Keeping.{Table, Keeping}
use Rattle.sw_cmd_protocol.specs.declared.stop.Stop.{Stop}
use Rattle.sw_cmd_protocol.specs.declared.stop.Stop.TheVariants.{Ended, SinkFailed}
use Rattle.sw_cmd_protocol.specs.Script.{Whole, NoRequest}
use Rattle.sw_cmd_protocol.specs.Endings.{LineStops, LastLine}
use Rattle.sw_cmd_protocol.specs.Sending.{IsCutShort, SendEnds}
use Rattle.sw_cmd_protocol.specs.Turns.{Place, place, Standing, standing, Says, SayStops, Answers, TurnEnds}
use Rattle.sw_cmd_protocol.proofs.Saying.{says, cut_short, send_ends}
use Rattle.sw_cmd_protocol.proofs.LineTurns as lines
use Rattle.sw_cmd_edits.specs.Puts.{put_next, edit_turn}
use Rattle.sw_cmd_edits.specs.Edits.{PutAnswers, PutStops}
use Rattle.sw_cmd_edits.proofs.Putting.{CarriesOut}
use Rattle.sw_cmd_edits.proofs.Putting as putting
use Rattle.sw_cmd_session.specs.Script.{Event, Put, Remove, Compile, front_by, last_by, grammar}
use Rattle.sw_cmd_session.specs.Transcript.{Mark, Edited, Answered, Refused, Held, held, holding, over, compile_turn, reply_of, IsMark, turn_of, session}
use Rattle.sw_cmd_session.specs.Lines.{last_stop}

-- the last line
pub last_request : (request : Request) (line : List ℕ) → request_of line ≡ Some request → LastLine (last_stop request) (last_by (request_of line))
last_request (Put_line path count) line e = ap last_by e
last_request (Remove_line path) line e = ap last_by e
last_request (Compile_line entry paths) line e = ap last_by e
last_request End_line line e = ap last_by e

pub last_line : (stop : Stop) (line : List ℕ) → LineStops stop (request_of line) → LastLine stop (last_by (request_of line))
last_line stop line e = lines.last_line last_by (request_of line) refl stop e

-- where nothing behind the line was read
module _ (setting : Setting) (line ahead : List ℕ) (left written now : Option (List ℕ)) (s t : Standing Held) where
  front_is : (said : Option Request) → request_of line ≡ said → (rest : List ℕ) → grammar.front line rest ≡ front_by said rest
  front_is said e rest = ap (λ x. front_by x rest) e

  -- no request came of the line
  pub line_stops : (stop : Stop) → LineStops stop (request_of line) → TurnEnds (grammar.front line) (session setting) stop (place ahead left written) s (place ahead left written) s
  line_stops stop e = lines.line_stops (session setting) (grammar.front line) ahead left written s (request_of line) (λ n. front_is None n) stop e

  pub line_closes : request_of line ≡ Some End_line → TurnEnds (grammar.front line) (session setting) Ended (place ahead left written) s (place ahead left written) s
  line_closes e = lines.line_closes (session setting) (grammar.front line) ahead left written s (front_is (Some End_line) e)

  -- the line alone is a request
  module _ (request : Request) (event : Event) (e : request_of line ≡ Some request) (w : (rest : List ℕ) → front_by (Some request) rest ≡ Whole event rest) where
    pub line_answers : (told : List Reply) → Says (session setting) event told s t written now → Answers (grammar.front line) (session setting) told (place ahead left written) s (place ahead left now) t
    line_answers = lines.line_answers (session setting) (grammar.front line) ahead left written s now t event (λ rest. front_is (Some request) e rest ∙ w rest)

    pub line_breaks : length ahead ≤ 4096 → (stop : Stop) → SayStops (session setting) stop event s t written now
        → TurnEnds (grammar.front line) (session setting) stop (place ahead left written) s (place ahead left now) t
    line_breaks = lines.line_breaks (session setting) (grammar.front line) ahead left written s now t event (λ rest. front_is (Some request) e rest ∙ w rest)

compile_is : (setting : Setting) (h : Held) (entry : List ℕ) (paths : List (List ℕ)) (mark : Mark) → turn_of setting h (Compile entry paths) mark ≡ compile_turn setting h entry paths mark
unfolding turn_of
compile_is setting h entry paths mark = refl

removal_is : (setting : Setting) (h : Held) (path : List ℕ) → turn_of setting h (Remove path) Edited ≡ edit_turn (over h) h.folder (after_removal path h.folder)
unfolding turn_of
removal_is setting h path = refl

put_is : (setting : Setting) (h : Held) (path bytes : List ℕ) → turn_of setting h (Put path bytes) Edited ≡ edit_turn (over h) h.folder (after_put path bytes h.folder)
unfolding turn_of
put_is setting h path bytes = refl

held_same : (f f' : Files) (k k' : Table) (h h' : HostState) → f ≡ f' → k ≡ k' → h ≡ h' → held f k h ≡ held f' k' h'
held_same f f' k k' h h' a b c = ap (λ (x : Files). held x k h) a ∙ ap (λ (x : Table). held f' x h) b ∙ ap (λ (x : HostState). held f' k' x) c

-- the folder and the kept runs of what is held
abbrev pub keeping : Held → Keeping
keeping h = record { folder = h.folder; kept = h.kept }

pub reply_is : (reply : Reply) (c : Compiled) → reply.says ≡ c.says → reply.outcome ≡ c.outcome → reply_text reply ≡ reply_text (record { says = c.says; ran = reply.ran; outcome = c.outcome })
reply_is reply c a b = ap (λ (x : List Saying). says_text x ++ ran_text reply.ran ++ outcome_text reply.outcome) a
    ∙ ap (λ (x : Outcome). says_text c.says ++ ran_text reply.ran ++ outcome_text x) b

pub one_reply : (reply : Reply) (c : Compiled) → reply.says ≡ c.says → reply.outcome ≡ c.outcome → reply_of c reply.ran ∷ [] ≡ reply ∷ []
one_reply reply c a b = ap (λ (x : List Saying). let r : Reply = record { says = x; ran = reply.ran; outcome = c.outcome } in r ∷ []) (sym a)
    ∙ ap (λ (x : Outcome). let r : Reply = record { says = reply.says; ran = reply.ran; outcome = x } in r ∷ []) (sym b)

-- a compile was answered
module _ (setting : Setting) (entry : List ℕ) (paths : List (List ℕ)) (before after : Standing Held) (reply : Reply) (written now : Option (List ℕ))
    (c : CompilesTo (compiled setting before.held.folder paths entry before.held.hosts) reply (keeping before.held) (keeping after.held) after.held.hosts before.ran after.ran) where
  pub compile_says : Appends written now (reply_text reply) → Says (session setting) (Compile entry paths) (reply ∷ []) before after written now
  compile_says a =
      says (session setting) (Compile entry paths) (Answered reply.ran after.held.kept) before after (compile_turn setting before.held entry paths (Answered reply.ran after.held.kept))
      (compile_is setting before.held entry paths (Answered reply.ran after.held.kept)) (c.ran, c.kept) (held_same _ _ _ _ _ _ c.folder refl c.hosts) c.told written now (reply_text reply)
      (reply_is reply (compiled setting before.held.folder paths entry before.held.hosts) c.says c.outcome)
      (reply ∷ []) (one_reply reply (compiled setting before.held.folder paths entry before.held.hosts) c.says c.outcome) tt a

  pub compile_stops : (stop : Stop) → SendEnds stop (reply_text reply) written now → SayStops (session setting) stop (Compile entry paths) before after written now
  compile_stops =
      send_ends (session setting) (Compile entry paths) (Answered reply.ran after.held.kept) before after (compile_turn setting before.held entry paths (Answered reply.ran after.held.kept))
      (compile_is setting before.held entry paths (Answered reply.ran after.held.kept)) (c.ran, c.kept) (held_same _ _ _ _ _ _ c.folder refl c.hosts) c.told written now (reply_text reply)
      (reply_is reply (compiled setting before.held.folder paths entry before.held.hosts) c.says c.outcome) tt

-- a compile was refused for want of memory
module _ (setting : Setting) (entry : List ℕ) (paths : List (List ℕ)) (before after : Keeping) (hosts hosts_now : HostState) (ran ran_now : List (List ℕ)) (written now : Option (List ℕ)) (reply : List ℕ)
    (k : after ≡ before) (m : BreaksOff setting before.folder paths entry hosts hosts_now ran ran_now) (e : reply ≡ memory_text) where
  pub refusal_says : Appends written now reply → Says (session setting) (Compile entry paths) [] (standing (holding before hosts) ran) (standing (holding after hosts_now) ran_now) written now
  refusal_says a =
      says (session setting) (Compile entry paths) (Refused m.more m.count) (standing (holding before hosts) ran) (standing (holding after hosts_now) ran_now)
      (compile_turn setting (holding before hosts) entry paths (Refused m.more m.count)) (compile_is setting (holding before hosts) entry paths (Refused m.more m.count)) m.few
      (ap (λ (x : Keeping). holding x hosts_now) k ∙ ap (λ (x : HostState). holding before x) m.hosts) m.told written now reply e [] refl tt a

  pub refusal_stops : (stop : Stop) → (stop ≡ SinkFailed) × IsCutShort reply written now
      → SayStops (session setting) stop (Compile entry paths) (standing (holding before hosts) ran) (standing (holding after hosts_now) ran_now) written now
  refusal_stops =
      cut_short (session setting) (Compile entry paths) (Refused m.more m.count) (standing (holding before hosts) ran) (standing (holding after hosts_now) ran_now)
      (compile_turn setting (holding before hosts) entry paths (Refused m.more m.count)) (compile_is setting (holding before hosts) entry paths (Refused m.more m.count)) m.few
      (ap (λ (x : Keeping). holding x hosts_now) k ∙ ap (λ (x : HostState). holding before x) m.hosts) m.told written now reply e

-- an edit leaves what is kept
module _ (setting : Setting) (hosts : HostState) (ran : List (List ℕ)) (before after : Keeping) (kept : after.kept ≡ before.kept) where
  keeps : holding after hosts ≡ over (holding before hosts) after.folder
  keeps = ap (λ (k : Table). held after.folder k hosts) kept

  module _ (written now : Option (List ℕ)) (path : List ℕ) (f : after.folder ≡ folder_after (after_removal path before.folder) before.folder) where
    pub removal_says : Appends written now (edit_text (after_removal path before.folder))
        → Says (session setting) (Remove path) [] (standing (holding before hosts) ran) (standing (holding after hosts) ran) written now
    removal_says a =
        says (session setting) (Remove path) Edited (standing (holding before hosts) ran) (standing (holding after hosts) ran) (edit_turn (over (holding before hosts)) before.folder (after_removal path before.folder))
        (removal_is setting (holding before hosts) path) tt (keeps ∙ ap (over (holding before hosts)) f) (sym (append-nil ran)) written now _ refl [] refl tt a

    pub removal_stops : (stop : Stop) → (stop ≡ SinkFailed) × IsCutShort (edit_text (after_removal path before.folder)) written now
        → SayStops (session setting) stop (Remove path) (standing (holding before hosts) ran) (standing (holding after hosts) ran) written now
    removal_stops =
        cut_short (session setting) (Remove path) Edited (standing (holding before hosts) ran) (standing (holding after hosts) ran) (edit_turn (over (holding before hosts)) before.folder (after_removal path before.folder))
        (removal_is setting (holding before hosts) path) tt (keeps ∙ ap (over (holding before hosts)) f) (sym (append-nil ran)) written now _ refl

  -- a put's line, and what stands behind it
  module _ (line path : List ℕ) (count : ℕ) (e : request_of line ≡ Some (Put_line path count)) (old new : Place) where
    carries : CarriesOut (session setting) (Put path) Edited (holding before hosts) (over (holding before hosts)) before.folder path
    carries = record { turn = λ bytes. put_is setting (holding before hosts) path bytes; is_mark = λ bytes. tt; is_said = λ bytes. tt; held = refl }

    front : (bytes : List ℕ) → grammar.front line bytes ≡ put_next (Put path) count bytes
    front bytes = ap (λ x. front_by x bytes) e

    pub put_answers : PutAnswers path count old before.folder new after.folder → Answers (grammar.front line) (session setting) [] old (standing (holding before hosts) ran) new (standing (holding after hosts) ran)
    put_answers = putting.put_answers (session setting) (Put path) Edited (holding before hosts) (holding after hosts) (over (holding before hosts)) before.folder after.folder path carries keeps ran (grammar.front line) count front old new

    pub put_stops : (stop : Stop) → PutStops stop path count old before.folder new after.folder
        → TurnEnds (grammar.front line) (session setting) stop old (standing (holding before hosts) ran) new (standing (holding after hosts) ran)
    put_stops = putting.put_stops (session setting) (Put path) Edited (holding before hosts) (holding after hosts) (over (holding before hosts)) before.folder after.folder path carries keeps ran (grammar.front line) count front old new

-- a result that two clauses tell of
pub given_by : {R E Q : Type 0} (P : Option R → Type 0) (reply : Option R) (r : Result (Option R) E) → IfOk r (λ given. given ≡ reply) → OnOk r Q → (Q → P reply) → IfOk r P
given_by P reply (Ok given) e q f = subst P (sym e) (f q)
given_by P reply (Err stop) e q f = tt
