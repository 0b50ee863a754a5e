-- What follows for sessions from what holds of every protocol.
use Rattle.std.proofs.Common.{◌≡◌, ◌≢◌, ℕ, List, ◌++◌, None, Some, ◌⊎◌, refl, ap, ◌∙◌}
use Rattle.std.specs.declared.option.Option.{Option}
use Rattle.sw_wire.specs.declared.request.Request.{Request}
use Rattle.sw_wire.specs.declared.request.Request.TheVariants.{Put as Put_line, Remove as Remove_line, Compile as Compile_line, End as End_line}
use Rattle.sw_wire.specs.Requests.{request_of}
use Rattle.sw_world.specs.Hosts.{HostState}
use Rattle.sw_modules.specs.Fresh.{Setting}
use Rattle.sw_record.specs.declared.reply.Cause.{Cause}
use Rattle.sw_record.proofs.One.{ran_is_one}
use Rattle.sw_keeper.specs.Compile.{compiled}
use Rattle.sw_keeper.specs.Keeping.{Table, kept_in}
use Rattle.sw_keeper.proofs.Tables.{kept_is_one}
use Rattle.sw_cmd_protocol.specs.declared.stop.Stop.{Stop}
use Rattle.sw_cmd_protocol.specs.declared.stop.Stop.TheVariants.{Ended, OutsideFailed}
use Rattle.sw_cmd_protocol.specs.Script.{Short, script, End}
use Rattle.sw_cmd_protocol.specs.Exactly.{more_next, Grows, AnswersAll, EndsExactlyAlone}
use Rattle.sw_cmd_protocol.specs.One.{OneMark, OneTranscript}
use Rattle.sw_cmd_protocol.specs.Endings.{IsBrokenOffAlone}
use Rattle.sw_cmd_protocol.proofs.Whole.{exactly as exactly_of_any, all_answered as all_answered_of_any}
use Rattle.sw_cmd_protocol.proofs.One.{one_transcript}
use Rattle.sw_cmd_protocol.proofs.Alone.{alone}
use Rattle.sw_cmd_edits.proofs.Nexts.{put_grows}
use Rattle.sw_cmd_session.specs.Script.{Put, Remove, Compile, front_by, grammar}
use Rattle.sw_cmd_session.specs.Transcript.{Held, Mark, Edited, Answered, Refused, IsEditMark, IsCompileMark, IsLeft, session, Refusal, refusal}
use Rattle.sw_cmd_session.specs.Served.{surroundings, nothing_held, Served}

front_grows : (said : Option Request) (rest more : List ℕ) → front_by said rest ≢ Short → front_by said (rest ++ more) ≡ more_next more (front_by said rest)
front_grows None rest more h = refl
front_grows (Some (Remove_line path)) rest more h = refl
front_grows (Some (Compile_line entry paths)) rest more h = refl
front_grows (Some End_line) rest more h = refl
front_grows (Some (Put_line path count)) rest more h = put_grows (Put path) count rest more h

grows : Grows grammar
grows line rest more h = front_grows (request_of line) rest more h

-- nothing is asked in a session that fails
none_left : (mark : Mark) → IsLeft OutsideFailed mark → ⊥
none_left mark left = left

pub exactly : (setting : Setting) (most : ℕ) (stop : Stop) (bytes : List ℕ) (left written written_now : Option (List ℕ)) (ran ran_now : List (List ℕ)) (hosts hosts_now : HostState)
    (s : Served setting most stop (surroundings (Some bytes) written ran hosts) (surroundings left written_now ran_now hosts_now)) → EndsExactlyAlone grammar most stop bytes s.served.taken
exactly setting most stop bytes left written written_now ran ran_now hosts hosts_now s =
    alone (session setting) most none_left stop _ _ s.served (exactly_of_any (session setting) grows most bytes ran ran_now (nothing_held hosts) s.holds stop left written written_now s.served)

pub all_answered : (setting : Setting) (most : ℕ) (stop : Stop) (bytes before now : List ℕ) (left : Option (List ℕ)) (ran ran_now : List (List ℕ)) (hosts hosts_now : HostState)
    (s : Served setting most stop (surroundings (Some bytes) (Some before) ran hosts) (surroundings left (Some now) ran_now hosts_now)) → (script grammar most bytes).ending ≡ End
    → IsBrokenOffAlone stop ⊎ ((stop ≡ Ended) × AnswersAll (session setting) most bytes s.served.marks before now ran ran_now (nothing_held hosts) s.holds)
all_answered setting most stop bytes before now left ran ran_now hosts hosts_now s e =
    alone (session setting) most none_left stop _ _ s.served (all_answered_of_any (session setting) grows most bytes ran ran_now (nothing_held hosts) s.holds before now left stop s.served e)

edit_mark : (mark other : Mark) → IsEditMark mark → IsEditMark other → mark ≡ other
edit_mark Edited Edited a b = refl
edit_mark Edited (Answered ran kept) a b = absurd b
edit_mark Edited (Refused ran calls) a b = absurd b
edit_mark (Answered ran kept) other a b = absurd a
edit_mark (Refused ran calls) other a b = absurd a

some_same : (a b : Refusal) → Some a ≡ Some b → a ≡ b
some_same a b e = cc

compile_mark : (setting : Setting) (h : Held) (entry : List ℕ) (paths : List (List ℕ)) (mark other : Mark) → IsCompileMark setting h entry paths mark → IsCompileMark setting h entry paths other
    → refusal mark ≡ refusal other → mark ≡ other
compile_mark setting h entry paths Edited other a b e = absurd a
compile_mark setting h entry paths (Answered ran kept) Edited a b e = absurd b
compile_mark setting h entry paths (Answered ran kept) (Answered other now) a b e =
    ap (λ (x : List (List ℕ × Cause)). Answered x kept) (ran_is_one (kept_in h.kept) (compiled setting h.folder paths entry h.hosts).runs ran other a.0 b.0)
    ∙ ap (λ (x : Table). Answered other x) (kept_is_one h.kept (compiled setting h.folder paths entry h.hosts).runs kept now a.1 b.1)
compile_mark setting h entry paths (Answered ran kept) (Refused bodies calls) a b e = cc
compile_mark setting h entry paths (Refused ran calls) Edited a b e = absurd b
compile_mark setting h entry paths (Refused ran calls) (Answered other kept) a b e = cc
compile_mark setting h entry paths (Refused ran calls) (Refused bodies others) a b e =
    ap (λ (x : Refusal). Refused x.ran x.calls) (some_same (record { ran = ran; calls = calls }) (record { ran = bodies; calls = others }) e)

one_mark : (setting : Setting) → OneMark (session setting) refusal
one_mark setting h (Put path bytes) mark other a b e = edit_mark mark other a b
one_mark setting h (Remove path) mark other a b e = edit_mark mark other a b
one_mark setting h (Compile entry paths) mark other a b e = compile_mark setting h entry paths mark other a b e

pub transcript_is_one : (setting : Setting) → OneTranscript (session setting) refusal
transcript_is_one setting = one_transcript (session setting) refusal (one_mark setting)
