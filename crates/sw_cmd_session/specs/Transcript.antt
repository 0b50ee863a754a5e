-- What comes of each request of a session. This project's own rule.
use Rattle.std.specs.Prelude.{ℕ, ◌≤◌, List, length, [], ◌∷◌, Option, None, Some, ⊤}
use Rattle.sw_folder.specs.Files.{Files}
use Rattle.sw_folder.specs.Edits.{after_put, after_removal}
use Rattle.sw_wire.specs.Replies.{reply_text, memory_text}
use Rattle.sw_world.specs.Hosts.{HostState}
use Rattle.sw_modules.specs.Fresh.{Setting}
use Rattle.sw_record.specs.declared.reply.Cause.{Cause}
use Rattle.sw_record.specs.declared.reply.Reply.{Reply}
use Rattle.sw_record.specs.Ran.{Ran}
use Rattle.sw_keeper.specs.Compile.{Compile as Compiled, compiled, paths_of, after_first}
use Rattle.sw_keeper.specs.Keeping.{Table, Keeping, kept_in, AreKept}
use Rattle.sw_cmd_protocol.specs.declared.stop.Stop.{Stop}
use Rattle.sw_cmd_protocol.specs.declared.stop.Stop.TheVariants.{Ended, Wrong, CutOff, SourceFailed, SinkFailed, Memory, OutsideFailed, Over}
use Rattle.sw_cmd_protocol.specs.Protocol.{Protocol, Turn}
use Rattle.sw_cmd_edits.specs.Puts.{edit_turn}
use Rattle.sw_cmd_session.specs.Script.{Event, Put, Remove, Compile, grammar}

-- what a session holds between two requests: its folder, the runs that are kept, and the state of the host's functions
pub record Held : Type 0 where
  pub folder : Files
  pub kept : Table
  pub hosts : HostState

abbrev pub held : Files → Table → HostState → Held
held folder kept hosts = record { folder = folder; kept = kept; hosts = hosts }

abbrev pub holding : Keeping → HostState → Held
holding keeper hosts = held keeper.folder keeper.kept hosts

-- what follows of a request from no definition. An edit has one mark alone. A compile was answered: these bodies
-- ran, each for its cause, and these runs are kept from then on; or it was refused for want of memory: the bodies that
-- ran before, and how many calls of the host's functions were made
pub data Mark : Type 0 where
  Edited : Mark
  Answered : (ran : List (List ℕ × Cause)) → (kept : Table) → Mark
  Refused : (ran : List (List ℕ)) → (calls : ℕ) → Mark

-- the same over another folder
abbrev pub over : Held → Files → Held
over h folder = held folder h.kept h.hosts

-- the reply tells of the bodies that ran
abbrev pub reply_of : Compiled → List (List ℕ × Cause) → Reply
reply_of c ran = record { says = c.says; ran = ran; outcome = c.outcome }

abbrev pub answered_turn : Held → Compiled → List (List ℕ × Cause) → Table → Turn Held Reply
answered_turn h c ran kept = record {
  text = reply_text (reply_of c ran);
  told = reply_of c ran ∷ [];
  ran = paths_of ran;
  held = held h.folder kept c.hosts;
}

-- a compile that is refused leaves the kept runs too; the host's functions are then as the first calls left them
abbrev pub refused_turn : Setting → Held → Compiled → List (List ℕ) → ℕ → Turn Held Reply
refused_turn setting h c ran calls = record {
  text = memory_text;
  told = [];
  ran = ran;
  held = held h.folder h.kept (after_first setting c calls h.hosts);
}

-- a compile edits nothing
abbrev pub compile_turn : Setting → Held → List ℕ → List (List ℕ) → Mark → Turn Held Reply
compile_turn setting h entry paths Edited = record { text = []; told = []; ran = []; held = h }
compile_turn setting h entry paths (Answered ran kept) =
    answered_turn h (compiled setting h.folder paths entry h.hosts) ran kept
compile_turn setting h entry paths (Refused ran calls) =
    refused_turn setting h (compiled setting h.folder paths entry h.hosts) ran calls

-- what comes of one request
unfoldable pub turn_of : Setting → Held → Event → Mark → Turn Held Reply
turn_of setting h (Put path bytes) mark = edit_turn (over h) h.folder (after_put path bytes h.folder)
turn_of setting h (Remove path) mark = edit_turn (over h) h.folder (after_removal path h.folder)
turn_of setting h (Compile entry paths) mark = compile_turn setting h entry paths mark

abbrev pub IsEditMark : Mark → Type 0
IsEditMark Edited = ⊤
IsEditMark (Answered ran kept) = ⊥
IsEditMark (Refused ran calls) = ⊥

-- the bodies that an answered compile's mark tells of are the runs of its evaluation that are none of the kept ones, in
-- order, each with its cause, and its runs are the latest used then; a refused one made no more calls than its
-- evaluation
abbrev pub IsCompileMark : Setting → Held → List ℕ → List (List ℕ) → Mark → Type 0
IsCompileMark setting h entry paths Edited = ⊥
IsCompileMark setting h entry paths (Answered ran kept) =
    Ran (kept_in h.kept) (compiled setting h.folder paths entry h.hosts).runs ran
    × AreKept h.kept (compiled setting h.folder paths entry h.hosts).runs kept
IsCompileMark setting h entry paths (Refused ran calls) =
    calls ≤ length (compiled setting h.folder paths entry h.hosts).calls

abbrev pub IsMark : Setting → Held → Event → Mark → Type 0
IsMark setting h (Put path bytes) mark = IsEditMark mark
IsMark setting h (Remove path) mark = IsEditMark mark
IsMark setting h (Compile entry paths) mark = IsCompileMark setting h entry paths mark

-- a compile that was answered
abbrev pub IsAnswered : Mark → Type 0
IsAnswered Edited = ⊥
IsAnswered (Answered ran kept) = ⊤
IsAnswered (Refused ran calls) = ⊥

-- for want of memory the reply to a compile that was answered can be left out
abbrev pub IsLeft : Stop → Mark → Type 0
IsLeft Ended mark = ⊥
IsLeft Wrong mark = ⊥
IsLeft CutOff mark = ⊥
IsLeft SourceFailed mark = ⊥
IsLeft SinkFailed mark = ⊥
IsLeft Memory mark = IsAnswered mark
IsLeft OutsideFailed mark = ⊥
IsLeft Over mark = ⊥

abbrev pub session : Setting → Protocol Event Mark Held Reply
session setting = record {
  grammar = grammar;
  turn_of = turn_of setting;
  IsMark = IsMark setting;
  IsSaid = λ h event mark. ⊤;
  IsLeft = IsLeft;
}

-- what is free in a mark: what a refused compile ran, and how many calls it made
pub record Refusal : Type 0 where
  pub ran : List (List ℕ)
  pub calls : ℕ

abbrev pub refusal : Mark → Option Refusal
refusal Edited = None
refusal (Answered ran kept) = None
refusal (Refused ran calls) = Some (record { ran = ran; calls = calls })
