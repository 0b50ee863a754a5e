-- The requests of a poll, and what comes of each. This project's own rule.
use Rattle.std.specs.Prelude.{ℕ, List, [], ◌∷◌, codes, bytes_eq, if◌then◌else◌, Option, ⊤}
use Rattle.sw_io.specs.Disks.{Course}
use Rattle.sw_folder.specs.Files.{Files}
use Rattle.sw_cmd_disk_folder.specs.Held.{IsRead, IsBrokenOff}
use Rattle.sw_cmd_line.specs.Forms.{Target}
use Rattle.sw_wire.specs.Replies.{reply_text, memory_text}
use Rattle.sw_modules.specs.Fresh.{Setting}
use Rattle.sw_record.specs.declared.reply.Cause.{Cause}
use Rattle.sw_record.specs.declared.reply.Reply.{Reply}
use Rattle.sw_record.specs.Ran.{Ran}
use Rattle.sw_keeper.specs.Compile.{Compile as Compiled, compiled, paths_of}
use Rattle.sw_keeper.specs.Keeping.{Table, kept_in, AreKept}
use Rattle.sw_cmd_protocol.specs.declared.stop.Stop.{Stop}
use Rattle.sw_cmd_protocol.specs.declared.stop.Stop.TheVariants.{Ended, Wrong, CutOff, SourceFailed, SinkFailed, Memory, OutsideFailed, Over as Over_stop}
use Rattle.sw_cmd_protocol.specs.Script.{Next, Whole, Closing, NoRequest, Ending, End, Bad, Over, Grammar}
use Rattle.sw_cmd_protocol.specs.Protocol.{Protocol, Turn}
use Rattle.sw_cmd_session.specs.Transcript.{reply_of}
use Rattle.sw_cmd_run.specs.declared.word.Word.{Word}
use Rattle.sw_cmd_run.specs.declared.word.Word.TheVariants as word

-- the one request: the folder is to be read and compiled
pub data Event : Type 0 where
  Scan : Event

abbrev pub word_of : List ℕ → Word
word_of line =
    if bytes_eq line (codes "scan") then word.Scan else if bytes_eq line (codes "end") then word.End else word.Other

-- what a line asks for; nothing stands behind it
abbrev pub front_by : Word → List ℕ → Next Event
front_by word.Scan rest = Whole Scan rest
front_by word.End rest = Closing
front_by word.Other rest = NoRequest

-- how a line ends a poll where no scan is answered any more
abbrev pub last_by : Word → Ending
last_by word.Scan = Over
last_by word.End = End
last_by word.Other = Bad

abbrev pub grammar : Grammar Event
grammar = record { front = λ line rest. front_by (word_of line) rest; last = λ line. last_by (word_of line) }

-- what a poll holds between two scans: what is compiled, what the disk tells of the folder, and the runs that are kept
pub record Held : Type 0 where
  pub target : Target
  pub course : Option Course
  pub kept : Table

abbrev pub held : Target → Option Course → Table → Held
held target course kept = record { target = target; course = course; kept = kept }

-- what follows of a scan from no definition: what the disk tells of the folder then, and what the readings gave where
-- it tells nothing. A compile was answered: these bodies ran, each for its cause, and these runs are kept from then on;
-- it was refused for want of memory after these bodies ran; or the reading broke off
pub data Mark : Type 0 where
  Answered : (course : Option Course) → (folder : Files) → (ran : List (List ℕ × Cause)) → (kept : Table) → Mark
  Refused : (course : Option Course) → (folder : Files) → (ran : List (List ℕ)) → Mark
  Unread : (course : Option Course) → Mark

-- the compile of what is held then, over these files
abbrev pub compiled_of : Setting → Held → Files → Compiled
compiled_of setting h folder = compiled setting folder h.target.paths h.target.entry []

abbrev pub answered_turn : Held → Option Course → Compiled → List (List ℕ × Cause) → Table → Turn Held Reply
answered_turn h course c ran kept = record {
  text = reply_text (reply_of c ran);
  told = reply_of c ran ∷ [];
  ran = paths_of ran;
  held = held h.target course kept;
}

abbrev pub refused_turn : Held → Option Course → List (List ℕ) → Turn Held Reply
refused_turn h course ran = record { text = memory_text; told = []; ran = ran; held = held h.target course h.kept }

abbrev pub unread_turn : Held → Option Course → Turn Held Reply
unread_turn h course = record { text = []; told = []; ran = []; held = held h.target course h.kept }

unfoldable pub turn_of : Setting → Held → Event → Mark → Turn Held Reply
turn_of setting h Scan (Answered course folder ran kept) =
    answered_turn h course (compiled_of setting h folder) ran kept
turn_of setting h Scan (Refused course folder ran) = refused_turn h course ran
turn_of setting h Scan (Unread course) = unread_turn h course

-- the folder is the one that was read; the bodies that an answered compile's mark tells of are the runs of its
-- evaluation that are none of the kept ones, in order, each with its cause, and its runs are the latest used then
abbrev pub IsMark : Setting → Held → Event → Mark → Type 0
IsMark setting h Scan (Answered course folder ran kept) =
    IsRead h.course course folder × Ran (kept_in h.kept) (compiled_of setting h folder).runs ran
    × AreKept h.kept (compiled_of setting h folder).runs kept
IsMark setting h Scan (Refused course folder ran) = IsRead h.course course folder
IsMark setting h Scan (Unread course) = IsBrokenOff h.course course

abbrev pub IsSaid : Held → Event → Mark → Type 0
IsSaid h event (Answered course folder ran kept) = ⊤
IsSaid h event (Refused course folder ran) = ⊤
IsSaid h event (Unread course) = ⊥

abbrev pub IsUnread : Mark → Type 0
IsUnread (Answered course folder ran kept) = ⊥
IsUnread (Refused course folder ran) = ⊥
IsUnread (Unread course) = ⊤

abbrev pub IsNotRefused : Mark → Type 0
IsNotRefused (Answered course folder ran kept) = ⊤
IsNotRefused (Refused course folder ran) = ⊥
IsNotRefused (Unread course) = ⊤

-- where the disk failed the reading broke off; for want of memory it did too, or the reply to an answered compile was
-- left out
abbrev pub IsLeft : Stop → Mark → Type 0
IsLeft Ended mark = ⊥
IsLeft Wrong mark = ⊥
IsLeft CutOff mark = ⊥
IsLeft SourceFailed mark = ⊥
IsLeft SinkFailed mark = ⊥
IsLeft Memory mark = IsNotRefused mark
IsLeft OutsideFailed mark = IsUnread mark
IsLeft Over_stop mark = ⊥

abbrev pub poll : Setting → Protocol Event Mark Held Reply
poll setting = record {
  grammar = grammar;
  turn_of = turn_of setting;
  IsMark = IsMark setting;
  IsSaid = IsSaid;
  IsLeft = IsLeft;
}
