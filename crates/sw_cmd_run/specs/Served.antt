-- What a poll did, by how it ended. This project's own rule.
use Rattle.std.specs.Prelude.{◌≡◌, ℕ, List, [], Option}
use Rattle.sw_io.specs.Disks.{Course}
use Rattle.sw_cmd_line.specs.Forms.{Target}
use Rattle.sw_modules.specs.Fresh.{Setting}
use Rattle.sw_record.specs.declared.reply.Reply.{Reply}
use Rattle.sw_cmd_protocol.specs.declared.stop.Stop.{Stop}
use Rattle.sw_cmd_protocol.specs.Endings.{status_of}
use Rattle.sw_cmd_protocol.specs.Script.{script}
use Rattle.sw_cmd_protocol.specs.Transcript.{turns}
use Rattle.sw_cmd_protocol.specs.Served as protocol
use Rattle.sw_cmd_protocol.specs.Heard.{Hearing, HeardBy}
use Rattle.sw_cmd_run.specs.Poll.{Held, held, grammar, poll}

-- what is around a poll: the bytes left in the source, those written into the sink, what the disk tells of the folder,
-- and the paths of the bodies that ran
pub record Surroundings : Type 0 where
  pub left : Option (List ℕ)
  pub written : Option (List ℕ)
  pub course : Option Course
  pub ran : List (List ℕ)

abbrev pub surroundings : Option (List ℕ) → Option (List ℕ) → Option Course → List (List ℕ) → Surroundings
surroundings left written course ran = record { left = left; written = written; course = course; ran = ran }

-- with this held inside
abbrev pub around : Surroundings → Held → protocol.Surroundings Held
around s inside = protocol.surroundings s.left s.written inside s.ran

-- with no kept run at first at most so many scans were answered; of what is held then the folder is seen
pub record Served (setting : Setting) (target : Target) (most : ℕ) (stop : Stop) (old new : Surroundings) : Type 0 where
  pub holds : Held
  pub course : new.course ≡ holds.course
  pub served : protocol.Served (poll setting) most stop (around old (held target old.course [])) (around new holds)

-- and the replies of the compiles that were answered were heard
pub record ServedAndHeard {State : Type 0} (setting : Setting) (target : Target) (hears : Hearing Reply State)
    (most : ℕ) (stop : Stop) (old new : Surroundings) (before now : State) : Type 0 where
  pub served : Served setting target most stop old new
  pub heard : HeardBy (poll setting) stop hears served.served.marks
      (turns (poll setting) (held target old.course []) (script grammar most served.served.taken).events
      served.served.marks) served.served.out before now

-- a poll of at most 1,000,000 scans ended with this status
abbrev pub ServedWith : {State : Type 0} → Setting → Target → Hearing Reply State → ℕ → Surroundings → Surroundings
    → State → State → Type 0
ServedWith setting target hears status old new before now =
    (stop : Stop) × (status ≡ status_of stop) × ServedAndHeard setting target hears 1000000 stop old new before now
