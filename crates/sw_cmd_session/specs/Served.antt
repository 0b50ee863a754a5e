-- What a session did, by how it ended. This project's own rule.
use Rattle.std.specs.Prelude.{◌≡◌, ℕ, List, [], Option}
use Rattle.std.specs.FinMap.{empty}
use Rattle.sw_world.specs.Hosts.{HostState}
use Rattle.sw_modules.specs.Fresh.{Setting}
use Rattle.sw_record.specs.declared.reply.Reply.{Reply}
use Rattle.sw_cmd_protocol.specs.declared.stop.Stop.{Stop}
use Rattle.sw_cmd_protocol.specs.Script.{script}
use Rattle.sw_cmd_protocol.specs.Endings.{status_of}
use Rattle.sw_cmd_protocol.specs.Transcript.{turns}
use Rattle.sw_cmd_protocol.specs.Served as protocol
use Rattle.sw_cmd_protocol.specs.Heard.{Hearing, HeardBy}
use Rattle.sw_cmd_session.specs.Script.{grammar}
use Rattle.sw_cmd_session.specs.Transcript.{Held, held, session}

-- what is around a session: the bytes left in the source, those written into the sink, the paths of the bodies that
-- ran, and what the host's functions are
pub record Surroundings : Type 0 where
  pub left : Option (List ℕ)
  pub written : Option (List ℕ)
  pub ran : List (List ℕ)
  pub hosts : HostState

abbrev pub surroundings : Option (List ℕ) → Option (List ℕ) → List (List ℕ) → HostState → Surroundings
surroundings left written ran hosts = record { left = left; written = written; ran = ran; hosts = hosts }

-- what a session holds at first: no file, and no kept run
abbrev pub nothing_held : HostState → Held
nothing_held hosts = held empty [] hosts

-- with this held inside
abbrev pub around : Surroundings → Held → protocol.Surroundings Held
around s inside = protocol.surroundings s.left s.written inside s.ran

-- from an empty folder and no kept run at most so many requests were answered; of what is held then the host's
-- functions are seen
pub record Served (setting : Setting) (most : ℕ) (stop : Stop) (old new : Surroundings) : Type 0 where
  pub holds : Held
  pub hosts : new.hosts ≡ holds.hosts
  pub served : protocol.Served (session setting) most stop (around old (nothing_held old.hosts)) (around new holds)

-- and the replies of the compiles that were answered were heard
pub record ServedAndHeard {State : Type 0} (setting : Setting) (hears : Hearing Reply State) (most : ℕ) (stop : Stop)
    (old new : Surroundings) (before now : State) : Type 0 where
  pub served : Served setting most stop old new
  pub heard : HeardBy (session setting) stop hears served.served.marks
      (turns (session setting) (nothing_held old.hosts) (script grammar most served.served.taken).events
      served.served.marks) served.served.out before now

-- a session of at most 1,000,000 requests ended with this status
abbrev pub ServedWith : {State : Type 0} → Setting → Hearing Reply State → ℕ → Surroundings → Surroundings → State
    → State → Type 0
ServedWith setting hears status old new before now =
    (stop : Stop) × (status ≡ status_of stop) × ServedAndHeard setting hears 1000000 stop old new before now
