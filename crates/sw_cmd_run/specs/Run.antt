-- What the program does, by the words of its command line. This project's own rule.
use Rattle.std.specs.Prelude.{◌≡◌, ℕ, List, [], Option, None, Some}
use Rattle.sw_io.specs.Disks.{Course}
use Rattle.sw_cmd_line.specs.Forms.{Form, Target, Session, Hosted, Steps, Once, Poll, Make, Convert}
use Rattle.sw_world.specs.Hosts.{HostState}
use Rattle.sw_world.specs.Body.{BodyOf}
use Rattle.sw_modules.specs.Outside.{Functions}
use Rattle.sw_modules.specs.Fresh.{Setting}
use Rattle.sw_record.specs.declared.reply.Reply.{Reply}
use Rattle.sw_cmd_protocol.specs.Heard.{Hearing}
use Rattle.sw_cmd_protocol.specs.Statuses.{no_command}
use Rattle.sw_cmd_session.specs.Sheets.{hosted, hostless}
use Rattle.sw_cmd_session.specs.Served as session
use Rattle.sw_cmd_steps.specs.Served as steps
use Rattle.sw_cmd_disk_compile.specs.declared.ending.Ending.{Ending}
use Rattle.sw_cmd_disk_compile.specs.Once as once
use Rattle.sw_cmd_workload.specs.declared.ending.Ending.{Ending as Made}
use Rattle.sw_cmd_workload.specs.Ends as make
use Rattle.sw_cmd_line.specs.declared.syntax.Syntax.{Syntax}
use Rattle.sw_parse_file.specs.Files.{sheet_at}
use Rattle.sw_cmd_convert.specs.declared.ending.Ending.{Ending as Conversion}
use Rattle.sw_cmd_convert.specs.Ends as convert
use Rattle.sw_cmd_run.specs.Served as poll

-- what is around the program: the bytes left in the source, those written into the sink, what the disk tells of each
-- folder, the paths of the bodies that ran, and what the host's functions are
pub record Surroundings : Type 0 where
  pub left : Option (List ℕ)
  pub written : Option (List ℕ)
  pub course : List ℕ → Option Course
  pub ran : List (List ℕ)
  pub hosts : HostState

abbrev pub surroundings : Option (List ℕ) → Option (List ℕ) → (List ℕ → Option Course) → List (List ℕ) → HostState
    → Surroundings
surroundings left written course ran hosts =
    record { left = left; written = written; course = course; ran = ran; hosts = hosts }

-- nothing was read, written, run or called
pub record DoesNothing (status : ℕ) (old new : Surroundings) : Type 0 where
  pub tells : status ≡ no_command
  pub left : new.left ≡ old.left
  pub written : new.written ≡ old.written
  pub course : new.course ≡ old.course
  pub ran : new.ran ≡ old.ran
  pub hosts : new.hosts ≡ old.hosts

-- a session without functions of a host, in which the disk isn't asked
pub record Serves {State : Type 0} (setting : Setting) (hears : Hearing Reply State) (status : ℕ)
    (old new : Surroundings) (before now : State) : Type 0 where
  pub served : session.ServedWith setting hears status (session.surroundings old.left old.written old.ran [])
      (session.surroundings new.left new.written new.ran []) before now
  pub course : new.course ≡ old.course
  pub hosts : new.hosts ≡ old.hosts

-- a session with the functions of the host, in which the disk isn't asked
pub record ServesHosted {State : Type 0} (setting : Setting) (hears : Hearing Reply State) (status : ℕ)
    (old new : Surroundings) (before now : State) : Type 0 where
  pub served : session.ServedWith setting hears status
      (session.surroundings old.left old.written old.ran old.hosts)
      (session.surroundings new.left new.written new.ran new.hosts) before now
  pub course : new.course ≡ old.course

-- compiles that go on by steps, in which the disk isn't asked and nobody is told of a reply
pub record ServesSteps {State : Type 0} (setting : Setting) (status : ℕ) (old new : Surroundings) (before now : State) :
    Type 0 where
  pub served : steps.ServedWith setting status (steps.surroundings old.left old.written old.ran)
      (steps.surroundings new.left new.written new.ran)
  pub unheard : now ≡ before
  pub course : new.course ≡ old.course
  pub hosts : new.hosts ≡ old.hosts

-- one compile of a disk's folder, without a look at the source
pub record CompilesOnce {State : Type 0} (setting : Setting) (target : Target) (hears : Hearing Reply State)
    (status : ℕ) (old new : Surroundings) (before now : State) : Type 0 where
  pub ending : Ending
  pub ends : once.EndsBy ending setting target hears
      (once.surroundings (old.course target.dir) old.written old.ran)
      (once.surroundings (new.course target.dir) new.written new.ran) before now
  pub tells : status ≡ once.status_of ending
  pub left : new.left ≡ old.left
  pub hosts : new.hosts ≡ old.hosts

-- a poll of a disk's folder
pub record Polls {State : Type 0} (setting : Setting) (target : Target) (hears : Hearing Reply State) (status : ℕ)
    (old new : Surroundings) (before now : State) : Type 0 where
  pub served : poll.ServedWith setting target hears status
      (poll.surroundings old.left old.written (old.course target.dir) old.ran)
      (poll.surroundings new.left new.written (new.course target.dir) new.ran) before now
  pub hosts : new.hosts ≡ old.hosts

-- a made workload, without a look at the source or the disk
pub record Makes {State : Type 0} (setting : Setting) (number : ℕ) (hears : Hearing Reply State) (status : ℕ)
    (old new : Surroundings) (before now : State) : Type 0 where
  pub ending : Made
  pub ends : make.EndsBy ending setting number hears (make.standing old.ran before) (make.standing new.ran now)
      old.written new.written
  pub tells : status ≡ make.status_of ending
  pub left : new.left ≡ old.left
  pub course : new.course ≡ old.course
  pub hosts : new.hosts ≡ old.hosts

-- a sheet of the first syntax is written in the second one, without a look at the disk; nothing runs, and nobody is told
pub record ConvertsSheet {State : Type 0} (from to : Syntax) (status : ℕ) (old new : Surroundings)
    (before now : State) : Type 0 where
  pub ending : Conversion
  pub ends : convert.EndsBy ending sheet_at from to old.left new.left old.written new.written
  pub tells : status ≡ convert.status_of ending
  pub unheard : now ≡ before
  pub course : new.course ≡ old.course
  pub ran : new.ran ≡ old.ran
  pub hosts : new.hosts ≡ old.hosts

-- the words are in this form, and this came of them, with these bodies and these functions of a host; words in no form
-- have a status of their own
abbrev pub Runs : {State : Type 0} → BodyOf → Functions → Hearing Reply State → Option Form → ℕ → Surroundings
    → Surroundings → State → State → Type 0
Runs body host hears None status old new before now = DoesNothing status old new × (now ≡ before)
Runs body host hears (Some Session) status old new before now =
    Serves (hostless body) hears status old new before now
Runs body host hears (Some Hosted) status old new before now =
    ServesHosted (hosted body host) hears status old new before now
Runs body host hears (Some Steps) status old new before now =
    ServesSteps (hostless body) status old new before now
Runs body host hears (Some (Once target)) status old new before now =
    CompilesOnce (hostless body) target hears status old new before now
Runs body host hears (Some (Poll target)) status old new before now =
    Polls (hostless body) target hears status old new before now
Runs body host hears (Some (Make number)) status old new before now =
    Makes (hostless body) number hears status old new before now
Runs body host hears (Some (Convert from to)) status old new before now =
    ConvertsSheet from to status old new before now
