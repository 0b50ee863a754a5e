-- What one compile of a disk's folder gives, by how it ended. This project's own rule.
use Rattle.std.specs.Prelude.{◌≡◌, ℕ, List, [], ◌++◌, Option}
use Rattle.std.specs.Io.KnownBytes.{Appends}
use Rattle.sw_text.specs.declared.fault.Fault.{Fault}
use Rattle.sw_io.specs.Disks.{Course}
use Rattle.sw_folder.specs.Files.{Files}
use Rattle.sw_cmd_disk_folder.specs.Held.{IsRead, IsBrokenOff}
use Rattle.sw_cmd_line.specs.Forms.{Target}
use Rattle.sw_modules.specs.Fresh.{Setting}
use Rattle.sw_record.specs.declared.reply.Outcome.{Outcome}
use Rattle.sw_record.specs.declared.reply.Reply.{Reply}
use Rattle.sw_record.specs.declared.reply.Outcome.TheVariants.{Css, Error}
use Rattle.sw_record.specs.Ran.{none_kept, Ran}
use Rattle.sw_keeper.specs.Compile.{compiled, paths_of}
use Rattle.sw_wire.specs.Replies.{fault_text}
use Rattle.sw_cmd_protocol.specs.Heard.{Hearing}
use Rattle.sw_cmd_protocol.specs.Statuses.{all_done, fault_told, sink_failed, no_memory, outside_failed}
use Rattle.sw_cmd_disk_compile.specs.declared.ending.Ending.{Ending}
use Rattle.sw_cmd_disk_compile.specs.declared.ending.Ending.TheVariants.{Css as Css_end, Error as Error_end, SinkFailed, Memory, DiskFailed}

-- what is around a compile: what the disk tells of the folder, the bytes written, and the paths of the bodies that ran
pub record Surroundings : Type 0 where
  pub course : Option Course
  pub written : Option (List ℕ)
  pub ran : List (List ℕ)

abbrev pub surroundings : Option Course → Option (List ℕ) → List (List ℕ) → Surroundings
surroundings course written ran = record { course = course; written = written; ran = ran }

abbrev pub status_of : Ending → ℕ
status_of Css_end = all_done
status_of Error_end = fault_told
status_of SinkFailed = sink_failed
status_of Memory = no_memory
status_of DiskFailed = outside_failed

-- the CSS alone, or the line of the fault
abbrev pub text_of : Outcome → List ℕ
text_of (Css bytes) = bytes
text_of (Error fault) = fault_text fault

-- the folder was read, and this is the reply of its evaluation from nothing; the bodies of all its runs ran
pub record Compiles (setting : Setting) (target : Target) (reply : Reply) (old new : Surroundings) : Type 0 where
  pub folder : Files
  pub read : IsRead old.course new.course folder
  pub says : reply.says ≡ (compiled setting folder target.paths target.entry []).says
  pub outcome : reply.outcome ≡ (compiled setting folder target.paths target.entry []).outcome
  pub bodies : Ran none_kept (compiled setting folder target.paths target.entry []).runs reply.ran
  pub told : new.ran ≡ old.ran ++ paths_of reply.ran

-- what is to be written of an outcome was written, and then the whole reply was heard
pub record Writes {State : Type 0} (setting : Setting) (target : Target) (hears : Hearing Reply State)
    (outcome : Outcome) (old new : Surroundings) (before now : State) : Type 0 where
  pub reply : Reply
  pub compiles : Compiles setting target reply old new
  pub is : reply.outcome ≡ outcome
  pub sends : Appends old.written new.written (text_of outcome)
  pub heard : hears reply before now

-- a front of what is to be written was written
pub record Breaks (setting : Setting) (target : Target) (old new : Surroundings) : Type 0 where
  pub reply : Reply
  pub compiles : Compiles setting target reply old new
  pub front : List ℕ
  pub back : List ℕ
  pub parts : text_of reply.outcome ≡ front ++ back
  pub sends : Appends old.written new.written front

-- nothing was written; the bodies that ran are told
pub record Forgets (old new : Surroundings) : Type 0 where
  pub read : IsBrokenOff old.course new.course
  pub more : List (List ℕ)
  pub told : new.ran ≡ old.ran ++ more
  pub sends : Appends old.written new.written []

-- a front of these bytes was written
abbrev pub WritesFront : List ℕ → Option (List ℕ) → Option (List ℕ) → Type 0
WritesFront text written now =
    (front : List ℕ) × (back : List ℕ) × (text ≡ front ++ back) × Appends written now front

-- what is written of an outcome, by how that ends
abbrev pub WritesBy : Ending → Outcome → Option (List ℕ) → Option (List ℕ) → Type 0
WritesBy Css_end (Css bytes) written now = Appends written now bytes
WritesBy Css_end (Error fault) written now = ⊥
WritesBy Error_end (Css bytes) written now = ⊥
WritesBy Error_end (Error fault) written now = Appends written now (fault_text fault)
WritesBy SinkFailed outcome written now = WritesFront (text_of outcome) written now
WritesBy Memory outcome written now = Appends written now []
WritesBy DiskFailed outcome written now = ⊥

-- who hears of a reply, by how it ends: only what was written whole is told
abbrev pub HearsBy : {State : Type 0} → Ending → Hearing Reply State → Reply → State → State → Type 0
HearsBy Css_end hears reply before now = hears reply before now
HearsBy Error_end hears reply before now = hears reply before now
HearsBy SinkFailed hears reply before now = now ≡ before
HearsBy Memory hears reply before now = now ≡ before
HearsBy DiskFailed hears reply before now = now ≡ before

-- what was done, by how it ended
abbrev pub EndsBy : {State : Type 0} → Ending → Setting → Target → Hearing Reply State → Surroundings → Surroundings
    → State → State → Type 0
EndsBy Css_end setting target hears old new before now =
    (bytes : List ℕ) × Writes setting target hears (Css bytes) old new before now
EndsBy Error_end setting target hears old new before now =
    (fault : Fault) × Writes setting target hears (Error fault) old new before now
EndsBy SinkFailed setting target hears old new before now = Breaks setting target old new × (now ≡ before)
EndsBy Memory setting target hears old new before now = Forgets old new × (now ≡ before)
EndsBy DiskFailed setting target hears old new before now =
    Forgets old new × (new.ran ≡ old.ran) × (now ≡ before)
