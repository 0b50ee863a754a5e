-- What was done of a made workload, by how it ended. This project's own rule.
use Rattle.std.specs.Prelude.{◌≡◌, ℕ, ◌≤◌, List, [], ◌++◌, Option}
use Rattle.std.specs.Io.KnownBytes.{Appends}
use Rattle.sw_modules.specs.Fresh.{Setting}
use Rattle.sw_record.specs.declared.reply.Reply.{Reply}
use Rattle.sw_cmd_protocol.specs.Heard.{Hearing, HearsAll}
use Rattle.sw_cmd_protocol.specs.Statuses.{all_done, sink_failed, no_memory}
use Rattle.sw_cmd_workload.specs.declared.ending.Ending.{Ending}
use Rattle.sw_cmd_workload.specs.declared.ending.Ending.TheVariants.{Summed, SinkFailed, Memory}
use Rattle.sw_cmd_workload.specs.declared.tally.Tally.{Tally}
use Rattle.sw_cmd_workload.specs.Made.{AreReplies, bodies_in, css_after, paths_in, summary_of}

abbrev pub status_of : Ending → ℕ
status_of Summed = all_done
status_of SinkFailed = sink_failed
status_of Memory = no_memory

-- what is around a workload: the paths of the bodies that ran, and what was heard
pub record Standing (State : Type 0) : Type 0 where
  pub ran : List (List ℕ)
  pub heard : State

abbrev pub standing : {State : Type 0} → List (List ℕ) → State → Standing State
standing ran heard = record { ran = ran; heard = heard }

-- so many compiles were answered, the engine tells of their bodies, and their replies were heard in order
pub record Compiles {State : Type 0} (setting : Setting) (number turns : ℕ) (hears : Hearing Reply State)
    (before now : Standing State) : Type 0 where
  pub replies : List Reply
  pub are : AreReplies setting number turns replies
  pub told : now.ran ≡ before.ran ++ paths_in replies
  pub heard : HearsAll hears replies before.heard now.heard

-- and this was counted of them
pub record Counts {State : Type 0} (setting : Setting) (number turns : ℕ) (hears : Hearing Reply State)
    (tally : Tally) (before now : Standing State) : Type 0 where
  pub compiles : Compiles setting number turns hears before now
  pub ran : tally.ran ≡ bodies_in compiles.replies
  pub css : tally.css ≡ css_after 0 compiles.replies

-- the replies to the first compiles were heard; some bodies more may have run
pub record BreaksOff {State : Type 0} (setting : Setting) (number : ℕ) (hears : Hearing Reply State)
    (before now : Standing State) : Type 0 where
  pub turns : ℕ
  pub few : turns ≤ 51
  pub replies : List Reply
  pub are : AreReplies setting number turns replies
  pub more : List (List ℕ)
  pub told : now.ran ≡ before.ran ++ paths_in replies ++ more
  pub heard : HearsAll hears replies before.heard now.heard

-- all compiles were answered, and their summary was written
pub record Sums {State : Type 0} (setting : Setting) (number : ℕ) (hears : Hearing Reply State)
    (before now : Standing State) (written written_now : Option (List ℕ)) : Type 0 where
  pub compiles : Compiles setting number 51 hears before now
  pub sends : Appends written written_now (summary_of number compiles.replies)

-- all compiles were answered, and a front of their summary was written
pub record SumsFront {State : Type 0} (setting : Setting) (number : ℕ) (hears : Hearing Reply State)
    (before now : Standing State) (written written_now : Option (List ℕ)) : Type 0 where
  pub compiles : Compiles setting number 51 hears before now
  pub front : List ℕ
  pub back : List ℕ
  pub parts : summary_of number compiles.replies ≡ front ++ back
  pub sends : Appends written written_now front

-- what was done; without memory nothing is written
abbrev pub EndsBy : {State : Type 0} → Ending → Setting → ℕ → Hearing Reply State → Standing State → Standing State
    → Option (List ℕ) → Option (List ℕ) → Type 0
EndsBy Summed setting number hears before now written written_now =
    Sums setting number hears before now written written_now
EndsBy SinkFailed setting number hears before now written written_now =
    SumsFront setting number hears before now written written_now
EndsBy Memory setting number hears before now written written_now =
    BreaksOff setting number hears before now × Appends written written_now []

-- what was written of a summary, by how it ended
abbrev pub WritesBy : Ending → List ℕ → Option (List ℕ) → Option (List ℕ) → Type 0
WritesBy Summed text written now = Appends written now text
WritesBy SinkFailed text written now =
    (front : List ℕ) × (back : List ℕ) × (text ≡ front ++ back) × Appends written now front
WritesBy Memory text written now = Appends written now []
