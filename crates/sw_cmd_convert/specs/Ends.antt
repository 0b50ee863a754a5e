-- What the conversion of a sheet does, by how it ends. This project's own rule.
use Rattle.std.specs.Prelude.{◌≡◌, ◌<◌, ◌≤◌, ◌⊎◌, ℕ, List, [], length, Option}
use Rattle.std.specs.Str.{IsUtf8}
use Rattle.std.specs.Io.KnownBytes.{Appends, Consumes, IsAtEnd}
use Rattle.sw_cmd_line.specs.declared.syntax.Syntax.{Syntax}
use Rattle.sw_cmd_protocol.specs.Sending.{IsCutShort}
use Rattle.sw_cmd_protocol.specs.Statuses.{all_done, fault_told, wrong_line, source_failed, sink_failed, no_memory}
use Rattle.sw_cmd_convert.specs.declared.written.Written.{Written}
use Rattle.sw_cmd_convert.specs.declared.written.Written.TheVariants.{Whole, Refusal}
use Rattle.sw_cmd_convert.specs.Converted.{Reads, bytes_of, converted}
use Rattle.sw_cmd_convert.specs.declared.ending.Ending.{Ending}
use Rattle.sw_cmd_convert.specs.declared.ending.Ending.TheVariants.{Converted, Refused, NoText, SourceFailed, SinkFailed, Memory}

-- the most bytes that a sheet has
abbrev pub most_bytes : ℕ
most_bytes = 1048576

abbrev pub status_of : Ending → ℕ
status_of Converted = all_done
status_of Refused = fault_told
status_of NoText = wrong_line
status_of SourceFailed = source_failed
status_of SinkFailed = sink_failed
status_of Memory = no_memory

abbrev pub ending_of : Written → Ending
ending_of (Whole text) = Converted
ending_of (Refusal line) = Refused

-- what was written of this, by how it ended: all of it, a front of it, or nothing
abbrev pub EndsOf : Ending → Written → Option (List ℕ) → Option (List ℕ) → Type 0
EndsOf Converted whole written written_now = (text : List ℕ) × (whole ≡ Whole text) × Appends written written_now text
EndsOf Refused whole written written_now = (line : List ℕ) × (whole ≡ Refusal line) × Appends written written_now line
EndsOf NoText whole written written_now = ⊥
EndsOf SourceFailed whole written written_now = ⊥
EndsOf SinkFailed whole written written_now = IsCutShort (bytes_of whole) written written_now
EndsOf Memory whole written written_now = Appends written written_now []

-- the source gave all that it had left, a text that isn't too long, of which this is written
pub record Converts (reads : Reads) (from to : Syntax) (written : Written) (left left_now : Option (List ℕ)) : Type 0 where
  pub text : List ℕ
  pub given : Consumes left left_now text
  pub at_end : IsAtEnd left_now
  pub short : length text ≤ most_bytes
  pub utf8 : IsUtf8 text
  pub is : converted reads from to text ≡ written

-- what the source gave is too long, or it's all and no text
abbrev pub GivesNoText : Option (List ℕ) → Option (List ℕ) → Type 0
GivesNoText left left_now =
    (given : List ℕ) × Consumes left left_now given
    × ((most_bytes < length given) ⊎ (IsAtEnd left_now × ¬ IsUtf8 given))

abbrev pub Gives : Option (List ℕ) → Option (List ℕ) → Type 0
Gives left left_now = (given : List ℕ) × Consumes left left_now given

-- what was read and written, by how it ended: the whole text, the whole line, nothing, or a front of one of these
abbrev pub EndsBy : Ending → Reads → Syntax → Syntax → Option (List ℕ) → Option (List ℕ) → Option (List ℕ)
    → Option (List ℕ) → Type 0
EndsBy Converted reads from to left left_now written written_now =
    (text : List ℕ) × Converts reads from to (Whole text) left left_now × Appends written written_now text
EndsBy Refused reads from to left left_now written written_now =
    (line : List ℕ) × Converts reads from to (Refusal line) left left_now × Appends written written_now line
EndsBy NoText reads from to left left_now written written_now =
    GivesNoText left left_now × Appends written written_now []
EndsBy SourceFailed reads from to left left_now written written_now =
    Gives left left_now × Appends written written_now []
EndsBy SinkFailed reads from to left left_now written written_now =
    (whole : Written) × Converts reads from to whole left left_now × IsCutShort (bytes_of whole) written written_now
EndsBy Memory reads from to left left_now written written_now =
    Gives left left_now × Appends written written_now []
