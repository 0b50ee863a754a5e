-- How the sending of a reply ends that isn't written whole. This project's own rule.
use Rattle.std.specs.Prelude.{◌≡◌, ℕ, List, [], ◌++◌, Option}
use Rattle.std.specs.Io.KnownBytes.{Appends}
use Rattle.sw_cmd_protocol.specs.declared.stop.Stop.{Stop}
use Rattle.sw_cmd_protocol.specs.declared.stop.Stop.TheVariants.{Ended, Wrong, CutOff, SourceFailed, SinkFailed, Memory, OutsideFailed, Over}

-- only a front of it was sent
abbrev pub IsCutShort : List ℕ → Option (List ℕ) → Option (List ℕ) → Type 0
IsCutShort reply written now =
    (front : List ℕ) × (back : List ℕ) × (reply ≡ front ++ back) × Appends written now front

-- the sink failed, or no memory was found for its text
abbrev pub SendEnds : Stop → List ℕ → Option (List ℕ) → Option (List ℕ) → Type 0
SendEnds Ended reply written now = ⊥
SendEnds Wrong reply written now = ⊥
SendEnds CutOff reply written now = ⊥
SendEnds SourceFailed reply written now = ⊥
SendEnds SinkFailed reply written now = IsCutShort reply written now
SendEnds Memory reply written now = Appends written now []
SendEnds OutsideFailed reply written now = ⊥
SendEnds Over reply written now = ⊥
