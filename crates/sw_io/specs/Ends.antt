-- Why a reader stopped short, by the bytes that it used.
use Rattle.std.specs.Prelude.{◌≡◌, ◌<◌, ◌≤◌, ℕ, List, [], ◌++◌, length, ⊤}
use Rattle.std.specs.declared.option.Option.{Option}
use Rattle.std.specs.Io.KnownBytes.{IsAtEnd}
use Rattle.sw_io.specs.Causes.{Rose}
use Rattle.sw_io.specs.declared.stop.ReadStop.{ReadStop}
use Rattle.sw_io.specs.declared.stop.ReadStop.TheVariants.{TooLong, Ended, Failed, Memory}
use Rattle.sw_io.specs.Lines.{Long, Unended, split_line}

-- what the used bytes are, where no line came
abbrev pub LineEnds : ReadStop → List ℕ → List ℕ → Option (List ℕ) → ℕ → ℕ → Type 0
LineEnds TooLong used ahead left before now = (rest : List ℕ) → split_line 1024 (used ++ rest) ≡ Long
LineEnds Ended used ahead left before now = (split_line 1024 used ≡ Unended) × (ahead ≡ []) × IsAtEnd left
LineEnds Failed used ahead left before now = (split_line 1024 used ≡ Unended) × (ahead ≡ []) × Rose before now
LineEnds Memory used ahead left before now = ⊤

-- what the used bytes are, where fewer came than were asked for
abbrev pub RunEnds : ReadStop → ℕ → List ℕ → List ℕ → Option (List ℕ) → ℕ → ℕ → Type 0
RunEnds TooLong count used ahead left before now = ⊥
RunEnds Ended count used ahead left before now = (length used < count) × (ahead ≡ []) × IsAtEnd left
RunEnds Failed count used ahead left before now = (length used < count) × (ahead ≡ []) × Rose before now
RunEnds Memory count used ahead left before now = ⊤

-- what the used bytes are, where not all came
abbrev pub RestEnds : ReadStop → ℕ → List ℕ → List ℕ → ℕ → ℕ → Type 0
RestEnds TooLong most used ahead before now = most < length used
RestEnds Ended most used ahead before now = ⊥
RestEnds Failed most used ahead before now = (length used ≤ most) × (ahead ≡ []) × Rose before now
RestEnds Memory most used ahead before now = ⊤
