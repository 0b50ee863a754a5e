-- What the reading of a put does, by how it ends.
use Rattle.std.specs.Prelude.{◌≡◌, ◌≢◌, ℕ, ◌≤◌, List, [], ◌∷◌, ◌++◌, length, ⊤, Option}
use Rattle.std.specs.Io.KnownBytes.{Appends, IsAtEnd}
use Rattle.sw_io.specs.Reads.{Reads}
use Rattle.sw_folder.specs.Files.{Files}
use Rattle.sw_folder.specs.Edits.{after_put, folder_after}
use Rattle.sw_wire.specs.Replies.{edit_text}
use Rattle.sw_cmd_protocol.specs.declared.stop.Stop.{Stop}
use Rattle.sw_cmd_protocol.specs.declared.stop.Stop.TheVariants.{Ended, Wrong, CutOff, SourceFailed, SinkFailed, Memory, OutsideFailed, Over}
use Rattle.sw_cmd_protocol.specs.Sending.{IsCutShort}
use Rattle.sw_cmd_protocol.specs.Turns.{Place, Uses}

-- how the reading of a put's bytes ends, without the line feed behind them
abbrev pub BodyEnds : Stop → ℕ → List ℕ → List ℕ → Option (List ℕ) → Type 0
BodyEnds Ended count used ahead left = ⊥
BodyEnds Wrong count used ahead left =
    (bytes : List ℕ) × (byte : ℕ) × (used ≡ bytes ++ byte ∷ []) × (length bytes ≡ count) × (byte ≢ 10)
BodyEnds CutOff count used ahead left = (length used ≤ count) × (ahead ≡ []) × IsAtEnd left
BodyEnds SourceFailed count used ahead left = (length used ≤ count) × (ahead ≡ [])
BodyEnds SinkFailed count used ahead left = ⊥
BodyEnds Memory count used ahead left = ⊤
BodyEnds OutsideFailed count used ahead left = ⊥
BodyEnds Over count used ahead left = ⊥

-- a put was judged over the folder, and this is its reply
pub record Judged (path bytes : List ℕ) (before after : Files) (said : List ℕ) : Type 0 where
  pub reply : said ≡ edit_text (after_put path bytes before)
  pub folder : after ≡ folder_after (after_put path bytes before) before

-- a put's bytes were read, and judged
pub record Puts (path : List ℕ) (count : ℕ) (ahead : List ℕ) (left : Option (List ℕ)) (before : Files)
    (ahead_now : List ℕ) (left_now : Option (List ℕ)) (after : Files) (said : List ℕ) : Type 0 where
  pub bytes : List ℕ
  pub uses : Reads ahead left (bytes ++ 10 ∷ []) ahead_now left_now
  pub long : length bytes ≡ count
  pub judged : Judged path bytes before after said

-- how a put ends that has no reply
abbrev pub PutEnds : Stop → ℕ → List ℕ → Option (List ℕ) → List ℕ → Option (List ℕ) → Type 0
PutEnds stop count ahead left ahead_now left_now =
    (used : List ℕ) × Reads ahead left used ahead_now left_now × BodyEnds stop count used ahead_now left_now

-- a put was carried out, and its reply was written
pub record PutAnswers (path : List ℕ) (count : ℕ) (old : Place) (before : Files) (new : Place) (after : Files) : Type 0
  where
    pub bytes : List ℕ
    pub uses : Uses old (bytes ++ 10 ∷ []) new
    pub long : length bytes ≡ count
    pub reply : List ℕ
    pub judged : Judged path bytes before after reply
    pub sends : Appends old.written new.written reply

-- a put was carried out, and a front of its reply was written
pub record PutBreaks (path : List ℕ) (count : ℕ) (old : Place) (before : Files) (new : Place) (after : Files) : Type 0
  where
    pub bytes : List ℕ
    pub uses : Uses old (bytes ++ 10 ∷ []) new
    pub long : length bytes ≡ count
    pub reply : List ℕ
    pub judged : Judged path bytes before after reply
    pub sends : IsCutShort reply old.written new.written
    pub near : length new.ahead ≤ 4096

-- a put's bytes didn't come whole, and the folder stayed
pub record BodyStops (stop : Stop) (count : ℕ) (old : Place) (before : Files) (new : Place) (after : Files) : Type 0
  where
    pub used : List ℕ
    pub uses : Uses old used new
    pub ends : BodyEnds stop count used new.ahead new.left
    pub sends : Appends old.written new.written []
    pub same : after ≡ before

-- how a put ends that isn't answered whole
abbrev pub PutStops : Stop → List ℕ → ℕ → Place → Files → Place → Files → Type 0
PutStops Ended path count old before new after = ⊥
PutStops Wrong path count old before new after = BodyStops Wrong count old before new after
PutStops CutOff path count old before new after = BodyStops CutOff count old before new after
PutStops SourceFailed path count old before new after = BodyStops SourceFailed count old before new after
PutStops SinkFailed path count old before new after = PutBreaks path count old before new after
PutStops Memory path count old before new after = BodyStops Memory count old before new after
PutStops OutsideFailed path count old before new after = ⊥
PutStops Over path count old before new after = ⊥
