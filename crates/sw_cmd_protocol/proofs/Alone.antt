-- Where nothing is asked beside the source.
use Rattle.std.proofs.Common.{ℕ, ◌⊎◌, inl, inr}
use Rattle.sw_cmd_protocol.specs.declared.stop.Stop.{Stop}
use Rattle.sw_cmd_protocol.specs.declared.stop.Stop.TheVariants.{Ended, Wrong, CutOff, SourceFailed, SinkFailed, Memory, OutsideFailed, Over as Over_stop}
use Rattle.sw_cmd_protocol.specs.Protocol.{Protocol}
use Rattle.sw_cmd_protocol.specs.Served.{Surroundings, Served}
use Rattle.sw_cmd_protocol.specs.Endings.{IsBrokenOff, IsBrokenOffAlone}

-- only the source, the sink or want of memory breaks the answers off
pub alone : {Event Mark Held Reply A : Type 0} (p : Protocol Event Mark Held Reply) (most : ℕ) → ((mark : Mark) → p.IsLeft OutsideFailed mark → ⊥) → (stop : Stop) (old new : Surroundings Held)
    → Served p most stop old new → IsBrokenOff stop ⊎ A → IsBrokenOffAlone stop ⊎ A
alone p most none stop old new s (inr a) = inr a
alone p most none Ended old new s (inl b) = absurd b
alone p most none Wrong old new s (inl b) = absurd b
alone p most none CutOff old new s (inl b) = absurd b
alone p most none SourceFailed old new s (inl b) = inl tt
alone p most none SinkFailed old new s (inl b) = inl tt
alone p most none Memory old new s (inl b) = inl tt
alone p most none OutsideFailed old new s (inl b) = absurd (none s.tells.mark s.tells.left)
alone p most none Over_stop old new s (inl b) = absurd b
