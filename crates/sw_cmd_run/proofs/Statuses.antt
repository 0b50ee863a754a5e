-- Which endings a status tells of.
use Rattle.std.proofs.Common.{◌≡◌, ℕ, refl, arith}
use Rattle.sw_modules.specs.Fresh.{Setting}
use Rattle.sw_cmd_protocol.specs.declared.stop.Stop.{Stop}
use Rattle.sw_cmd_protocol.specs.declared.stop.Stop.TheVariants as stop
use Rattle.sw_record.specs.declared.reply.Reply.{Reply}
use Rattle.sw_cmd_protocol.specs.Heard.{Hearing}
use Rattle.sw_cmd_protocol.specs.Endings.{status_of as status_of_stop}
use Rattle.sw_cmd_protocol.specs.Statuses.{source_failed, sink_failed, outside_failed}
use Rattle.sw_cmd_session.specs.Served.{Surroundings, Served, ServedWith}
use Rattle.sw_cmd_disk_compile.specs.declared.ending.Ending.{Ending}
use Rattle.sw_cmd_disk_compile.specs.declared.ending.Ending.TheVariants.{Css, Error, SinkFailed, Memory, DiskFailed}
use Rattle.sw_cmd_disk_compile.specs.Once.{status_of}
use Rattle.sw_cmd_workload.specs.declared.ending.Ending.{Ending as Made}
use Rattle.sw_cmd_workload.specs.declared.ending.Ending.TheVariants as made
use Rattle.sw_cmd_workload.specs.Ends.{status_of as status_of_made}
use Rattle.sw_cmd_convert.specs.declared.ending.Ending.{Ending as Conversion}
use Rattle.sw_cmd_convert.specs.declared.ending.Ending.TheVariants as converted
use Rattle.sw_cmd_convert.specs.Ends.{status_of as status_of_converted}

no_outside_by : (setting : Setting) (s : Stop) (old new : Surroundings) → outside_failed ≡ status_of_stop s → Served setting 1000000 s old new → ⊥
no_outside_by setting stop.Ended old new e s = omega arith
no_outside_by setting stop.Wrong old new e s = omega arith
no_outside_by setting stop.CutOff old new e s = omega arith
no_outside_by setting stop.SourceFailed old new e s = omega arith
no_outside_by setting stop.SinkFailed old new e s = omega arith
no_outside_by setting stop.Memory old new e s = omega arith
no_outside_by setting stop.OutsideFailed old new e s = s.served.tells.left
no_outside_by setting stop.Over old new e s = omega arith

-- no session ends with the status of a disk that failed
pub no_outside : {State : Type 0} (setting : Setting) (hears : Hearing Reply State) (status : ℕ) (old new : Surroundings) (before now : State)
    → ServedWith setting hears status old new before now → status ≡ outside_failed → ⊥
no_outside setting hears status old new before now (s, is, served) e = let told : outside_failed ≡ status_of_stop s = cc in no_outside_by setting s old new told served.served

-- the statuses of one compile
pub of_sink : (ending : Ending) → status_of ending ≡ sink_failed → ending ≡ SinkFailed
of_sink Css e = absurd (omega arith)
of_sink Error e = absurd (omega arith)
of_sink SinkFailed e = refl
of_sink Memory e = absurd (omega arith)
of_sink DiskFailed e = absurd (omega arith)

pub of_disk : (ending : Ending) → status_of ending ≡ outside_failed → ending ≡ DiskFailed
of_disk Css e = absurd (omega arith)
of_disk Error e = absurd (omega arith)
of_disk SinkFailed e = absurd (omega arith)
of_disk Memory e = absurd (omega arith)
of_disk DiskFailed e = refl

pub not_source : (ending : Ending) → status_of ending ≡ source_failed → ⊥
not_source Css e = omega arith
not_source Error e = omega arith
not_source SinkFailed e = omega arith
not_source Memory e = omega arith
not_source DiskFailed e = omega arith

-- the statuses of a made workload
pub of_made_sink : (ending : Made) → status_of_made ending ≡ sink_failed → ending ≡ made.SinkFailed
of_made_sink made.Summed e = absurd (omega arith)
of_made_sink made.SinkFailed e = refl
of_made_sink made.Memory e = absurd (omega arith)

pub made_not_source : (ending : Made) → status_of_made ending ≡ source_failed → ⊥
made_not_source made.Summed e = omega arith
made_not_source made.SinkFailed e = omega arith
made_not_source made.Memory e = omega arith

pub made_not_disk : (ending : Made) → status_of_made ending ≡ outside_failed → ⊥
made_not_disk made.Summed e = omega arith
made_not_disk made.SinkFailed e = omega arith
made_not_disk made.Memory e = omega arith

-- the statuses of a conversion
pub of_converted_source : (ending : Conversion) → status_of_converted ending ≡ source_failed → ending ≡ converted.SourceFailed
of_converted_source converted.Converted e = absurd (omega arith)
of_converted_source converted.Refused e = absurd (omega arith)
of_converted_source converted.NoText e = absurd (omega arith)
of_converted_source converted.SourceFailed e = refl
of_converted_source converted.SinkFailed e = absurd (omega arith)
of_converted_source converted.Memory e = absurd (omega arith)

pub of_converted_sink : (ending : Conversion) → status_of_converted ending ≡ sink_failed → ending ≡ converted.SinkFailed
of_converted_sink converted.Converted e = absurd (omega arith)
of_converted_sink converted.Refused e = absurd (omega arith)
of_converted_sink converted.NoText e = absurd (omega arith)
of_converted_sink converted.SourceFailed e = absurd (omega arith)
of_converted_sink converted.SinkFailed e = refl
of_converted_sink converted.Memory e = absurd (omega arith)

pub converted_not_disk : (ending : Conversion) → status_of_converted ending ≡ outside_failed → ⊥
converted_not_disk converted.Converted e = omega arith
converted_not_disk converted.Refused e = omega arith
converted_not_disk converted.NoText e = omega arith
converted_not_disk converted.SourceFailed e = omega arith
converted_not_disk converted.SinkFailed e = omega arith
converted_not_disk converted.Memory e = omega arith
