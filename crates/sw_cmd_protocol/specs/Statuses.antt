-- The statuses with which the program ends, by name. This project's own rule.
use Rattle.std.specs.Prelude.{ℕ}
use Rattle.sw_cmd_protocol.specs.declared.stop.Stop.TheVariants.{Ended, Wrong, CutOff, SourceFailed, SinkFailed, Memory, OutsideFailed, Over}
use Rattle.sw_cmd_protocol.specs.Endings.{status_of}

-- all that was asked for was done
abbrev pub all_done : ℕ
all_done = status_of Ended

-- the line of a fault of the sheets was written in the place of their CSS
abbrev pub fault_told : ℕ
fault_told = 1

-- a line was no request
abbrev pub wrong_line : ℕ
wrong_line = status_of Wrong

-- the input ended before the line `end`
abbrev pub input_cut_off : ℕ
input_cut_off = status_of CutOff

abbrev pub source_failed : ℕ
source_failed = status_of SourceFailed

abbrev pub sink_failed : ℕ
sink_failed = status_of SinkFailed

abbrev pub no_memory : ℕ
no_memory = status_of Memory

-- the words of the command line are in no command's form
abbrev pub no_command : ℕ
no_command = 7

-- what is asked beside the source failed, as the disk
abbrev pub outside_failed : ℕ
outside_failed = status_of OutsideFailed

-- one request more came than are answered
abbrev pub too_many : ℕ
too_many = status_of Over
