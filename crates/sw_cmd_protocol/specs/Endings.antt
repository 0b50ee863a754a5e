-- Why requests are answered no more, and with which number. This project's own rule.
use Rattle.std.specs.Prelude.{◌≡◌, ℕ, Option, None, ⊤}
use Rattle.sw_cmd_protocol.specs.declared.stop.Stop.{Stop}
use Rattle.sw_cmd_protocol.specs.declared.stop.Stop.TheVariants.{Ended, Wrong, CutOff, SourceFailed, SinkFailed, Memory, OutsideFailed, Over as Over_stop}
use Rattle.sw_io.specs.declared.stop.ReadStop.{ReadStop}
use Rattle.sw_io.specs.declared.stop.ReadStop.TheVariants.{TooLong as Read_TooLong, Ended as Read_Ended, Failed as Read_Failed, Memory as Read_Memory}
use Rattle.sw_cmd_protocol.specs.Script.{Ending, End, Bad, Over, Cut}

abbrev pub status_of : Stop → ℕ
status_of Ended = 0
status_of Wrong = 2
status_of CutOff = 3
status_of SourceFailed = 4
status_of SinkFailed = 5
status_of Memory = 6
status_of OutsideFailed = 8
status_of Over_stop = 9

-- how a reader's stop ends the answers
abbrev pub stop_of : ReadStop → Stop
stop_of Read_TooLong = Wrong
stop_of Read_Ended = CutOff
stop_of Read_Failed = SourceFailed
stop_of Read_Memory = Memory

-- the stop that a script's ending calls for
abbrev pub stop_at : Ending → Stop
stop_at End = Ended
stop_at Bad = Wrong
stop_at Over = Over_stop
stop_at Cut = CutOff

-- how a line ends where no request is answered any more: as its meaning says, or for want of memory
abbrev pub LastLine : Stop → Ending → Type 0
LastLine Ended ending = ending ≡ End
LastLine Wrong ending = ending ≡ Bad
LastLine CutOff ending = ⊥
LastLine SourceFailed ending = ⊥
LastLine SinkFailed ending = ⊥
LastLine Memory ending = ⊤
LastLine OutsideFailed ending = ⊥
LastLine Over_stop ending = ending ≡ Over

-- how a line ends the answers from which no request was read
abbrev pub LineStops : {Request : Type 0} → Stop → Option Request → Type 0
LineStops Ended said = ⊥
LineStops Wrong said = said ≡ None
LineStops CutOff said = ⊥
LineStops SourceFailed said = ⊥
LineStops SinkFailed said = ⊥
LineStops Memory said = ⊤
LineStops OutsideFailed said = ⊥
LineStops Over_stop said = ⊥

-- a fault or want of memory
abbrev pub IsBrokenOff : Stop → Type 0
IsBrokenOff Ended = ⊥
IsBrokenOff Wrong = ⊥
IsBrokenOff CutOff = ⊥
IsBrokenOff SourceFailed = ⊤
IsBrokenOff SinkFailed = ⊤
IsBrokenOff Memory = ⊤
IsBrokenOff OutsideFailed = ⊤
IsBrokenOff Over_stop = ⊥

-- a fault of the source or the sink, or want of memory, where nothing else is asked
abbrev pub IsBrokenOffAlone : Stop → Type 0
IsBrokenOffAlone Ended = ⊥
IsBrokenOffAlone Wrong = ⊥
IsBrokenOffAlone CutOff = ⊥
IsBrokenOffAlone SourceFailed = ⊤
IsBrokenOffAlone SinkFailed = ⊤
IsBrokenOffAlone Memory = ⊤
IsBrokenOffAlone OutsideFailed = ⊥
IsBrokenOffAlone Over_stop = ⊥
