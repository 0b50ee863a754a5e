-- How a request ends a session that answers no more.
use Rattle.sw_wire.specs.declared.request.Request.{Request}
use Rattle.sw_wire.specs.declared.request.Request.TheVariants.{Put, Remove, Compile, End}
use Rattle.sw_cmd_protocol.specs.declared.stop.Stop.{Stop}
use Rattle.sw_cmd_protocol.specs.declared.stop.Stop.TheVariants.{Ended, Over}

abbrev pub last_stop : Request → Stop
last_stop (Put path count) = Over
last_stop (Remove path) = Over
last_stop (Compile entry paths) = Over
last_stop End = Ended
