-- What is open at a place of raw text, as code keeps it.
use Rattle.sw_convert_lines.specs.declared.texts.Open.{Open}
use Rattle.sw_convert_lines.specs.declared.texts.Open.TheVariants as opens
use Rattle.sw_convert_alike.specs.RawText as raw

abbrev pub open_of : Open → raw.Open
open_of opens.Nothing = raw.Nothing
open_of opens.Run = raw.Run
open_of (opens.Escape digits) = raw.Escape digits
open_of opens.Returned = raw.Returned
open_of (opens.Text quote) = raw.String quote
open_of (opens.TextEscape quote) = raw.StringEscape quote
