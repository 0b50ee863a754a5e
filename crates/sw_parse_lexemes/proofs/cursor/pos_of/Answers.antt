use Rattle.std.proofs.Common.{ap}
use Rattle.sw_text.specs.Places.{Place}
use Rattle.sw_text.specs.declared.place.Pos.{Pos}
use Rattle.sw_parse_lexemes.proofs.cursor.pos_of.Goals as goal

abbrev pos_of : Place → Pos
pos_of place = record { line = place.line; column = place.column }

pub returns-then-offset-lt4294967295 : goal.returns-then-offset-lt4294967295
returns-then-offset-lt4294967295 c = rw c.args.text.now.whole at (ap pos_of c.requires.stands.place)
