use Rattle.std.proofs.Common.{◌≡◌, ◌+◌, ◌-◌, length}
use Rattle.sw_media.specs.Reading.{list_from, queries_in, conditions_in}
use Rattle.sw_media.proofs.reader.queries_in.Given as goal

abbrev pub invariant-queries : goal.invariant-queries
invariant-queries l =
    list_from (conditions_in l.text l.levels) l.text ((length l.text + 1) - l._turn) l.list l.place ≡ queries_in l.text l.levels
