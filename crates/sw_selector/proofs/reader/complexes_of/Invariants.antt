use Rattle.std.proofs.Common.{◌≡◌, ◌+◌, ◌-◌, length}
use Rattle.sw_selector.specs.Reading.{whole_from, complexes_of, selectors_in}
use Rattle.sw_selector.proofs.reader.complexes_of.Given as goal

abbrev pub invariant-selectors : goal.invariant-selectors
invariant-selectors l =
    whole_from (selectors_in l.text l.levels) l.text ((length l.text + 1) - l._turn) l.list l.place ≡ complexes_of l.text l.levels
