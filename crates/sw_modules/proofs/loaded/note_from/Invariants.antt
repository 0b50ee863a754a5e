use Rattle.sw_modules.specs.Noted.{HoldsMore, HoldsFirst}
use Rattle.sw_modules.proofs.loaded.note_from.Given as goal

abbrev pub invariant-places : goal.invariant-places
invariant-places l = record {
  more : HoldsMore l.fn.holders l.holders;
  first : HoldsFirst l.holders l.entries.entries l.place;
}
