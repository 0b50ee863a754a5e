use Rattle.sw_modules.specs.Noted.{HoldsMore, HoldsBefore}
use Rattle.sw_modules.proofs.holders.note_all.Given as goal

abbrev pub invariant-names : goal.invariant-names
invariant-names g l = record {
  more : HoldsMore l.fn.holders l.holders;
  done : HoldsBefore l.holders l.path l.names l.place;
}
