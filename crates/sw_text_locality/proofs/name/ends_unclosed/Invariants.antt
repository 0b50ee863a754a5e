use Rattle.std.proofs.Common.{◌≡◌, ◌-◌, length}
use Rattle.sw_text_scan.specs.declared.runs.Class.TheVariants as classes
use Rattle.sw_text_scan.specs.Runs.{next}
use Rattle.sw_text_locality.specs.Names.{unclosed_from, ends_unclosed}
use Rattle.sw_text_locality.proofs.name.ends_unclosed.Given as goal

abbrev pub invariant-characters : goal.invariant-characters
invariant-characters l = record {
  flag : unclosed_from l.bytes (length l.bytes - l.place) l.unclosed l.place ≡ ends_unclosed l.bytes l.at;
  next : l.next ≡ next classes.Name l.bytes l.place;
}

abbrev pub decreases-characters : goal.decreases-characters
decreases-characters l = length l.bytes - l.place
