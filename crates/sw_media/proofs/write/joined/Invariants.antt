use Rattle.std.proofs.Common.{◌≡◌, drop}
use Rattle.std.specs.String.{string_bytes}
use Rattle.sw_media.specs.Writing.{joined_from, joined}
use Rattle.sw_media.proofs.write.joined.Given as goal

abbrev pub invariant-texts : goal.invariant-texts
invariant-texts l = joined_from l.separator (string_bytes l.out) (drop l.text-index l.texts) ≡ joined l.separator l.texts
