use Rattle.std.proofs.Common.{◌≡◌, ◌++◌, map, drop}
use Rattle.std.specs.Prelude.{encode_utf8}
use Rattle.sw_fn_text.proofs.pieces.letters_of.Given as goal

abbrev pub invariant-letters : goal.invariant-letters
invariant-letters l = l.texts ++ map encode_utf8 (drop l.at l.all) ≡ map encode_utf8 l.all
