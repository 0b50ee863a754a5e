use Rattle.std.proofs.Common.{◌≡◌, ◌++◌, drop}
use Rattle.std.specs.Prelude.{encode_utf8_all}
use Rattle.std.specs.String.{string_bytes}
use Rattle.sw_fn_text.proofs.pieces.joined.Given as goal

abbrev pub invariant-letters : goal.invariant-letters
invariant-letters l = string_bytes l.text ++ encode_utf8_all (drop l.at l.all) ≡ encode_utf8_all l.all
