use Rattle.std.proofs.Common.{◌≡◌, ◌++◌, ◌-◌}
use Rattle.std.specs.Str.{IsUtf8}
use Rattle.sw_fn_text.specs.Pieces.{pieces}
use Rattle.sw_fn_text.proofs.pieces.pieces.Given as goal

abbrev pub invariant-cuts : goal.invariant-cuts
invariant-cuts l = record {
  utf8 : IsUtf8 l.left;
  done : l.texts ++ pieces (l.cuts - l.done) l.separator l.left ≡ pieces l.cuts l.separator l.text;
}
