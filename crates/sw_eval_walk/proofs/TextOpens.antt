-- One level of a text that is made of pieces.
use Rattle.std.proofs.Common.{◌≡◌, List, sym, ◌∙◌, ap}
use Rattle.sw_tree.specs.declared.expr.ExprKind.TheOpen.{Parts-F}
use Rattle.sw_tree.specs.declared.text.Parts.{out-Parts, out-roll-Parts}
use Rattle.sw_tree.specs.declared.text.Parts.TheVariants as T
use Rattle.sw_tree.specs.declared.text.Piece.{Piece}

pub out_Mixed : (ps : List Piece) → out-Parts (T.Mixed ps) ≡ Parts-F.Mixed ps
out_Mixed ps = ap out-Parts (sym (T.rolls-Mixed ps)) ∙ out-roll-Parts (Parts-F.Mixed ps)
