use Rattle.std.proofs.Common.{◌≡◌, ◌-◌, ◌*◌, length}
use Rattle.sw_parse_layout.specs.Laid.{behind}
use Rattle.sw_parse_layout.specs.Layout.{walk, laid_of}
use Rattle.sw_parse_layout.proofs.Stands.{Stands}
use Rattle.sw_parse_layout.proofs.walk.laid_of.Given as goal

abbrev pub invariant-steps : goal.invariant-steps
invariant-steps l = record {
  rest : behind l.laid (walk l.text (2 * length l.text - l._step) l.state) ≡ laid_of l.text;
  stands : Stands l.text l.state;
}
