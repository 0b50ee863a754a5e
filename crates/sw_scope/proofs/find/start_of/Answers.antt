use Rattle.std.proofs.Common.{ap}
use Rattle.sw_scope.proofs.Jumps.{read}
use Rattle.sw_scope.proofs.find.start_of.Goals as goal

pub returns : goal.returns
returns c = λ d. ap (λ m. m.start) (read c.args.marks.now c.args.number c.index-marks-number.result d c.requires)
