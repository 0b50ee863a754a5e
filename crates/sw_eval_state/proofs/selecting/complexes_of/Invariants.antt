use Rattle.std.proofs.Common.{◌≡◌, [], drop}
use Rattle.sw_eval_state.specs.Selecting.{complexes_of}
use Rattle.sw_eval_state.proofs.selecting.complexes_of.Given as goal

abbrev pub invariant-all : goal.invariant-all
invariant-all l = complexes_of [] l.fn.all l.span ≡ complexes_of l.done (drop l.texts-index l.fn.all) l.span
