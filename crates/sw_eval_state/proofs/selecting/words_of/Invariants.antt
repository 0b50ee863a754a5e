use Rattle.std.proofs.Common.{◌≡◌, [], drop}
use Rattle.sw_eval_state.specs.Selecting.{words_of}
use Rattle.sw_eval_state.proofs.selecting.words_of.Given as goal

abbrev pub invariant-texts : goal.invariant-texts
invariant-texts l = words_of [] l.texts l.span ≡ words_of l.done (drop l.text-index l.texts) l.span
