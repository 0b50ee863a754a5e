use Rattle.std.proofs.Common.{◌≡◌, drop}
use Rattle.sw_eval_state.specs.AtRules.{imported_all}
use Rattle.sw_eval_state.proofs.state.State.import_all.Given as goal

abbrev pub invariant-texts : goal.invariant-texts
invariant-texts l = imported_all (drop l.one-index l.texts) l.span l.self ≡ imported_all l.texts l.span l.fn.self
