use Rattle.std.proofs.Common.{◌≡◌, drop}
use Rattle.sw_eval_calls.specs.Contents.{block_has, branches_have}
use Rattle.sw_eval_calls.proofs.contents.+contents.Given as goal

abbrev pub invariant-block_has-statements : goal.invariant-block_has-statements
invariant-block_has-statements l = block_has l.block ≡ block_has (drop l.statement-index l.block)

abbrev pub invariant-branches_have-branches : goal.invariant-branches_have-branches
invariant-branches_have-branches l = branches_have l.branches ≡ branches_have (drop l.branch-index l.branches)
