use Rattle.std.proofs.Common.{◌≡◌, drop}
use Rattle.sw_tree.specs.Globals.{joined, block_globals, branches_globals}
use Rattle.sw_tree.proofs.globals.+globals.Given as goal

abbrev pub invariant-add_block-statements : goal.invariant-add_block-statements
invariant-add_block-statements l =
    joined l.known.keys (block_globals (drop l.statement-index l.block)) ≡ joined l.initial.known.keys (block_globals l.block)

abbrev pub invariant-add_branches-branches : goal.invariant-add_branches-branches
invariant-add_branches-branches l =
    joined l.known.keys (branches_globals (drop l.branch-index l.branches)) ≡ joined l.initial.known.keys (branches_globals l.branches)
