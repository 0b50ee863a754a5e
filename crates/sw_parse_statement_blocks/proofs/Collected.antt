-- What the parts behind the first block of `@if` hold.
use Rattle.std.proofs.Common.{◌≡◌, List, [], ◌∷◌, ◌++◌, map, Option, Some, None, refl, ap}
use Rattle.sw_tree.specs.declared.statement.Statement.{Statement}
use Rattle.sw_tree.specs.declared.statement.Branch.{Branch}
use Rattle.sw_parse_table.specs.Parts.{Branches, branches_of, block_of}
use Rattle.sw_parse_statement_blocks.specs.Rows.{block_in}

-- further branches with the block of `@else` behind them
pub branches_before : (xs : List Branch) (block : Option (List Statement))
    → branches_of (map Branches xs ++ block_in block) ≡ xs
branches_before [] None = refl
branches_before [] (Some block) = refl
branches_before (x ∷ xs) block = ap (λ (y : List Branch). x ∷ y) (branches_before xs block)

pub block_behind : (xs : List Branch) (block : Option (List Statement))
    → block_of (map Branches xs ++ block_in block) ≡ block
block_behind [] None = refl
block_behind [] (Some block) = refl
block_behind (x ∷ xs) block = block_behind xs block

pub ruleset collected = (branches_before, block_behind)
