-- Whether a mixin has `@content`, by its text (this project's own rule).
use Rattle.std.specs.Prelude.{Bool, true, false, ◌||◌, List, Option, Some, None}
use Rattle.std.specs.List.{list_any}
use Rattle.sw_tree.specs.declared.callable.Content.{Content}
use Rattle.sw_tree.specs.declared.statement.Branch.{Branch}
use Rattle.sw_tree.specs.declared.statement.Statement.{Statement, fold-Statement}
use Rattle.sw_tree.specs.declared.statement.Statement.TheOpen.{Statement-F}

abbrev pub some : List Bool → Bool
some = list_any (λ found. found)

abbrev pub optional_some : Option (List Bool) → Bool
optional_some None = false
optional_some (Some block) = some block

abbrev pub given_some : Option Bool → Bool
given_some None = false
given_some (Some found) = found

-- a statement, where this was found in its parts with blocks; a callable's block is none of it
abbrev pub found_step : Statement-F Bool Bool Bool Bool Bool Bool Bool Bool Bool Bool Bool Bool Bool → Bool
found_step (Statement-F.Content call) = true
found_step (Statement-F.Include mixin content span) = given_some content
found_step (Statement-F.If branches otherwise span) = some branches || optional_some otherwise
found_step (Statement-F.Properties found) = found
found_step (Statement-F.Rule found) = found
found_step (Statement-F.Each found) = found
found_step (Statement-F.For found) = found
found_step (Statement-F.While found) = found
found_step (Statement-F.Media found) = found
found_step (Statement-F.Supports found) = found
found_step (Statement-F.AtRoot found) = found
found_step (Statement-F.AtRule found) = found
found_step _ = false

-- a statement is `@content`, or one in its blocks is
unfoldable pub has_content : Statement → Bool
has_content =
    fold-Statement Bool Bool Bool Bool Bool Bool Bool Bool Bool Bool Bool Bool Bool
    found_step
    (λ callable. false) (λ content. some content.block) (λ root. some root.block)
    (λ at_rule. optional_some at_rule.block) (λ branch. some branch.block) (λ each. some each.block)
    (λ count. some count.block) (λ media. some media.block) (λ properties. some properties.block)
    (λ rule. some rule.block) (λ supports. some supports.block) (λ loop. some loop.block)

abbrev pub block_has : List Statement → Bool
block_has = list_any has_content

abbrev pub optional_has : Option (List Statement) → Bool
optional_has None = false
optional_has (Some block) = block_has block

abbrev pub content_has : Option Content → Bool
content_has None = false
content_has (Some content) = block_has content.block

abbrev pub branches_have : List Branch → Bool
branches_have = list_any (λ branch. block_has branch.block)
