use Rattle.std.proofs.Common.{◌≡◌, ℕ, true, List, None, map, ◌∙◌, arith}
use Rattle.std.proofs.lemmas.Grind.{common_steps}
use Rattle.std.proofs.lemmas.List.{append-nil}
use Rattle.sw_text.specs.declared.place.Span.{Span}
use Rattle.sw_tree.specs.declared.statement.Branch.{Branch}
use Rattle.sw_tree.specs.declared.statement.Statement.TheVariants as statements
use Rattle.sw_convert_written.specs.Statements.{statement_shown, branch_shown, branches_text}
use Rattle.sw_convert_written.proofs.Joins.{appends}
use Rattle.sw_convert_written.proofs.UnrolledStatements.{if_lines, properties_lines, rule_lines, callable_lines, each_lines, for_lines, while_lines, media_lines, supports_lines, at_root_lines}
use Rattle.sw_convert_written.proofs.statement.+write.Goals as goal

pub put_statement-returns-in_ok-put_properties_head-in-Properties : goal.put_statement-returns-in_ok-put_properties_head-in-Properties
put_statement-returns-in_ok-put_properties_head-in-Properties t c =
    first_of (grind (arith, appends, properties_lines), grind (arith, common_steps, appends, properties_lines))

pub put_statement-returns-in_ok-put_selector-in-Rule : goal.put_statement-returns-in_ok-put_selector-in-Rule
put_statement-returns-in_ok-put_selector-in-Rule t c =
    first_of (grind (arith, appends, rule_lines), grind (arith, common_steps, appends, rule_lines))

pub put_statement-returns-in_ok-put_callable_head-in-Callable : goal.put_statement-returns-in_ok-put_callable_head-in-Callable
put_statement-returns-in_ok-put_callable_head-in-Callable t c =
    first_of (grind (arith, appends, callable_lines), grind (arith, common_steps, appends, callable_lines))

pub put_statement-returns-in_ok-put_each_head-in-Each : goal.put_statement-returns-in_ok-put_each_head-in-Each
put_statement-returns-in_ok-put_each_head-in-Each t c =
    first_of (grind (arith, appends, each_lines), grind (arith, common_steps, appends, each_lines))

pub put_statement-returns-in_ok-put_for_head-in-For : goal.put_statement-returns-in_ok-put_for_head-in-For
put_statement-returns-in_ok-put_for_head-in-For t c =
    first_of (grind (arith, appends, for_lines), grind (arith, common_steps, appends, for_lines))

pub put_statement-returns-in_ok-put_while_head-in-While : goal.put_statement-returns-in_ok-put_while_head-in-While
put_statement-returns-in_ok-put_while_head-in-While t c =
    first_of (grind (arith, appends, while_lines), grind (arith, common_steps, appends, while_lines))

pub put_statement-returns-in_ok-put_media_head-in-Media : goal.put_statement-returns-in_ok-put_media_head-in-Media
put_statement-returns-in_ok-put_media_head-in-Media t c =
    first_of (grind (arith, appends, media_lines), grind (arith, common_steps, appends, media_lines))

pub put_statement-returns-in_ok-put_supports_head-in-Supports : goal.put_statement-returns-in_ok-put_supports_head-in-Supports
put_statement-returns-in_ok-put_supports_head-in-Supports t c =
    first_of (grind (arith, appends, supports_lines), grind (arith, common_steps, appends, supports_lines))

pub put_statement-returns-in_ok-put_at_root_head-in-AtRoot : goal.put_statement-returns-in_ok-put_at_root_head-in-AtRoot
put_statement-returns-in_ok-put_at_root_head-in-AtRoot t c =
    first_of (grind (arith, appends, at_root_lines), grind (arith, common_steps, appends, at_root_lines))

-- without an `@else`
if_alone : (xs : List Branch) (span : Span) (level : ℕ)
    → (statement_shown (statements.If xs None span)).text level ≡ branches_text level true (map branch_shown xs)
if_alone xs span level = if_lines xs None span level ∙ append-nil (branches_text level true (map branch_shown xs))

pub put_statement-returns-in-None : goal.put_statement-returns-in-None
put_statement-returns-in-None t c =
    first_of (grind (arith, appends, if_alone), grind (arith, common_steps, appends, if_lines))
