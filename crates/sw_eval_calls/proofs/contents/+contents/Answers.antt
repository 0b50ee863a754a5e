use Rattle.std.proofs.Common.{refl, sym, ◌∙◌, arith}
use Rattle.sw_eval_calls.specs.Contents.{has_content, block_has}
use Rattle.sw_eval_calls.proofs.Tests.{any_found, any_passed, any_end}
use Rattle.sw_eval_calls.proofs.Unrolled.{of_content, of_properties, of_rule, of_each, of_for, of_while, of_media, of_supports, of_at_root, of_include}
use Rattle.sw_eval_calls.proofs.contents.+contents.Goals as goal

pub has_content-returns-in-Content : goal.has_content-returns-in-Content
has_content-returns-in-Content t c = rw (c.in-Content.is, of_content) refl

pub has_content-returns-in-Properties : goal.has_content-returns-in-Properties
has_content-returns-in-Properties t c = rw (c.in-Properties.is, of_properties) (rw c.as_slice.ensures at c.block_has.ensures)

pub has_content-returns-in-Rule : goal.has_content-returns-in-Rule
has_content-returns-in-Rule t c = rw (c.in-Rule.is, of_rule) (rw c.as_slice-in-Rule.ensures at c.block_has-in-Rule.ensures)

pub has_content-returns-in-Each : goal.has_content-returns-in-Each
has_content-returns-in-Each t c = rw (c.in-Each.is, of_each) (rw c.as_slice-in-Each.ensures at c.block_has-in-Each.ensures)

pub has_content-returns-in-For : goal.has_content-returns-in-For
has_content-returns-in-For t c = rw (c.in-For.is, of_for) (rw c.as_slice-in-For.ensures at c.block_has-in-For.ensures)

pub has_content-returns-in-While : goal.has_content-returns-in-While
has_content-returns-in-While t c = rw (c.in-While.is, of_while) (rw c.as_slice-in-While.ensures at c.block_has-in-While.ensures)

pub has_content-returns-in-Media : goal.has_content-returns-in-Media
has_content-returns-in-Media t c = rw (c.in-Media.is, of_media) (rw c.as_slice-in-Media.ensures at c.block_has-in-Media.ensures)

pub has_content-returns-in-Supports : goal.has_content-returns-in-Supports
has_content-returns-in-Supports t c = rw (c.in-Supports.is, of_supports) (rw c.as_slice-in-Supports.ensures at c.block_has-in-Supports.ensures)

pub has_content-returns-in-AtRoot : goal.has_content-returns-in-AtRoot
has_content-returns-in-AtRoot t c = rw (c.in-AtRoot.is, of_at_root) (rw c.as_slice-in-AtRoot.ensures at c.block_has-in-AtRoot.ensures)

pub has_content-returns-in-Include : goal.has_content-returns-in-Include
has_content-returns-in-Include t c = rw (c.in-Include.is, of_include) c.content_has.ensures

pub block_has-returns-then-has_content : goal.block_has-returns-then-has_content
block_has-returns-then-has_content t c = sym (c.statements.invariant ∙ any_found has_content c.args.block.now c.statements.statement-index c.statement-item.result c.statements-test.true c.statement-item.is (sym c.has_content.ensures ∙ c.if-has_content.true))

pub block_has-statements-preserved : goal.block_has-statements-preserved
block_has-statements-preserved t c = c.statements.invariant ∙ any_passed has_content c.args.block.now c.statements.statement-index c.statement-item.result c.statements-test.true c.statement-item.is (sym c.has_content.ensures ∙ c.if-has_content.false)

pub block_has-returns : goal.block_has-returns
block_has-returns t c = sym (c.statements.invariant ∙ any_end has_content c.args.block.now c.statements.statement-index (omega arith))

pub branches_have-returns-then-block_has : goal.branches_have-returns-then-block_has
branches_have-returns-then-block_has t c = sym (c.branches.invariant ∙ any_found (λ branch. block_has branch.block) c.args.branches.now c.branches.branch-index c.branch-item.result c.branches-test.true c.branch-item.is (sym (rw c.as_slice.ensures at c.block_has.ensures) ∙ c.if-block_has.true))

pub branches_have-branches-preserved : goal.branches_have-branches-preserved
branches_have-branches-preserved t c = c.branches.invariant ∙ any_passed (λ branch. block_has branch.block) c.args.branches.now c.branches.branch-index c.branch-item.result c.branches-test.true c.branch-item.is (sym (rw c.as_slice.ensures at c.block_has.ensures) ∙ c.if-block_has.false)

pub branches_have-returns : goal.branches_have-returns
branches_have-returns t c = sym (c.branches.invariant ∙ any_end (λ branch. block_has branch.block) c.args.branches.now c.branches.branch-index (omega arith))
