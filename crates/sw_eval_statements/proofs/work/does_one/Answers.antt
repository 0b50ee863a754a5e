use Rattle.std.proofs.Common.{⊎_elim}
use Rattle.sw_eval_statements.specs.Statements.{does_one}
use Rattle.sw_eval_statements.specs.Places.{place_of}
use Rattle.sw_eval_questions.proofs.Steps.{did_value, did_plain}
use Rattle.sw_eval_statements.proofs.Opens.{out_Rule, out_Media, out_Supports, out_AtRoot, out_AtRule, out_Properties, out_If, out_While, out_Each, out_For, out_Include}
use Rattle.sw_tree.specs.declared.statement.Statement as S
use Rattle.sw_eval_statements.proofs.work.does_one.Goals as goal

pub returns-in-Include : goal.returns-in-Include
unfolding does_one
returns-in-Include g c = rw (c.in-Include.is, out_Include) c.include.ensures

pub returns-in-Content : goal.returns-in-Content
unfolding does_one S.out-Statement denote.Hole.Carrier.out
returns-in-Content g c = rw c.in-Content.is c.content.ensures

pub returns-in-Return : goal.returns-in-Return
unfolding does_one S.out-Statement denote.Hole.Carrier.out
returns-in-Return g c = rw c.in-Return.is c.returning.ensures

pub returns-in-Variable : goal.returns-in-Variable
unfolding does_one S.out-Statement denote.Hole.Carrier.out
returns-in-Variable g c = rw c.in-Variable.is c.variable_set.ensures

pub returns-in-Assignment : goal.returns-in-Assignment
unfolding does_one S.out-Statement denote.Hole.Carrier.out
returns-in-Assignment g c = rw c.in-Assignment.is c.assigned.ensures

pub returns-in-Declaration : goal.returns-in-Declaration
unfolding does_one S.out-Statement denote.Hole.Carrier.out
returns-in-Declaration g c = rw c.in-Declaration.is c.declaration.ensures

pub returns-in-Properties : goal.returns-in-Properties
unfolding does_one
returns-in-Properties g c = rw (c.in-Properties.is, out_Properties) c.properties.ensures

pub returns-in-Custom : goal.returns-in-Custom
unfolding does_one S.out-Statement denote.Hole.Carrier.out
returns-in-Custom g c = rw c.in-Custom.is c.custom.ensures

pub returns-in-Rule : goal.returns-in-Rule
unfolding does_one
returns-in-Rule g c = rw (c.in-Rule.is, out_Rule) c.rule.ensures

pub returns-in-Media : goal.returns-in-Media
unfolding does_one
returns-in-Media g c = rw (c.in-Media.is, out_Media) c.media.ensures

pub returns-in-Supports : goal.returns-in-Supports
unfolding does_one
returns-in-Supports g c = rw (c.in-Supports.is, out_Supports) c.supports.ensures

pub returns-in-AtRoot : goal.returns-in-AtRoot
unfolding does_one
returns-in-AtRoot g c = rw (c.in-AtRoot.is, out_AtRoot) c.at_root.ensures

pub returns-in-AtRule : goal.returns-in-AtRule
unfolding does_one
returns-in-AtRule g c = rw (c.in-AtRule.is, out_AtRule) c.at_rule.ensures

pub returns-in-Import : goal.returns-in-Import
unfolding does_one S.out-Statement denote.Hole.Carrier.out
returns-in-Import g c = rw c.in-Import.is c.import.ensures

pub returns-in-Extend : goal.returns-in-Extend
unfolding does_one S.out-Statement denote.Hole.Carrier.out
returns-in-Extend g c =
    rw c.in-Extend.is (did_plain _ c.args.walk.now.state _ _ _ (c.fails.ensures c.args.walk.now.state))

pub returns-in-Use : goal.returns-in-Use
unfolding does_one place_of S.out-Statement denote.Hole.Carrier.out
returns-in-Use g c =
    (⊎_elim (λ p. rw p.1 (did_plain _ c.args.walk.now.state _ _ _ (rw (c.place_of.ensures, p.1) at (c.fails-in-Use.ensures c.args.walk.now.state))))
    (⊎_elim (λ p. rw p.1 (did_plain _ c.args.walk.now.state _ _ _ (rw (c.place_of.ensures, p.1) at (c.fails-in-Use.ensures c.args.walk.now.state))))
    (λ p. rw p.1 (did_plain _ c.args.walk.now.state _ _ _ (rw (c.place_of.ensures, p.1) at (c.fails-in-Use.ensures c.args.walk.now.state)))))) c.in-Use.is

pub returns-in-If : goal.returns-in-If
unfolding does_one
returns-in-If g c = rw (c.in-If.is, out_If) (rw c.as_slice.ensures at c.branches.ensures)

pub returns-in-While : goal.returns-in-While
unfolding does_one
returns-in-While g c = rw (c.in-While.is, out_While) c.repeat_in.ensures

pub returns-in-Say : goal.returns-in-Say
unfolding does_one S.out-Statement denote.Hole.Carrier.out
returns-in-Say g c = rw c.in-Say.is c.saying.ensures

pub returns-in-Charset : goal.returns-in-Charset
unfolding does_one S.out-Statement denote.Hole.Carrier.out
returns-in-Charset g c = rw c.in-Charset.is (did_value _ c.args.walk.now.state _ _)

pub returns-in-Comment : goal.returns-in-Comment
unfolding does_one S.out-Statement denote.Hole.Carrier.out
returns-in-Comment g c = rw c.in-Comment.is c.comment.ensures

pub returns-in-Each : goal.returns-in-Each
unfolding does_one
returns-in-Each g c = rw (c.in-Each.is, out_Each) c.each_in.ensures

pub returns-in-For : goal.returns-in-For
unfolding does_one
returns-in-For g c = rw (c.in-For.is, out_For) c.count_in.ensures
