use Rattle.std.proofs.Common.{◌≡◌, true, false, ◌∙◌, sym}
use Rattle.sw_scope.specs.Passed.{none_passed}
use Rattle.sw_eval_calls.specs.CssCalls.{names_any}
use Rattle.sw_eval_calls.specs.Placing.{all_passed}
use Rattle.sw_eval_expressions.specs.Functions.{css_with}
use Rattle.sw_eval_questions.proofs.Steps.{did_err, did_then, did_plain, did_value, no_memory}
use Rattle.sw_eval_questions.proofs.Refusals.{did_stopped}
use Rattle.sw_eval_questions.proofs.Choices.{did_yes, did_no}
use Rattle.sw_eval_expressions.proofs.functions.css_with.Goals as goal

pub returns-in_err-passed : goal.returns-in_err-passed
returns-in_err-passed g c = no_memory _ c.args.walk.now.state _ _ _ c.from_residual.ensures

pub returns-then-names_any : goal.returns-then-names_any
unfolding css_with
returns-then-names_any g c =
    let e : names_any (all_passed none_passed c.args.one.arguments.now c.args.values.now) ≡ true =
    sym (rw c.in_ok-passed.ensures at c.names_any.ensures) ∙ c.if-names_any.true in
    did_yes _ _ _ e (did_plain _ c.args.walk.now.state _ _ _ (c.fails.ensures c.args.walk.now.state))

pub returns-in_err-value : goal.returns-in_err-value
unfolding css_with
returns-in_err-value g c =
    let e : names_any (all_passed none_passed c.args.one.arguments.now c.args.values.now) ≡ false =
    sym (rw c.in_ok-passed.ensures at c.names_any.ensures) ∙ c.if-names_any.false in
    did_no _ _ _ e (did_err _ (rw c.in_ok-passed.ensures at c.in_err-value.ensures) c.from_residual-in_err-value.ensures)

pub returns-in-Some : goal.returns-in-Some
unfolding css_with
returns-in-Some g c =
    let e : names_any (all_passed none_passed c.args.one.arguments.now c.args.values.now) ≡ false =
    sym (rw c.in_ok-passed.ensures at c.names_any.ensures) ∙ c.if-names_any.false in
    did_no _ _ _ e (did_then _ (rw (c.in_ok-passed.ensures, c.in-Some.is) at c.in_ok-value.ensures) (did_value _ _ _ _))

pub returns-in_err-whole : goal.returns-in_err-whole
unfolding css_with
returns-in_err-whole g c =
    let e : names_any (all_passed none_passed c.args.one.arguments.now c.args.values.now) ≡ false =
    sym (rw c.in_ok-passed.ensures at c.names_any.ensures) ∙ c.if-names_any.false in
    did_no _ _ _ e (did_then _ (rw (c.in_ok-passed.ensures, c.in_default.is) at c.in_ok-value.ensures)
    (no_memory _ _ _ _ _ c.from_residual-in_err-whole.ensures))

pub returns : goal.returns
unfolding css_with
returns g c =
    let e : names_any (all_passed none_passed c.args.one.arguments.now c.args.values.now) ≡ false =
    sym (rw c.in_ok-passed.ensures at c.names_any.ensures) ∙ c.if-names_any.false in
    did_no _ _ _ e (did_then _ (rw (c.in_ok-passed.ensures, c.in_default.is) at c.in_ok-value.ensures)
    (did_stopped _ _ _ c.hosted_value.new.self.state _ _ (rw c.in_ok-whole.ensures at c.css_call.ensures) c.stopped.ensures))
