use Rattle.std.proofs.Common.{◌≡◌, ◌+◌, ◌-◌, suc, arith}
use Rattle.sw_eval_statements.specs.Loops.{count, counts}
use Rattle.sw_eval_questions.specs.Ran.{still}
use Rattle.sw_eval_questions.proofs.Steps.{no_memory_by, gives_state, did_value, did_err, did_then, did_plain, ran_then, ran_did}
use Rattle.sw_eval_questions.proofs.Choices.{did_yes, did_no}
use Rattle.sw_eval_questions.proofs.Upward.{up_at, up_next, up_end, is_less, not_less}
use Rattle.sw_eval_statements.proofs.loops.counts.Goals as goal

pub loop-turn-init : goal.loop-turn-init
unfolding counts
loop-turn-init g c = let tests : (c.from-tests.result + 1) - 0 ≡ suc c.args.walk.now.state.turns = omega (arith, c.from-tests.ensures) in rw tests (still _ _ _)

pub returns-then-from-turns : goal.returns-then-from-turns
returns-then-from-turns g c =
    ran_did (up_at (λ m n s. count (g.B.Below.statements c.args.below) c.args.statement.now c.args.numbers.now m n s) c.loop-turn.turn (c.from-tests.result + 1) c.loop-turn.walk.state c.loop-turn-test.true c.loop-turn.invariant) (did_no _ _ _ (not_less _ _ (rw (c.turns.ensures, c.from.ensures) at c.if-from-turns.true)) (did_value _ _ _ _))

pub returns-in_err-spend : goal.returns-in_err-spend
returns-in_err-spend g c =
    ran_did (up_at (λ m n s. count (g.B.Below.statements c.args.below) c.args.statement.now c.args.numbers.now m n s) c.loop-turn.turn (c.from-tests.result + 1) c.loop-turn.walk.state c.loop-turn-test.true c.loop-turn.invariant) (did_yes _ _ _ (is_less _ _ (rw (c.turns.ensures, c.from.ensures) at c.if-from-turns.false)) (did_err _ (did_plain _ _ _ _ _ c.in_err-spend.ensures) c.from_residual.ensures))

pub returns-in_err-count_to : goal.returns-in_err-count_to
returns-in_err-count_to g c =
    ran_did (up_at (λ m n s. count (g.B.Below.statements c.args.below) c.args.statement.now c.args.numbers.now m n s) c.loop-turn.turn (c.from-tests.result + 1) c.loop-turn.walk.state c.loop-turn-test.true c.loop-turn.invariant) (did_yes _ _ _ (is_less _ _ (rw (c.turns.ensures, c.from.ensures) at c.if-from-turns.false)) (did_then _ (did_plain _ _ _ _ _ c.in_ok-spend.ensures) (no_memory_by _ _ _ _ _ _ _ _ c.in_err-count_to.ensures c.from_residual-in_err-count_to.ensures)))

pub returns-in_err-value : goal.returns-in_err-value
returns-in_err-value g c =
    ran_did (up_at (λ m n s. count (g.B.Below.statements c.args.below) c.args.statement.now c.args.numbers.now m n s) c.loop-turn.turn (c.from-tests.result + 1) c.loop-turn.walk.state c.loop-turn-test.true c.loop-turn.invariant) (did_yes _ _ _ (is_less _ _ (rw (c.turns.ensures, c.from.ensures) at c.if-from-turns.false)) (did_then _ (did_plain _ _ _ _ _ c.in_ok-spend.ensures) (rw (gives_state c.in_ok-count_to.ensures) (did_err _ (rw c.as_slice.ensures at c.in_err-value.ensures) c.from_residual-in_err-value.ensures))))

pub returns-in-Some : goal.returns-in-Some
returns-in-Some g c =
    ran_did (up_at (λ m n s. count (g.B.Below.statements c.args.below) c.args.statement.now c.args.numbers.now m n s) c.loop-turn.turn (c.from-tests.result + 1) c.loop-turn.walk.state c.loop-turn-test.true c.loop-turn.invariant) (did_yes _ _ _ (is_less _ _ (rw (c.turns.ensures, c.from.ensures) at c.if-from-turns.false)) (did_then _ (did_plain _ _ _ _ _ c.in_ok-spend.ensures) (rw (gives_state c.in_ok-count_to.ensures) (did_then _ (rw (c.as_slice.ensures, c.in-Some.is) at c.in_ok-value.ensures) (did_value _ _ _ _)))))

pub loop-turn-preserved : goal.loop-turn-preserved
loop-turn-preserved g c =
    up_next (λ m n s. count (g.B.Below.statements c.args.below) c.args.statement.now c.args.numbers.now m n s) _ _ _ (ran_then _ (rw (gives_state c.in_ok-count_to.ensures) at (ran_then _ (rw (is_less _ _ (rw (c.turns.ensures, c.from.ensures) at c.if-from-turns.false)) at (up_at (λ m n s. count (g.B.Below.statements c.args.below) c.args.statement.now c.args.numbers.now m n s) c.loop-turn.turn (c.from-tests.result + 1) c.loop-turn.walk.state c.loop-turn-test.true c.loop-turn.invariant)) (did_plain _ _ _ _ _ c.in_ok-spend.ensures))) (rw (c.as_slice.ensures, c.in_default.is) at c.in_ok-value.ensures))

pub returns : goal.returns
returns g c =
    ran_did (up_end (λ m n s. count (g.B.Below.statements c.args.below) c.args.statement.now c.args.numbers.now m n s) c.loop-turn.turn (c.from-tests.result + 1) c.loop-turn.walk.state (omega arith) c.loop-turn.invariant) (did_plain _ c.loop-turn.walk.state _ _ _ (c.fails.ensures c.loop-turn.walk.state))
