use Rattle.std.proofs.Common.{Ok, sym, ◌∙◌}
use Rattle.sw_eval_questions.specs.Talk.{Gives}
use Rattle.sw_eval_questions.proofs.Steps.{plain_then, plain_err}
use Rattle.sw_eval_state.specs.Entries.{mixin_entry, given_entry}
use Rattle.sw_eval_state.proofs.Answering.{out_of_memory, plain_stopped, gives_same}
use Rattle.sw_eval_state.proofs.state.State.mixin_entry.Goals as goal

pub returns-then-is_lost : goal.returns-then-is_lost
unfolding mixin_entry
returns-then-is_lost c = rw (sym (rw c.get.ensures at c.is_lost.ensures) ∙ c.if-is_lost.true) (c.fails.ensures c.args.self.now)

pub returns-in_err-slots : goal.returns-in_err-slots
unfolding mixin_entry
returns-in_err-slots c = rw (sym (rw c.get.ensures at c.is_lost.ensures) ∙ c.if-is_lost.false) (plain_err _ _ _ _ c.args.self.now _ (plain_stopped _ _ _ c.args.self.now (rw c.get-2.ensures at c.bound.ensures) c.in_err-slots.ensures) c.from_residual.ensures)

pub returns-in_err-given_entry : goal.returns-in_err-given_entry
returns-in_err-given_entry c = out_of_memory _ _ _ c.from_residual-in_err-given_entry.ensures

pub returns : goal.returns
unfolding mixin_entry
returns c =
    rw (sym (rw c.get.ensures at c.is_lost.ensures) ∙ c.if-is_lost.false) (plain_then _ (λ slots. Gives (given_entry c.args.mixin.now c.args.content.now slots.0 slots.1, slots.1)) c.in_ok-slots.slots (Ok c.in_ok-given_entry.field-0) c.args.self.now c.args.self.now (plain_stopped _ _ _ c.args.self.now (rw c.get-2.ensures at c.bound.ensures) c.in_ok-slots.ensures) (gives_same (given_entry c.args.mixin.now c.args.content.now c.in_ok-slots.slots c.args.self.now) _ c.args.self.now c.in_ok-given_entry.ensures))
