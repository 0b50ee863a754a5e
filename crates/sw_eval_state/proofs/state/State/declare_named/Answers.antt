use Rattle.std.proofs.Common.{refl}
use Rattle.sw_eval_state.proofs.Answering.{out_of_memory}
use Rattle.sw_eval_state.proofs.Named.{named_variable, named_function, named_mixin}
use Rattle.sw_eval_state.proofs.state.State.declare_named.Goals as goal

pub returns-in-Variable : goal.returns-in-Variable
returns-in-Variable c =
    rw (named_variable c.args.name c.args.callable.now c.args.self.now (rw c.get.ensures at c.in-Variable.is)) refl

pub returns-in_err-share-in-Function : goal.returns-in_err-share-in-Function
returns-in_err-share-in-Function c =
    out_of_memory _ _ _ c.from_residual.ensures

pub returns-in_err-add-in-Function : goal.returns-in_err-add-in-Function
returns-in_err-add-in-Function c =
    out_of_memory _ _ _ c.from_residual-in_err-add-in-Function.ensures

pub returns-in_ok-add-in-Function : goal.returns-in_ok-add-in-Function
returns-in_ok-add-in-Function c =
    rw (named_function c.args.name c.args.callable.now c.args.self.now (rw c.get.ensures at c.in-Function.is), c.in_ok-add-in-Function.ensures.ok, c.in_ok-share-in-Function.ensures) refl

pub returns-in_err-share-in-Mixin : goal.returns-in_err-share-in-Mixin
returns-in_err-share-in-Mixin c =
    out_of_memory _ _ _ c.from_residual-in_err-share-in-Mixin.ensures

pub returns-in_err-add-in-Mixin : goal.returns-in_err-add-in-Mixin
returns-in_err-add-in-Mixin c =
    out_of_memory _ _ _ c.from_residual-in_err-add-in-Mixin.ensures

pub returns-in_ok-add-in-Mixin : goal.returns-in_ok-add-in-Mixin
returns-in_ok-add-in-Mixin c =
    rw (named_mixin c.args.name c.args.callable.now c.args.self.now (rw c.get.ensures at c.in-Mixin.is), c.in_ok-add-in-Mixin.ensures.ok, c.in_ok-share-in-Mixin.ensures) refl
