use Rattle.std.proofs.Common.{sym, ◌∙◌}
use Rattle.sw_scope.proofs.Bindings.{none_of, some_of, refused, bound}
use Rattle.sw_scope.proofs.binding.bind.Goals as goal

pub returns-in_default : goal.returns-in_default
returns-in_default c = refused c.args.params.now c.args.passed.now (none_of _ _ _ (rw c.as_slice.ensures at c.in_ok-named.ensures) c.in_default.not-Some)

pub returns : goal.returns
returns c =
    let named = some_of _ _ _ c.in-Some.named (rw c.as_slice.ensures at c.in_ok-named.ensures) c.in-Some.is in
    bound c.args.params.now c.args.passed.now c.in_ok-slots.slots c.with_rest.result (sym c.accepts.ensures ∙ c.if-not-accepts.false)
    (rw (← named.1, ← c.as_slice-4.ensures, ← c.as_slice-5.ensures) c.in_ok-slots.ensures) c.with_rest.ensures
