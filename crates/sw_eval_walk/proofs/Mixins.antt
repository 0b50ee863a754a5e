-- Which mixin is included, without a namespace and with one.
use Rattle.std.proofs.Common.{◌≡◌, Some, None, ap}
use Rattle.sw_text.specs.declared.place.Span.{Span}
use Rattle.sw_tree.specs.declared.callable.Mixin.{Mixin}
use Rattle.sw_tree.specs.declared.expr.Namespaced.{Namespaced}
use Rattle.sw_eval_state.specs.declared.state.State.{State}
use Rattle.sw_eval_walk.specs.Callees.{mixin_called, mixin_called_by, plain_mixin, member_mixin}

pub called_plain : (x : Mixin) (at : Span) (s : State) → x.namespace ≡ None → mixin_called x at s ≡ plain_mixin x at s
unfolding mixin_called
called_plain x at s is = ap (λ o. mixin_called_by o x at s) is

pub called_member : (x : Mixin) (space : Namespaced) (at : Span) (s : State) → x.namespace ≡ Some space
    → mixin_called x at s ≡ member_mixin space x at s
unfolding mixin_called
called_member x space at s is = ap (λ o. mixin_called_by o x at s) is
