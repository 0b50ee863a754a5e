-- A function or a mixin that is declared under a name.
use Rattle.std.proofs.Common.{◌≡◌, ℕ, List, ap}
use Rattle.std.specs.Prelude.{bytes_eq}
use Rattle.indexmap.specs.IndexMap.{insert_entry}
use Rattle.sw_tree.specs.declared.callable.Callable.{Callable}
use Rattle.sw_tree.specs.declared.callable.Kind.TheVariants as K
use Rattle.sw_eval_state.specs.Callables.{with_kind, with_named}
use Rattle.sw_eval_state.specs.declared.state.State.{State}

pub named_variable : (name : List ℕ) (c : Callable) (s : State) → c.kind ≡ K.Variable → with_named name c s ≡ s
unfolding with_named
named_variable name c s is = ap (λ k. with_kind k name c s) is

pub named_function : (name : List ℕ) (c : Callable) (s : State) → c.kind ≡ K.Function
    → with_named name c s ≡ record s { functions = insert_entry bytes_eq s.functions name c }
unfolding with_named
named_function name c s is = ap (λ k. with_kind k name c s) is

pub named_mixin : (name : List ℕ) (c : Callable) (s : State) → c.kind ≡ K.Mixin
    → with_named name c s ≡ record s { mixins = insert_entry bytes_eq s.mixins name c }
unfolding with_named
named_mixin name c s is = ap (λ k. with_kind k name c s) is
