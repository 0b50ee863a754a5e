-- The functions and mixins of a module by their names (the Sass specification's modules): of two of one kind and name
-- the later one counts.
use Rattle.std.specs.Prelude.{List, [], bytes_eq}
use Rattle.std.specs.List.{fold}
use Rattle.indexmap.specs.IndexMap.{insert_entry}
use Rattle.sw_tree.specs.declared.callable.Callable.{Callable}
use Rattle.sw_tree.specs.declared.callable.Kind.{Kind}
use Rattle.sw_tree.specs.declared.callable.Kind.TheVariants.{Variable, Function, Mixin}
use Rattle.sw_modules.specs.declared.callables.Callables.{Callables}

abbrev pub no_callables : Callables
no_callables = record { functions = []; mixins = [] }

-- one more of this kind; a variable is none
abbrev pub with_kind : Kind → Callable → Callables → Callables
with_kind Variable one all = all
with_kind Function one all = record all { functions = insert_entry bytes_eq all.functions one.name one }
with_kind Mixin one all = record all { mixins = insert_entry bytes_eq all.mixins one.name one }

abbrev pub with_callable : Callables → Callable → Callables
with_callable all one = with_kind one.kind one all

-- those that were declared in this order
abbrev pub callables_of : List Callable → Callables
callables_of = fold with_callable no_callables
