-- Functions, mixins and content blocks (the Sass specification on functions and mixins: they are known from their
-- declaration on, and their code sees what is seen where it is written).
use Rattle.std.specs.Prelude.{ℕ, bytes_eq, if◌then◌else◌, List, Option, Some, None}
use Rattle.std.specs.Map.{lookup}
use Rattle.indexmap.specs.IndexMap.{insert_entry}
use Rattle.sw_tree.specs.declared.callable.Callable.{Callable}
use Rattle.sw_tree.specs.declared.callable.Content.{Content}
use Rattle.sw_tree.specs.declared.callable.Kind.{Kind}
use Rattle.sw_tree.specs.declared.callable.Kind.TheVariants as K
use Rattle.sw_scope.specs.Scopes.{mark}
use Rattle.sw_eval_state.specs.Scope.{is_home}
use Rattle.sw_eval_state.specs.declared.here.Here.{Here}
use Rattle.sw_eval_state.specs.declared.here.Inside.TheVariants as I
use Rattle.sw_eval_state.specs.declared.here.Block.{Block, out-Block, roll-Block}
use Rattle.sw_eval_state.specs.declared.state.State.{State}

-- ---- what is declared

-- a variable is no callable
abbrev pub with_kind : Kind → List ℕ → Callable → State → State
with_kind K.Variable name c s = s
with_kind K.Function name c s = record s { functions = insert_entry bytes_eq s.functions name c }
with_kind K.Mixin name c s = record s { mixins = insert_entry bytes_eq s.mixins name c }

unfoldable pub with_named : List ℕ → Callable → State → State
with_named name c s = with_kind c.kind name c s

-- a function or a mixin is known from here on; of two of one name the later one counts
unfoldable pub with_callable : Callable → State → State
with_callable c s = with_named c.name c s

-- those of the module's own are seen by its own code
unfoldable pub own_function : List ℕ → State → Option Callable
own_function name s = if is_home s then lookup (bytes_eq name) s.functions else None

unfoldable pub own_mixin : List ℕ → State → Option Callable
own_mixin name s = if is_home s then lookup (bytes_eq name) s.mixins else None

-- ---- where code stands

-- the code of a function
abbrev pub function_here : ℕ → Here
function_here site = record { site = site; inside = I.Function; content = None }

-- the code of a mixin that is given this content block
abbrev pub mixin_here : ℕ → Option Block → Here
mixin_here site content = record { site = site; inside = I.Mixin; content = content }

-- the code of a content block
abbrev pub here_of : Block → Here
here_of b = record { site = (out-Block b).site; inside = (out-Block b).inside; content = (out-Block b).outer }

-- the content block that is written here
abbrev pub content_of : Option Content → State → Option Block
content_of None s = None
content_of (Some c) s = Some (roll-Block (record {
  content = c;
  mark = mark s.scopes;
  site = s.here.site;
  inside = s.here.inside;
  outer = s.here.content;
}))
