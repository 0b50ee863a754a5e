-- Statements that load modules (the Sass specification on `@use` and `@forward`).
use Rattle.std.specs.Prelude.{ℕ, List, [], map, Option, Some, None}
use Rattle.sw_text.specs.Names.{dashed}
use Rattle.sw_text.specs.declared.place.Span.{Span}
use Rattle.sw_tree.specs.declared.callable.Callable.{Callable}
use Rattle.sw_tree.specs.declared.callable.Content.{Content}
use Rattle.sw_tree.specs.declared.load.Filter.{Filter}
use Rattle.sw_tree.specs.declared.load.Filter.TheVariants as F
use Rattle.sw_tree.specs.declared.load.Forward.{Forward}
use Rattle.sw_tree.specs.declared.load.Given.{Given as Entry}
use Rattle.sw_tree.specs.declared.load.Member.{Member}
use Rattle.sw_tree.specs.declared.load.Namespace.{Namespace}
use Rattle.sw_tree.specs.declared.load.Namespace.TheVariants.{Default, Written, Without}
use Rattle.sw_tree.specs.declared.load.Url.{Url}
use Rattle.sw_tree.specs.declared.load.Use.{Use}
use Rattle.sw_tree.specs.declared.statement.AtRoot.{AtRoot}
use Rattle.sw_tree.specs.declared.statement.AtRule.{AtRule}
use Rattle.sw_tree.specs.declared.statement.Branch.{Branch}
use Rattle.sw_tree.specs.declared.statement.Each.{Each}
use Rattle.sw_tree.specs.declared.statement.For.{For}
use Rattle.sw_tree.specs.declared.statement.Media.{Media}
use Rattle.sw_tree.specs.declared.statement.Properties.{Properties}
use Rattle.sw_tree.specs.declared.statement.Rule.{Rule}
use Rattle.sw_tree.specs.declared.statement.Statement.{Statement, out-Statement}
use Rattle.sw_tree.specs.declared.statement.Statement.TheOpen.{Statement-F}
use Rattle.sw_tree.specs.declared.statement.Supports.{Supports}
use Rattle.sw_tree.specs.declared.statement.While.{While}
use Rattle.sw_world.specs.declared.question.Filter.{Filter as Passing}
use Rattle.sw_world.specs.declared.question.Filter.TheVariants as W
use Rattle.sw_world.specs.declared.question.Given.{Given}
use Rattle.sw_world.specs.declared.question.How.{How}
use Rattle.sw_world.specs.declared.question.How.TheVariants as H
use Rattle.sw_world.specs.declared.question.Member.{Member as Named}
use Rattle.sw_world.specs.declared.question.Question.{Question}
use Rattle.sw_world.specs.declared.question.Question.TheVariants as O
use Rattle.sw_eval_configurations.specs.declared.loads.Load.{Load}
use Rattle.sw_eval_configurations.specs.declared.loads.Load.TheVariants as L

-- a statement that loads a module
pub data Loading : Type 0 where
  Using : Use → Loading
  Forwarding : Forward → Loading

-- what the code has of it
abbrev pub seen : Load → Loading
seen (L.Use x) = Using x.now
seen (L.Forward x) = Forwarding x.now

abbrev pub Layer : Type 0
Layer = Statement-F Statement Callable Content AtRoot AtRule Branch Each For Media Properties Rule Supports While

abbrev pub load_by : Layer → Option Loading
load_by (Statement-F.Use x) = Some (Using x)
load_by (Statement-F.Forward x) = Some (Forwarding x)
load_by _ = None

-- of a statement that loads a module
unfoldable pub load_of : Statement → Option Loading
load_of x = load_by (out-Statement x)

abbrev pub url_of : Loading → Url
url_of (Using x) = x.url
url_of (Forwarding x) = x.url

-- where it stands
abbrev pub span_of : Loading → Span
span_of (Using x) = x.span
span_of (Forwarding x) = x.span

-- the entries of its `with`, in order
abbrev pub entries_of : Loading → List Entry
entries_of (Using x) = x.configuration
entries_of (Forwarding x) = x.configuration

-- none where the members are written without one
abbrev pub space_of : Namespace → Option (List ℕ)
space_of (Default name) = Some name
space_of (Written name) = Some name
space_of Without = None

abbrev pub named : List Member → List Named
named members = map (λ m. record { variable = m.variable; name = m.name }) members

abbrev pub filter_of : Filter → Passing
filter_of F.All = W.All
filter_of (F.Show members) = W.Show (named members)
filter_of (F.Hide members) = W.Hide (named members)

abbrev pub prefix_by : Option (List ℕ) → List ℕ
prefix_by (Some prefix) = dashed prefix
prefix_by None = []

-- the prefix of a forward, with `-` for each `_`
abbrev pub prefix_of : Forward → List ℕ
prefix_of f = prefix_by f.prefix

-- how the module is loaded
abbrev pub how_of : Loading → How
how_of (Using x) = H.Use (space_of x.namespace)
how_of (Forwarding x) = H.Forward (prefix_of x) (filter_of x.filter)

-- what a load in the module of this path asks, where it gives these values
abbrev pub load_op : List ℕ → Loading → List Given → Question
load_op path l given = O.Load path (url_of l).text (url_of l).span (how_of l) given
