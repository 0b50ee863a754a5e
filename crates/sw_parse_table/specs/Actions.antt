-- The parts of statements that are built of what was read.
use Rattle.std.specs.Prelude.{ℕ, List, [], ◌∷◌, ◌++◌, Option, Some, None, Bool, if◌then◌else◌}
use Rattle.std.specs.List.{list_any}
use Rattle.sw_parse_grammar.specs.Grammar.{member}
use Rattle.sw_text.specs.Names.{dashed}
use Rattle.sw_text.specs.declared.place.Span.{Span}
use Rattle.sw_tree.specs.declared.text.Text.{Text as TreeText}
use Rattle.sw_tree.specs.declared.expr.Expr.{Expr}
use Rattle.sw_tree.specs.declared.expr.Namespaced.{Namespaced}
use Rattle.sw_tree.specs.declared.expr.Argument.{Argument}
use Rattle.sw_tree.specs.declared.callable.Kind.{Kind}
use Rattle.sw_tree.specs.declared.callable.Params.{Params}
use Rattle.sw_tree.specs.declared.callable.Mixin.{Mixin}
use Rattle.sw_tree.specs.declared.callable.Content.{Content}
use Rattle.sw_tree.specs.declared.load.Url.{Url as LoadedUrl}
use Rattle.sw_tree.specs.declared.load.Namespace.{Namespace}
use Rattle.sw_tree.specs.declared.load.Namespace.TheVariants as namespaces
use Rattle.sw_tree.specs.declared.load.Filter.{Filter}
use Rattle.sw_tree.specs.declared.load.Filter.TheVariants as filters
use Rattle.sw_tree.specs.declared.statement.Flags.{Flags}
use Rattle.sw_tree.specs.declared.statement.Branch.{Branch}
use Rattle.sw_tree.specs.declared.statement.Level.{Level}
use Rattle.sw_tree.specs.declared.statement.Statement.{Statement}
use Rattle.sw_tree.specs.declared.statement.Statement.TheVariants as statements
use Rattle.sw_parse_terminals.specs.declared.terminal.Terminal.{Terminal}
use Rattle.sw_parse_terminals.specs.declared.terminal.Terminal.TheVariants as terminals
use Rattle.sw_parse_terminals.specs.Numbers.{just}
use Rattle.sw_parse_terminals.specs.Urls.{namespace_of}
use Rattle.sw_parse_table.specs.declared.source.Source.{Source}
use Rattle.sw_parse_table.specs.Parts.{Part, Place, Behind, Texts, Owns, Arguments, Values, Takes, Rests, Parameters, Gives, Members, Branches, Includes, Blocks, States, params_of, rest_of, givens_of, members_of, branches_of, block_of, places_of, statements_of}
use Rattle.sw_parse_table.specs.Sources.{terminal_at, decoded_at, span_between, span_at, bytes_at}
use Rattle.sw_parse_table.specs.Lined.{comment_text}
use Rattle.sw_parse_table.specs.Values.{namespaced, qualified_of}

-- a part and the place behind it
abbrev pub to_behind : ℕ → ℕ → List Part → List Part
to_behind at behind parts = parts ++ Behind behind ∷ []

abbrev pub to_block : List Part → List Part
to_block parts = Blocks (statements_of parts) ∷ []

abbrev pub params_with : List Part → Params
params_with parts = record { items = params_of parts; rest = rest_of parts }

abbrev pub to_parameters : List Part → List Part
to_parameters parts = Parameters (params_with parts) ∷ []

abbrev pub branch_of : Expr → List Statement → Branch
branch_of condition block = record { condition = condition; block = block }

abbrev pub to_branch : List Part → List Part
to_branch (Values condition ∷ Blocks block ∷ []) = Branches (branch_of condition block) ∷ []
to_branch _ = []

module _ (source : Source) where
  abbrev pub stands_at : ℕ → Terminal → Bool
  stands_at at terminal = member (terminal_at source at) (just terminal)

  abbrev pub name_at : ℕ → List ℕ
  name_at at = dashed (bytes_at source at)

  -- flags, by the places of their names
  abbrev pub flags_at : List ℕ → Flags
  flags_at places =
      record {
        default = list_any (λ at. stands_at at terminals.Default) places;
        global = list_any (λ at. stands_at at terminals.Global) places;
      }

  -- `$name: value flags`
  abbrev pub to_set : ℕ → ℕ → List Part → List Part
  to_set at behind (Place name ∷ Values value ∷ flags) =
      States (statements.Variable (record
      { name = name_at name; value = value; flags = flags_at (places_of flags); span = span_between source at behind }))
      ∷ []
  to_set at behind _ = []

  abbrev pub to_owner : ℕ → ℕ → List Part → List Part
  to_owner at behind (Place namespace ∷ Place name ∷ []) =
      Owns (qualified_of source namespace name) (span_between source at behind) ∷ []
  to_owner at behind _ = []

  -- `namespace.$name: value flags`
  abbrev pub to_assigned : ℕ → ℕ → List Part → List Part
  to_assigned at behind (Owns target target_span ∷ Values value ∷ flags) =
      States (statements.Assignment (record {
        target = target;
        target_span = target_span;
        value = value;
        flags = flags_at (places_of flags);
        span = span_between source at behind;
      })) ∷ []
  to_assigned at behind _ = []

  abbrev pub properties : ℕ → ℕ → TreeText → Option Expr → List Statement → List Part
  properties at behind property value block =
      States (statements.Properties
      (record { property = property; value = value; block = block; span = span_between source at behind })) ∷ []

  -- a declaration with a value, with a block, or with both
  abbrev pub to_declaration : ℕ → ℕ → List Part → List Part
  to_declaration at behind (Texts property ∷ Behind head ∷ Blocks block ∷ []) = properties at head property None block
  to_declaration at behind (Texts property ∷ Behind head ∷ Values value ∷ Behind end ∷ []) =
      States (statements.Declaration (record { property = property; value = value; span = span_between source at end }))
      ∷ []
  to_declaration at behind (Texts property ∷ Behind head ∷ Values value ∷ Behind end ∷ Blocks block ∷ []) =
      properties at end property (Some value) block
  to_declaration at behind _ = []

  abbrev pub custom_of : ℕ → ℕ → TreeText → Option TreeText → List Part
  custom_of at behind property value =
      States (statements.Custom (record { property = property; value = value; span = span_between source at behind }))
      ∷ []

  abbrev pub to_custom : ℕ → ℕ → List Part → List Part
  to_custom at behind (Texts property ∷ []) = custom_of at behind property None
  to_custom at behind (Texts property ∷ Texts value ∷ []) = custom_of at behind property (Some value)
  to_custom at behind _ = []

  -- statements of a text and a block
  abbrev pub to_rule : ℕ → ℕ → List Part → List Part
  to_rule at behind (Texts selector ∷ Behind head ∷ Blocks block ∷ []) =
      States (statements.Rule (record { selector = selector; block = block; span = span_between source at head })) ∷ []
  to_rule at behind _ = []

  abbrev pub to_supports : ℕ → ℕ → List Part → List Part
  to_supports at behind (Texts condition ∷ Behind head ∷ Blocks block ∷ []) =
      States (statements.Supports (record { condition = condition; block = block; span = span_between source at head }))
      ∷ []
  to_supports at behind _ = []

  abbrev pub to_media : ℕ → ℕ → List Part → List Part
  to_media at behind (Texts queries ∷ Behind head ∷ Blocks block ∷ []) =
      States (statements.Media (record { queries = queries; block = block; span = span_between source at head })) ∷ []
  to_media at behind _ = []

  abbrev pub at_root_of : ℕ → ℕ → Option TreeText → List Statement → List Part
  at_root_of at behind selector block =
      States (statements.AtRoot (record { selector = selector; block = block; span = span_between source at behind }))
      ∷ []

  abbrev pub to_at_root : ℕ → ℕ → List Part → List Part
  to_at_root at behind (Behind head ∷ Blocks block ∷ []) = at_root_of at head None block
  to_at_root at behind (Texts selector ∷ Behind head ∷ Blocks block ∷ []) = at_root_of at head (Some selector) block
  to_at_root at behind _ = []

  abbrev pub at_rule_of : ℕ → ℕ → TreeText → Option TreeText → Option (List Statement) → List Part
  at_rule_of at behind name prelude block =
      States (statements.AtRule
      (record { name = name; prelude = prelude; block = block; span = span_between source at behind })) ∷ []

  abbrev pub to_at_rule : ℕ → ℕ → List Part → List Part
  to_at_rule at behind (Texts name ∷ Behind head ∷ parts) = at_rule_of at head name None (block_of parts)
  to_at_rule at behind (Texts name ∷ Texts prelude ∷ Behind head ∷ parts) =
      at_rule_of at head name (Some prelude) (block_of parts)
  to_at_rule at behind _ = []

  abbrev pub to_import : ℕ → ℕ → List Part → List Part
  to_import at behind (Texts text ∷ []) =
      States (statements.Import (record { text = text; span = span_between source at behind })) ∷ []
  to_import at behind _ = []

  abbrev pub to_extend : ℕ → ℕ → List Part → List Part
  to_extend at behind (Texts text ∷ []) =
      States (statements.Extend (record { text = text; span = span_between source at behind })) ∷ []
  to_extend at behind _ = []

  abbrev pub to_charset : ℕ → ℕ → List Part → List Part
  to_charset at behind parts = States (statements.Charset (span_between source at behind)) ∷ []

  abbrev pub to_comment : ℕ → ℕ → List Part → List Part
  to_comment at behind inserts = States (statements.Comment (comment_text source at behind inserts)) ∷ []

  -- loads
  abbrev pub url_at : ℕ → LoadedUrl
  url_at at = record { text = decoded_at source at; span = span_at source at }

  abbrev pub namespace_by : ℕ → List Part → Namespace
  namespace_by url (Place name ∷ parts) =
      if stands_at name terminals.Star then namespaces.Without else namespaces.Written (bytes_at source name)
  namespace_by url _ = namespaces.Default (namespace_of (decoded_at source url))

  abbrev pub to_use : ℕ → ℕ → List Part → List Part
  to_use at behind (Place url ∷ parts) =
      States (statements.Use (record {
        url = url_at url;
        namespace = namespace_by url parts;
        configuration = givens_of parts;
        span = span_between source at behind;
      })) ∷ []
  to_use at behind _ = []

  abbrev pub to_given : ℕ → ℕ → List Part → List Part
  to_given at behind (Place name ∷ Behind head ∷ Values value ∷ flags) =
      Gives (record {
        name = name_at name;
        name_span = span_between source at head;
        value = value;
        default = list_any (λ flag. stands_at flag terminals.Default) (places_of flags);
      }) ∷ []
  to_given at behind _ = []

  abbrev pub to_member : ℕ → ℕ → List Part → List Part
  to_member at behind (Place name ∷ []) =
      Members (record { variable = stands_at name terminals.VariableName; name = name_at name }) ∷ []
  to_member at behind _ = []

  abbrev pub filter_by : List Part → Filter
  filter_by (Place word ∷ parts) =
      if stands_at word terminals.Show then filters.Show (members_of parts) else filters.Hide (members_of parts)
  filter_by _ = filters.All

  abbrev pub forward_of : ℕ → ℕ → ℕ → Option (List ℕ) → List Part → List Part
  forward_of at behind url prefix parts =
      States (statements.Forward (record {
        url = url_at url;
        prefix = prefix;
        filter = filter_by parts;
        configuration = givens_of parts;
        span = span_between source at behind;
      })) ∷ []

  abbrev pub to_forward : ℕ → ℕ → List Part → List Part
  to_forward at behind (Place url ∷ Behind head ∷ parts) = forward_of at behind url None parts
  to_forward at behind (Place url ∷ Place prefix ∷ Behind head ∷ parts) =
      forward_of at behind url (Some (bytes_at source prefix)) parts
  to_forward at behind _ = []

  -- functions and mixins
  abbrev pub to_param : ℕ → ℕ → List Part → List Part
  to_param at behind (Place name ∷ []) = Takes (record { name = name_at name; default = None }) ∷ []
  to_param at behind (Place name ∷ Values default ∷ []) =
      Takes (record { name = name_at name; default = Some default }) ∷ []
  to_param at behind (Place name ∷ Place dots ∷ []) = Rests (name_at name) ∷ []
  to_param at behind _ = []

  abbrev pub callable_of : Kind → ℕ → ℕ → ℕ → Params → List Statement → List Part
  callable_of kind at behind name params block =
      States (statements.Callable (record
      { kind = kind; name = name_at name; params = params; block = block; span = span_between source at behind })) ∷ []

  abbrev pub to_callable : Kind → ℕ → ℕ → List Part → List Part
  to_callable kind at behind (Place name ∷ Behind head ∷ Blocks block ∷ []) =
      callable_of kind at head name (params_with []) block
  to_callable kind at behind (Place name ∷ Parameters params ∷ Behind head ∷ Blocks block ∷ []) =
      callable_of kind at head name params block
  to_callable kind at behind _ = []

  abbrev pub mixin_of : Option Namespaced → ℕ → Span → List Argument → Mixin
  mixin_of namespace name span arguments =
      record { namespace = namespace; name = name_at name; name_span = span; arguments = arguments }

  abbrev pub to_include_name : ℕ → ℕ → List Part → List Part
  to_include_name at behind (Place name ∷ []) = Includes (mixin_of None name (span_between source at behind) []) ∷ []
  to_include_name at behind (Place namespace ∷ Place name ∷ []) =
      Includes (mixin_of (Some (namespaced source namespace)) name (span_between source at behind) []) ∷ []
  to_include_name at behind _ = []

  abbrev pub with_arguments : Mixin → List Argument → Mixin
  with_arguments mixin arguments =
      record { namespace = mixin.namespace; name = mixin.name; name_span = mixin.name_span; arguments = arguments }

  abbrev pub include_of : ℕ → ℕ → Mixin → Option Content → List Part
  include_of at behind mixin content =
      States (statements.Include mixin content (span_between source at behind)) ∷ []

  abbrev pub content_with : Params → List Statement → Option Content
  content_with params block = Some (record { params = params; block = block })

  abbrev pub include_end : ℕ → ℕ → Mixin → Params → List Part → List Part
  include_end at behind mixin params [] = include_of at behind mixin None
  include_end at behind mixin params (Blocks block ∷ []) = include_of at behind mixin (content_with params block)
  include_end at behind mixin params _ = []

  abbrev pub to_include : ℕ → ℕ → List Part → List Part
  to_include at behind (Includes mixin ∷ Arguments arguments ∷ Parameters params ∷ Behind head ∷ parts) =
      include_end at head (with_arguments mixin arguments) params parts
  to_include at behind (Includes mixin ∷ Arguments arguments ∷ Behind head ∷ parts) =
      include_end at head (with_arguments mixin arguments) (params_with []) parts
  to_include at behind (Includes mixin ∷ Parameters params ∷ Behind head ∷ parts) =
      include_end at head mixin params parts
  to_include at behind (Includes mixin ∷ Behind head ∷ parts) = include_end at head mixin (params_with []) parts
  to_include at behind _ = []

  abbrev pub content_call : ℕ → ℕ → List Argument → List Part
  content_call at behind arguments =
      States (statements.Content (record { arguments = arguments; span = span_between source at behind })) ∷ []

  abbrev pub to_content : ℕ → ℕ → List Part → List Part
  to_content at behind [] = content_call at behind []
  to_content at behind (Arguments arguments ∷ []) = content_call at behind arguments
  to_content at behind _ = []

  -- flow
  abbrev pub to_return : ℕ → ℕ → List Part → List Part
  to_return at behind (Values value ∷ []) =
      States (statements.Return (record { value = value; span = span_between source at behind })) ∷ []
  to_return at behind _ = []

  abbrev pub to_say : Level → ℕ → ℕ → List Part → List Part
  to_say level at behind (Values value ∷ []) =
      States (statements.Say (record { level = level; value = value; span = span_between source at behind })) ∷ []
  to_say level at behind _ = []

  abbrev pub to_if : ℕ → ℕ → List Part → List Part
  to_if at behind (Values condition ∷ Behind head ∷ Blocks block ∷ parts) =
      States (statements.If (branch_of condition block ∷ branches_of parts) (block_of parts)
      (span_between source at head)) ∷ []
  to_if at behind _ = []

  abbrev pub names_at : List ℕ → List (List ℕ)
  names_at [] = []
  names_at (at ∷ places) = name_at at ∷ names_at places

  abbrev pub each_of : ℕ → List ℕ → List Part → List Part
  each_of at names (Place name ∷ parts) = each_of at (names ++ name ∷ []) parts
  each_of at names (Values value ∷ Behind head ∷ Blocks block ∷ []) =
      States (statements.Each
      (record { names = names_at names; value = value; block = block; span = span_between source at head })) ∷ []
  each_of at names _ = []

  abbrev pub to_each : ℕ → ℕ → List Part → List Part
  to_each at behind parts = each_of at [] parts

  abbrev pub to_for : ℕ → ℕ → List Part → List Part
  to_for at behind (Place name ∷ Values from ∷ Place word ∷ Values to ∷ Behind head ∷ Blocks block ∷ []) =
      States (statements.For (record {
        name = name_at name;
        bounds = record { from = from; to = to; through = stands_at word terminals.Through };
        block = block;
        span = span_between source at head;
      })) ∷ []
  to_for at behind _ = []

  abbrev pub to_while : ℕ → ℕ → List Part → List Part
  to_while at behind (Values condition ∷ Behind head ∷ Blocks block ∷ []) =
      States (statements.While (record { condition = condition; block = block; span = span_between source at head }))
      ∷ []
  to_while at behind _ = []
