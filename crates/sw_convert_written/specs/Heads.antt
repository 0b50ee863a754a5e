-- The text of a statement up to its end or its first block (the layout is this project's own).
use Rattle.std.specs.Prelude.{ℕ, Bool, true, false, ◌&&◌, if◌then◌else◌, List, [], ◌∷◌, ◌++◌, map, Option, Some, None, codes}
use Rattle.sw_tree.specs.declared.callable.Kind.{Kind}
use Rattle.sw_tree.specs.declared.callable.Kind.TheVariants as kinds
use Rattle.sw_tree.specs.declared.callable.Mixin.{Mixin}
use Rattle.sw_tree.specs.declared.callable.Param.{Param}
use Rattle.sw_tree.specs.declared.callable.Params.{Params}
use Rattle.sw_tree.specs.declared.expr.Argument.{Argument}
use Rattle.sw_tree.specs.declared.expr.Expr.{Expr}
use Rattle.sw_tree.specs.declared.load.Filter.{Filter}
use Rattle.sw_tree.specs.declared.load.Filter.TheVariants as filters
use Rattle.sw_tree.specs.declared.load.Forward.{Forward}
use Rattle.sw_tree.specs.declared.load.Given.{Given}
use Rattle.sw_tree.specs.declared.load.Member.{Member}
use Rattle.sw_tree.specs.declared.load.Namespace.{Namespace}
use Rattle.sw_tree.specs.declared.load.Namespace.TheVariants as namespaces
use Rattle.sw_tree.specs.declared.load.Use.{Use}
use Rattle.sw_tree.specs.declared.statement.Assignment.{Assignment}
use Rattle.sw_tree.specs.declared.statement.Bounds.{Bounds}
use Rattle.sw_tree.specs.declared.statement.ContentCall.{ContentCall}
use Rattle.sw_tree.specs.declared.statement.Custom.{Custom}
use Rattle.sw_tree.specs.declared.statement.Declaration.{Declaration}
use Rattle.sw_tree.specs.declared.statement.Flags.{Flags}
use Rattle.sw_tree.specs.declared.statement.Level.{Level}
use Rattle.sw_tree.specs.declared.statement.Level.TheVariants as levels
use Rattle.sw_tree.specs.declared.statement.Say.{Say}
use Rattle.sw_tree.specs.declared.statement.Variable.{Variable}
use Rattle.sw_tree.specs.declared.text.Text.{Text}
use Rattle.sw_convert_spelling.specs.Strings.{string_text}
use Rattle.sw_convert_written.specs.declared.manner.Manner.TheVariants as manners
use Rattle.sw_convert_written.specs.Escapes.{apart, break_behind, space_behind}
use Rattle.sw_convert_written.specs.Names.{name_text, dollar_name}
use Rattle.sw_convert_written.specs.Pieces.{pieces_text}
use Rattle.sw_convert_written.specs.Rules.{rule_pieces}
use Rattle.sw_convert_written.specs.Expressions.{with_commas, space_text, qualified_text, is_url, call_opening, of_argument, argument_text, expr_text, parts_written}

-- ---- texts

-- a name or a url in which values may stand, raw text, media queries, and what stands before a rule's block
abbrev pub plain_text : Text → List ℕ
plain_text text = pieces_text manners.Joined (parts_written text.parts)

-- a `\` at the end of raw text has a line break behind it
abbrev pub unescaping : List ℕ → List ℕ
unescaping text = text ++ break_behind text

abbrev pub seamed_text : Text → List ℕ
seamed_text text = pieces_text manners.Seamed (parts_written text.parts)

abbrev pub raw_text : Text → List ℕ
raw_text text = unescaping (seamed_text text)

abbrev pub queries_text : Text → List ℕ
queries_text text = pieces_text manners.Queried (parts_written text.parts)

abbrev pub selector_text : Text → List ℕ
selector_text text = unescaping (rule_pieces (parts_written text.parts))

-- a space and a text, where there is one
abbrev pub spaced_raw : Option Text → List ℕ
spaced_raw None = []
spaced_raw (Some text) = codes " " ++ raw_text text

abbrev pub spaced_value : Option Expr → List ℕ
spaced_value None = []
spaced_value (Some value) = codes " " ++ expr_text value

-- ---- variables and declarations

-- a word with a space before it, behind a text
abbrev pub word_behind : List ℕ → List ℕ → List ℕ
word_behind word text = space_behind text ++ word

-- a flag behind a text, where it's written
abbrev pub flag_behind : Bool → List ℕ → List ℕ → List ℕ
flag_behind false flag text = []
flag_behind true flag text = word_behind flag text

abbrev pub flagged : Bool → List ℕ → List ℕ → List ℕ
flagged written flag text = text ++ flag_behind written flag text

abbrev pub with_flags : Flags → List ℕ → List ℕ
with_flags flags text = flagged flags.global (codes "!global") (flagged flags.default (codes "!default") text)

abbrev pub variable_text : Variable → List ℕ
variable_text variable =
    with_flags variable.flags (dollar_name variable.name ++ (codes ": " ++ expr_text variable.value))

abbrev pub assignment_text : Assignment → List ℕ
assignment_text assignment =
    with_flags assignment.flags (qualified_text assignment.target ++ (codes ": " ++ expr_text assignment.value))

abbrev pub declaration_text : Declaration → List ℕ
declaration_text declaration = plain_text declaration.property ++ (codes ": " ++ expr_text declaration.value)

abbrev pub custom_text : Custom → List ℕ
custom_text custom = plain_text custom.property ++ (codes ":" ++ spaced_raw custom.value)

abbrev pub properties_head : Text → Option Expr → List ℕ
properties_head property value = plain_text property ++ (codes ":" ++ spaced_value value)

-- ---- loads

abbrev pub as_text : Namespace → List ℕ
as_text (namespaces.Default name) = []
as_text (namespaces.Written name) = codes " as " ++ name
as_text namespaces.Without = codes " as *"

abbrev pub given_text : Given → List ℕ
given_text given =
    flagged given.default (codes "!default") (dollar_name given.name ++ (codes ": " ++ expr_text given.value))

-- the configuration behind a text, where there is one
abbrev pub given_behind : List Given → List ℕ → List ℕ
given_behind [] text = []
given_behind (given ∷ givens) text =
    word_behind (codes "with (") text ++ (with_commas true (map given_text (given ∷ givens)) ++ codes ")")

abbrev pub configured : List Given → List ℕ → List ℕ
configured givens text = text ++ given_behind givens text

abbrev pub use_text : Use → List ℕ
use_text load = configured load.configuration (codes "@use " ++ (string_text load.url.text ++ as_text load.namespace))

abbrev pub prefix_text : Option (List ℕ) → List ℕ
prefix_text None = []
prefix_text (Some prefix) = codes " as " ++ (prefix ++ codes "*")

abbrev pub member_text : Member → List ℕ
member_text member = if member.variable then dollar_name member.name else name_text member.name

abbrev pub filter_text : Filter → List ℕ
filter_text filters.All = []
filter_text (filters.Show members) = codes " show " ++ with_commas true (map member_text members)
filter_text (filters.Hide members) = codes " hide " ++ with_commas true (map member_text members)

abbrev pub forward_text : Forward → List ℕ
forward_text load =
    configured load.configuration
    (codes "@forward " ++ (string_text load.url.text ++ (prefix_text load.prefix ++ filter_text load.filter)))

-- ---- members

abbrev pub default_text : Option Expr → List ℕ
default_text None = []
default_text (Some value) = codes ": " ++ expr_text value

abbrev pub param_text : Param → List ℕ
param_text param = dollar_name param.name ++ default_text param.default

abbrev pub comma_behind : List Param → List ℕ
comma_behind [] = []
comma_behind (param ∷ params) = codes ", "

abbrev pub rest_text : List Param → Option (List ℕ) → List ℕ
rest_text params None = []
rest_text params (Some name) = comma_behind params ++ (dollar_name name ++ codes "...")

abbrev pub params_text : Params → List ℕ
params_text params = codes "(" ++ (with_commas true (map param_text params.items) ++ (rest_text params.items params.rest ++ codes ")"))

abbrev pub none_in : List Param → Option (List ℕ) → Bool
none_in [] None = true
none_in _ _ = false

abbrev pub has_none : Params → Bool
has_none params = none_in params.items params.rest

abbrev pub mixin_params : Params → List ℕ
mixin_params params = if has_none params then [] else params_text params

-- a comment, so that no parameters behind such a name are no url
abbrev pub param_guard : List ℕ → Params → List ℕ
param_guard name params = if is_url name && has_none params then apart else []

abbrev pub function_params : List ℕ → Params → List ℕ
function_params name params = param_guard name params ++ params_text params

abbrev pub callable_head : Kind → List ℕ → Params → List ℕ
callable_head kinds.Mixin name params = codes "@mixin " ++ (name_text name ++ mixin_params params)
callable_head _ name params = codes "@function " ++ (name_text name ++ function_params name params)

-- arguments in parentheses, behind what begins a url with a `(` or not
abbrev pub given_behind_name : Bool → List Argument → List ℕ
given_behind_name url [] = []
given_behind_name url (argument ∷ arguments) =
    call_opening url (map of_argument (argument ∷ arguments))
    ++ (with_commas true (map argument_text (argument ∷ arguments)) ++ codes ")")

abbrev pub given_arguments : List Argument → List ℕ
given_arguments arguments = given_behind_name false arguments

abbrev pub include_text : Mixin → List ℕ
include_text mixin =
    codes "@include "
    ++ (space_text mixin.namespace ++ (name_text mixin.name ++ given_behind_name (is_url mixin.name) mixin.arguments))

-- the parameters of a content block behind a text, where it has any
abbrev pub using_behind : Params → List ℕ → List ℕ
using_behind params text = if has_none params then [] else word_behind (codes "using ") text ++ params_text params

abbrev pub using_params : Params → List ℕ → List ℕ
using_params params text = text ++ using_behind params text

abbrev pub content_text : ContentCall → List ℕ
content_text call = codes "@content" ++ given_arguments call.arguments

-- ---- flow

abbrev pub say_word : Level → List ℕ
say_word levels.Warn = codes "@warn "
say_word levels.Debug = codes "@debug "
say_word levels.Error = codes "@error "

abbrev pub say_text : Say → List ℕ
say_text say = say_word say.level ++ expr_text say.value

-- a text with a word behind it
abbrev pub then_word : List ℕ → List ℕ → List ℕ
then_word word text = text ++ word_behind word text

abbrev pub each_head : List (List ℕ) → Expr → List ℕ
each_head names value = then_word (codes "in ") (codes "@each " ++ with_commas true (map dollar_name names)) ++ expr_text value

abbrev pub end_word : Bool → List ℕ
end_word true = codes "through "
end_word false = codes "to "

abbrev pub for_head : List ℕ → Bounds → List ℕ
for_head name bounds =
    then_word (end_word bounds.through) (then_word (codes "from ") (codes "@for " ++ dollar_name name) ++ expr_text bounds.from)
    ++ expr_text bounds.to

abbrev pub at_root_head : Option Text → List ℕ
at_root_head selector = codes "@at-root" ++ spaced_raw selector

-- an at-rule's name, and what stands behind it
abbrev pub prelude_behind : Option Text → List ℕ → List ℕ
prelude_behind None name = []
prelude_behind (Some prelude) name = space_behind name ++ raw_text prelude

abbrev pub at_rule_head : Text → Option Text → List ℕ
at_rule_head name prelude = plain_text name ++ prelude_behind prelude (plain_text name)
