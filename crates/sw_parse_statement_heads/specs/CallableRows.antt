-- Parts of the table's rows of parameters and includes that readers answer, and what was read of each.
use Rattle.std.specs.Prelude.{ℕ, List, [], ◌∷◌, Option, Some, None}
use Rattle.sw_parse_grammar.specs.Grammar.{Grammar, keep, skip, empty, seq, alt, sep}
use Rattle.sw_parse_terminals.specs.declared.terminal.Terminal.TheVariants as terminals
use Rattle.sw_parse_terminals.specs.Numbers.{just}
use Rattle.sw_tree.specs.declared.callable.Param.{Param}
use Rattle.sw_tree.specs.declared.expr.Expr.{Expr}
use Rattle.sw_tree.specs.declared.expr.Namespaced.{Namespaced}
use Rattle.sw_parse_table.specs.declared.source.Source.{Source}
use Rattle.sw_parse_table.specs.Parts.{Part, Form, Place, Values, Takes, Rests}
use Rattle.sw_parse_table.specs.Values.{namespaced}
use Rattle.sw_parse_table.specs.Expressions.{colon_space}
use Rattle.sw_parse_table.specs.Statements.{param, params}
use Rattle.sw_parse_statement_heads.specs.declared.param.BehindName.{BehindName}
use Rattle.sw_parse_statement_heads.specs.declared.param.BehindName.TheVariants as behinds
use Rattle.sw_parse_statement_heads.specs.declared.param.Parameter.{Parameter}
use Rattle.sw_parse_statement_heads.specs.declared.param.Parameter.TheVariants as parameters
use Rattle.sw_parse_statement_heads.specs.CallableHeads.{optional_arguments}

-- what may stand behind the name of a parameter, and what did
abbrev pub dots_row : Grammar Part Form
dots_row = alt (keep (just terminals.Ellipsis)) empty

abbrev pub behind_name : Source → Grammar Part Form
behind_name source = alt (colon_space source) dots_row

abbrev pub behind_parts : BehindName → List Part
behind_parts behinds.Nothing = []
behind_parts (behinds.Default value) = Values value ∷ []
behind_parts (behinds.Rest dots) = Place dots ∷ []

abbrev pub param_of : List ℕ → Option Expr → Param
param_of name default = record { name = name; default = default }

-- the parameter of a name
abbrev pub named_part : List ℕ → BehindName → Part
named_part name behinds.Nothing = Takes (param_of name None)
named_part name (behinds.Default value) = Takes (param_of name (Some value))
named_part name (behinds.Rest dots) = Rests name

abbrev pub parameter_part : Parameter → Part
parameter_part (parameters.Taken param) = Takes param
parameter_part (parameters.Rest name) = Rests name

-- all parameters, and where there may be none
abbrev pub several_row : Source → Grammar Part Form
several_row source = seq (param source) (sep (just terminals.Comma) (param source))

abbrev pub listed_row : Source → Grammar Part Form
listed_row source = alt (several_row source) empty

abbrev pub using_row : Source → Grammar Part Form
using_row source = seq (skip (just terminals.Using)) (params source)

-- the parameter that something is, unless it takes the rest; and the first name that takes the rest, else another
abbrev pub taken : Parameter → List Param
taken (parameters.Taken one) = one ∷ []
taken (parameters.Rest name) = []

abbrev pub rest_else : Option (List ℕ) → List Parameter → Option (List ℕ)
rest_else other [] = other
rest_else other (parameters.Taken one ∷ items) = rest_else other items
rest_else other (parameters.Rest name ∷ items) = Some name

-- the name of a mixin, with its namespace or without
abbrev pub mixin_name_row : Grammar Part Form
mixin_name_row =
    alt (keep (just terminals.Named)) (seq (keep (just terminals.Owner)) (seq (skip (just terminals.OwnerDot)) (keep
    (just terminals.Named))))

abbrev pub namespace_in : Source → Option ℕ → Option Namespaced
namespace_in source None = None
namespace_in source (Some place) = Some (namespaced source place)

-- `@content` with its arguments
abbrev pub content_row : Source → Grammar Part Form
content_row source = seq (skip (just terminals.AtContent)) (optional_arguments source)
