-- The heads of what is declared and called: the rows of the table that build them, and what was read of each.
use Rattle.std.specs.Prelude.{List, [], ◌∷◌, ◌++◌, Option, Some, None}
use Rattle.sw_parse_grammar.specs.Grammar.{Grammar, keep, skip, empty, seq, alt, build}
use Rattle.sw_parse_terminals.specs.declared.terminal.Terminal.TheVariants as terminals
use Rattle.sw_parse_terminals.specs.Numbers.{just}
use Rattle.sw_tree.specs.declared.expr.Argument.{Argument}
use Rattle.sw_tree.specs.declared.callable.Params.{Params}
use Rattle.sw_parse_table.specs.declared.source.Source.{Source}
use Rattle.sw_parse_table.specs.Parts.{Part, Form, Place, Arguments, Parameters, Includes}
use Rattle.sw_parse_table.specs.Actions.{to_behind}
use Rattle.sw_parse_table.specs.Expressions.{arguments_in}
use Rattle.sw_parse_table.specs.Statements.{params, include_name, using}
use Rattle.sw_parse_statement_heads.specs.declared.callable.CallableHead.{CallableHead}
use Rattle.sw_parse_statement_heads.specs.declared.include.IncludeHead.{IncludeHead}

-- functions and mixins: the place of the name, and the parameters
abbrev pub params_in : Option Params → List Part
params_in None = []
params_in (Some params) = Parameters params ∷ []

abbrev pub callable_parts : CallableHead → List Part
callable_parts head = Place head.name ∷ params_in head.params

abbrev pub function_row : Source → Grammar Part Form
function_row source = seq (skip (just terminals.AtFunction)) (seq (keep (just terminals.Named)) (params source))

abbrev pub function_head : Source → Grammar Part Form
function_head source = build to_behind (function_row source)

abbrev pub optional_params : Source → Grammar Part Form
optional_params source = alt (params source) empty

abbrev pub mixin_row : Source → Grammar Part Form
mixin_row source = seq (skip (just terminals.AtMixin)) (seq (keep (just terminals.Named)) (optional_params source))

abbrev pub mixin_head : Source → Grammar Part Form
mixin_head source = build to_behind (mixin_row source)

-- includes: the mixin, the arguments for it and the parameters of the block, where they are written
abbrev pub arguments_parts : Option (List Argument) → List Part
arguments_parts None = []
arguments_parts (Some arguments) = Arguments arguments ∷ []

abbrev pub optional_arguments : Source → Grammar Part Form
optional_arguments source = alt (arguments_in source) empty

abbrev pub passed_row : Source → Grammar Part Form
passed_row source = seq (optional_arguments source) (using source)

abbrev pub include_row : Source → Grammar Part Form
include_row source = seq (skip (just terminals.AtInclude)) (seq (include_name source) (passed_row source))

abbrev pub include_head : Source → Grammar Part Form
include_head source = build to_behind (include_row source)

abbrev pub include_parts : IncludeHead → List Part
include_parts head = Includes head.mixin ∷ (arguments_parts head.arguments ++ params_in head.params)
