-- The configuration of a load, as both statements that load have it.
use Rattle.std.specs.Prelude.{List, [], ◌∷◌, ◌++◌, map}
use Rattle.sw_parse_grammar.specs.Grammar.{Grammar, keep, skip, seq, alt, sep, empty, group, build}
use Rattle.sw_parse_terminals.specs.declared.terminal.Terminal.TheVariants as terminals
use Rattle.sw_parse_terminals.specs.Numbers.{just}
use Rattle.sw_parse_table.specs.declared.source.Source.{Source}
use Rattle.sw_parse_table.specs.Parts.{Part, Place, Values, Gives, Form, Giving, Passing}
use Rattle.sw_parse_table.specs.Expressions.{colon_space}
use Rattle.sw_parse_table.specs.Statements.{default_flag, given_name, given, passed, as_name, with_given, with_passed}
use Rattle.sw_parse_table.specs.Actions.{to_given}
use Rattle.sw_parse_statement_text.specs.declared.given.Load.{Load}
use Rattle.sw_parse_statement_text.specs.declared.given.Load.TheVariants as loads
use Rattle.sw_parse_statement_text.specs.declared.given.Valued.{Valued}
use Rattle.sw_parse_statement_text.specs.declared.loading.Loaded.{Loaded}
use Rattle.sw_parse_statement_text.specs.Rows.{place_in}

-- `!default` may stand behind a value under `@forward` alone
abbrev pub flag_of : Source → Load → Grammar Part Form
flag_of source loads.Use = empty
flag_of source loads.Forward = alt (default_flag source) empty

-- a value and its flag
abbrev pub valued_of : Source → Load → Grammar Part Form
valued_of source load = seq (colon_space source) (flag_of source load)

abbrev pub valued_parts : Valued → List Part
valued_parts valued = Values valued.value ∷ place_in valued.flag

-- a variable by its name with its value
abbrev pub named_row : Source → Load → Grammar Part Form
named_row source load = build (to_given source) (seq (given_name source) (valued_of source load))

-- one variable, all of them, these in parentheses, and `with` before them
abbrev pub given_row : Source → Load → Grammar Part Form
given_row source loads.Use = given source
given_row source loads.Forward = passed source

abbrev pub giving_row : Source → Load → Grammar Part Form
giving_row source load = seq (given_row source load) (sep (just terminals.Comma) (given_row source load))

abbrev pub form_of : Load → Form
form_of loads.Use = Giving
form_of loads.Forward = Passing

abbrev pub configuration_row : Load → Grammar Part Form
configuration_row load = group (just terminals.HeadParen) (form_of load) (just terminals.ParenEnd)

abbrev pub worded_row : Load → Grammar Part Form
worded_row load = seq (skip (just terminals.With)) (configuration_row load)

abbrev pub with_row : Source → Load → Grammar Part Form
with_row source loads.Use = with_given source
with_row source loads.Forward = with_passed source

-- `@use` up to its end, and what was read of it
abbrev pub use_row : Source → Grammar Part Form
use_row source =
    seq (skip (just terminals.AtUse)) (seq (keep (just terminals.LoadUrl)) (seq (as_name source) (with_given source)))

abbrev pub loaded_parts : Loaded → List Part
loaded_parts loaded = Place loaded.url ∷ (place_in loaded.name ++ map Gives loaded.configuration)
