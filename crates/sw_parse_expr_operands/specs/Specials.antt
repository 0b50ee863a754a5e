-- Rows of the text of special functions that functions read.
use Rattle.sw_parse_grammar.specs.Grammar.{Grammar, group}
use Rattle.sw_parse_terminals.specs.declared.terminal.Terminal.TheVariants.{RawParen, RawParenEnd}
use Rattle.sw_parse_terminals.specs.Numbers.{just}
use Rattle.sw_parse_table.specs.Parts.{Part, Form, SpecialInside}

-- a special function's own parentheses
abbrev pub own_parens : Grammar Part Form
own_parens = group (just RawParen) SpecialInside (just RawParenEnd)
