-- Texts with `#{}`: what opens one in each kind of text, and which terminal its own pieces are.
use Rattle.sw_parse_grammar.specs.Grammar.{Grammar, skip, alt, group, build}
use Rattle.sw_parse_terminals.specs.declared.terminal.Terminal.{Terminal}
use Rattle.sw_parse_terminals.specs.declared.terminal.Terminal.TheVariants as terminals
use Rattle.sw_parse_terminals.specs.Numbers.{just}
use Rattle.sw_parse_table.specs.declared.source.Source.{Source}
use Rattle.sw_parse_table.specs.Parts.{Part, Form, Value}
use Rattle.sw_parse_table.specs.Values.{to_insert}
use Rattle.sw_parse_expr_lists.specs.declared.word.Pieces.{Pieces}
use Rattle.sw_parse_expr_lists.specs.declared.word.Pieces.TheVariants as kinds

-- `#{}` behind an opening token
abbrev pub insertion : Source → Terminal → Grammar Part Form
insertion source opening = build (to_insert source) (group (just opening) Value (just terminals.InsertEnd))

abbrev pub plain_of : Pieces → Terminal
plain_of kinds.Url = terminals.Piece
plain_of kinds.Word = terminals.Part

abbrev pub opening_of : Pieces → Terminal
opening_of kinds.Url = terminals.Insert
opening_of kinds.Word = terminals.PartInsert

-- a piece of the text itself, or a `#{}`
abbrev pub piece_of : Source → Pieces → Grammar Part Form
piece_of source kind = alt (skip (just (plain_of kind))) (insertion source (opening_of kind))
