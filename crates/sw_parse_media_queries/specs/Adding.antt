-- What a function answers that adds the pieces that it reads to those that were read before.
use Rattle.std.specs.Prelude.{ℕ, List, map, codes, Result}
use Rattle.sw_parse_grammar.specs.Grammar.{Grammar, Answer, prepend, skip, group, build, anywhere}
use Rattle.sw_parse_grammar.specs.Readers.{Answers}
use Rattle.sw_parse_grammar.specs.declared.ReadError.{ReadError}
use Rattle.sw_parse_terminals.specs.declared.terminal.Terminal.{Terminal}
use Rattle.sw_parse_terminals.specs.declared.terminal.Terminal.TheVariants as terminals
use Rattle.sw_parse_terminals.specs.Numbers.{just}
use Rattle.sw_tree.specs.declared.text.Piece.{Piece}
use Rattle.sw_parse_table.specs.declared.source.Source.{Source}
use Rattle.sw_parse_table.specs.Parts.{Part, Form, Pieces}
use Rattle.sw_parse_table.specs.Values.{inserted_piece}
use Rattle.sw_parse_table.specs.Queries.{said_before, in_parens, to_token_piece}
use Rattle.sw_parse_expr_lists.specs.Inserts.{insertion}

-- the whole, with the place behind it, is what was read before and then what the reader answers
abbrev pub Adds : List Piece → List Piece → Result ℕ ReadError → Answer Part → Type 0
Adds before whole result answer =
    Answers (λ _. map Pieces whole) (λ next. next) result (prepend (map Pieces before) answer)

-- a token as it stands, and a `#{}` behind an opening token
abbrev pub token_piece : Source → Terminal → Grammar Part Form
token_piece source terminal = build (to_token_piece source) (skip (just terminal))

abbrev pub insert_piece : Source → Terminal → Grammar Part Form
insert_piece source opening = build (anywhere inserted_piece) (insertion source opening)

-- a form in parentheses of a kind, and the parenthesis behind one
abbrev pub parens : Terminal → Form → Grammar Part Form
parens opening form = build (anywhere in_parens) (group (just opening) form (just terminals.ParenEnd))

abbrev pub paren_end : Grammar Part Form
paren_end = build (anywhere (said_before (codes ")"))) (skip (just terminals.ParenEnd))
