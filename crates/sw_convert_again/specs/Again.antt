-- What is written of a value that was read is read again, as a value like it.
use Rattle.std.specs.Prelude.{◌≡◌, ℕ, List, [], ◌∷◌}
use Rattle.sw_parse_grammar.specs.Grammar.{Grammar, keep, skip, seq, build, DerivesIn, Derives}
use Rattle.sw_parse_terminals.specs.declared.terminal.Terminal.TheVariants as terminals
use Rattle.sw_parse_terminals.specs.Numbers.{just}
use Rattle.sw_tree.specs.declared.expr.Expr.{Expr}
use Rattle.sw_parse_table.specs.declared.source.Source.{Source}
use Rattle.sw_parse_table.specs.Parts.{Part, Form, Values}
use Rattle.sw_parse_table.specs.Sources.{text_of}
use Rattle.sw_parse_table.specs.Table.{forms}
use Rattle.sw_parse_table.specs.Values.{to_called, to_owned}
use Rattle.sw_parse_table.specs.Expressions.{word, arguments_in, owned_call, expr}
use Rattle.sw_convert_alike.specs.Expressions.{Like}
use Rattle.sw_convert_again.specs.Tokens.{Tok, Stands, Begins}
use Rattle.sw_convert_again.specs.Spells.{Spells}

-- the tokens of a text derive this, with so many levels of brackets
abbrev pub Reads : Source → ℕ → Grammar Part Form → ℕ → ℕ → List Part → Type 0
Reads source n g = DerivesIn (text_of source) (Derives (forms source) (text_of source) n) g

-- between two places stands a value like this one
pub record Found (written : Source) (n : ℕ) (g : Grammar Part Form) (e : Expr) (p q : ℕ) : Type 0 where
  pub found : Expr
  pub reads : Reads written n g p q (Values found ∷ [])
  pub alike : Like e found

-- wherever these tokens stand they are read as a value like this one
abbrev pub Back : Source → ℕ → Grammar Part Form → Expr → List Tok → Type 0
Back written n g e tokens = (p q : ℕ) → Stands written p tokens q → Found written n g e p q

-- what was read is one value, it has tokens, and these are read again
pub record IsAgain (source written : Source) (n : ℕ) (g : Grammar Part Form) (i j : ℕ) (w : List Part) : Type 0 where
  pub value : Expr
  pub is : w ≡ Values value ∷ []
  pub tokens : List Tok
  pub spells : Spells source i j value tokens
  pub begins : Begins tokens
  pub back : Back written n g value tokens

-- all that a production derives is read again
abbrev pub Again : Source → Source → ℕ → (Source → Grammar Part Form) → Type 0
Again source written n g =
    (i j : ℕ) (w : List Part) → Reads source n (g source) i j w → IsAgain source written n (g written) i j w

-- a call behind a namespace
abbrev pub called_by_owner : Source → Grammar Part Form
called_by_owner source =
    build (to_owned source)
    (seq (keep (just terminals.Owner)) (seq (skip (just terminals.OwnerDot)) (owned_call source)))

-- a call without a namespace
abbrev pub called_by_name : Source → Grammar Part Form
called_by_name source = build (to_called source) (seq (word source) (arguments_in source))

-- all values are read again, through any number of brackets
abbrev pub ValuesAgain : Type 0
ValuesAgain = (source written : Source) (n : ℕ) → Again source written n expr
