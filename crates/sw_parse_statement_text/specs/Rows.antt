-- The terminals with which parts of statements begin, and parts of the table's rows that readers answer.
use Rattle.std.specs.Prelude.{ℕ, List, [], ◌∷◌, ◌++◌, map, Option, Some, None}
use Rattle.sw_parse_grammar.specs.Grammar.{Grammar, keep, skip, seq, alt, many, group}
use Rattle.sw_parse_terminals.specs.declared.terminal.Terminal.{Terminal}
use Rattle.sw_parse_terminals.specs.declared.terminal.Terminal.TheVariants as terminals
use Rattle.sw_parse_terminals.specs.Numbers.{these, just}
use Rattle.sw_tree.specs.declared.text.Text.{Text as TreeText}
use Rattle.sw_parse_table.specs.declared.source.Source.{Source}
use Rattle.sw_parse_table.specs.Parts.{Part, Place, Texts, Members, Form, RawInside}
use Rattle.sw_parse_table.specs.Expressions.{insert}
use Rattle.sw_parse_table.specs.Statements.{raw, optional_raw, member_}
use Rattle.sw_parse_statement_text.specs.declared.filter.Passed.{Passed}

-- the brackets that raw text may open, and what begins it
abbrev pub raw_groups : List ℕ
raw_groups = these (terminals.RawParen ∷ terminals.RawBracket ∷ terminals.RawBrace ∷ [])

abbrev pub raw_starts : List ℕ
raw_starts = just terminals.Raw ++ raw_groups ++ just terminals.Insert

-- raw text in one kind of brackets
abbrev pub raw_group : Terminal → Terminal → Grammar Part Form
raw_group opening closing = group (just opening) RawInside (just closing)

-- raw text behind a word
abbrev pub worded_raw : Source → Terminal → Grammar Part Form
worded_raw source word = seq (skip (just word)) (raw source)

-- the raw text of a custom property behind its `:`
abbrev pub custom_value : Source → Grammar Part Form
custom_value source = seq (skip (just terminals.Colon)) (optional_raw source)

-- where a statement ends without `;`: before `}`, and at the end of the text, whose number is 0
abbrev pub ends_statement : List ℕ
ends_statement = just terminals.Close ++ 0 ∷ []

-- a comment that is a statement, without or with `#{}`
abbrev pub comment_row : Source → Grammar Part Form
comment_row source =
    alt (skip (just terminals.CommentWhole)) (seq (skip (just terminals.CommentTemplate)) (seq (many (alt (skip
    (just terminals.Piece)) (insert source))) (skip (just terminals.CommentEnd))))

-- what may stand behind `as` of `@use`
abbrev pub namespace_names : List ℕ
namespace_names = these (terminals.Named ∷ terminals.Star ∷ [])

abbrev pub filter_words : List ℕ
filter_words = these (terminals.Show ∷ terminals.Hide ∷ [])

-- a further name behind `show` or `hide`, and all of them with the word
abbrev pub comma_member : Source → Grammar Part Form
comma_member source = seq (skip (just terminals.Comma)) (member_ source)

abbrev pub passed_row : Source → Grammar Part Form
passed_row source = seq (keep filter_words) (seq (member_ source) (many (comma_member source)))

-- what was read, as the parts that the table builds
abbrev pub place_in : Option ℕ → List Part
place_in None = []
place_in (Some place) = Place place ∷ []

abbrev pub text_in : Option TreeText → List Part
text_in None = []
text_in (Some text) = Texts text ∷ []

abbrev pub passed_parts : Passed → List Part
passed_parts passed = Place passed.word ∷ Members passed.first ∷ map Members passed.rest

abbrev pub passed_in : Option Passed → List Part
passed_in None = []
passed_in (Some passed) = passed_parts passed
