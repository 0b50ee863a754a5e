-- The table: what stands in each kind of brackets, a whole sheet, and what is read by itself.
use Rattle.std.specs.Prelude.{ℕ, [], ◌∷◌, List}
use Rattle.sw_parse_grammar.specs.Grammar.{Grammar, ahead, seq, many}
use Rattle.sw_parse_terminals.specs.declared.terminal.Terminal.TheVariants as terminals
use Rattle.sw_parse_table.specs.declared.source.Source.{Source}
use Rattle.sw_parse_terminals.specs.Numbers.{these}
use Rattle.sw_parse_table.specs.Parts.{Part, Form, Whole, Block, Value, Inside, Items, Arguing, RawInside, SpecialInside, SpecialItems, Taking, Condition, Feature, Giving, Passing, SpaceList, Sum}
use Rattle.sw_parse_table.specs.Expressions.{expr, inside, items, arguing, special_inside, special_items, space, sum}
use Rattle.sw_parse_table.specs.Statements.{statement, raw_inside, taking, giving, passing}
use Rattle.sw_parse_table.specs.Queries.{condition, feature_inside}

module _ (source : Source) where
  abbrev pub forms : Form → Grammar Part Form
  forms Whole = seq (many (statement source)) (ahead (0 ∷ []))
  forms Block = many (statement source)
  forms Value = expr source
  forms Inside = inside source
  forms Items = items source
  forms Arguing = arguing source
  forms RawInside = raw_inside source
  forms SpecialInside = special_inside source
  forms SpecialItems = special_items source
  forms Taking = taking source
  forms Condition = condition source
  forms Feature = feature_inside source
  forms Giving = giving source
  forms Passing = passing source
  forms SpaceList = space source
  forms Sum = sum source

-- the tokens that open a level, and those that close one
abbrev pub opening : List ℕ
opening =
    these (terminals.Open ∷ terminals.RawParen ∷ terminals.RawBracket ∷ terminals.RawBrace ∷ terminals.Insert
    ∷ terminals.WordInsert ∷ terminals.PartInsert ∷ terminals.Paren ∷ terminals.ConditionParen ∷ terminals.Bracket
    ∷ terminals.CallParen ∷ terminals.HeadParen ∷ [])

abbrev pub closing : List ℕ
closing =
    these (terminals.Close ∷ terminals.RawParenEnd ∷ terminals.RawBracketEnd ∷ terminals.RawBraceEnd
    ∷ terminals.InsertEnd ∷ terminals.ParenEnd ∷ terminals.BracketEnd ∷ [])
