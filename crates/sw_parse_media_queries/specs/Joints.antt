-- The two words that join features, with what is written for each.
use Rattle.std.specs.Prelude.{ℕ, List, [], ◌∷◌, ◌++◌, codes}
use Rattle.sw_parse_grammar.specs.Grammar.{Grammar, seq, alt, skip, many, empty, build, anywhere}
use Rattle.sw_parse_terminals.specs.declared.terminal.Terminal.{Terminal}
use Rattle.sw_parse_terminals.specs.declared.terminal.Terminal.TheVariants as terminals
use Rattle.sw_parse_terminals.specs.Numbers.{these, just}
use Rattle.sw_parse_table.specs.declared.source.Source.{Source}
use Rattle.sw_parse_table.specs.Parts.{Part, Form}
use Rattle.sw_parse_table.specs.Expressions.{expr}
use Rattle.sw_parse_table.specs.Queries.{to_value_piece, to_token_piece, and_feature, or_feature, not_feature, feature, typed_part, typed_rest, comparison, colon_piece}
use Rattle.sw_parse_media_queries.specs.declared.feature.Joint.{Joint}
use Rattle.sw_parse_media_queries.specs.declared.feature.Joint.TheVariants as joints

abbrev pub word_of : Joint → Terminal
word_of joints.And = terminals.And
word_of joints.Or = terminals.Or

abbrev pub text_of : Joint → List ℕ
text_of joints.And = codes " and "
text_of joints.Or = codes " or "

-- a further feature behind the word
abbrev pub joined : Source → Joint → Grammar Part Form
joined source joints.And = and_feature source
joined source joints.Or = or_feature source

-- the signs that compare, the words before a media type, and what such a type begins and goes on with
abbrev pub comparisons : List ℕ
comparisons =
    these (terminals.Less ∷ terminals.LessEqual ∷ terminals.Greater ∷ terminals.GreaterEqual ∷ terminals.Equals ∷ [])

abbrev pub prefixes : List ℕ
prefixes = these (terminals.NotType ∷ terminals.Only ∷ [])

abbrev pub names : List ℕ
names = these (terminals.Word ∷ terminals.WordMinus ∷ [])

abbrev pub type_parts : List ℕ
type_parts = just terminals.Part ++ just terminals.PartInsert

-- parts of rows: a value behind `:`, what stands behind the first value of a feature, behind the beginning of a media type,
-- and behind `and`
module _ (source : Source) where
  abbrev pub expr_piece : Grammar Part Form
  expr_piece = build (anywhere to_value_piece) (expr source)

  abbrev pub compared : Grammar Part Form
  compared = seq (comparison source) (alt (comparison source) empty)

  abbrev pub feature_rest : Grammar Part Form
  feature_rest = alt (colon_piece source) (alt compared empty)

  abbrev pub typed_tail : Grammar Part Form
  typed_tail = seq (many (typed_part source)) (typed_rest source)

  abbrev pub prefix_piece : Grammar Part Form
  prefix_piece = build (to_token_piece source) (skip prefixes)

  abbrev pub inserted_rest : Grammar Part Form
  inserted_rest =
      alt (seq (typed_part source) typed_tail) (alt (seq (or_feature source) (many (or_feature source)))
      (typed_rest source))

  abbrev pub behind_and : Grammar Part Form
  behind_and = alt (not_feature source) (seq (feature source) (many (and_feature source)))
