-- Media queries of which it is proved that what is written of them is their tokens.
use Rattle.std.specs.Prelude.{ℕ, Bool, true, false, not, ◌&&◌, ◌||◌, if◌then◌else◌, List, [], ◌∷◌, ◌++◌, take, bytes_eq, codes}
use Rattle.sw_text_scan.specs.declared.runs.Class.TheVariants as classes
use Rattle.sw_text_scan.specs.Bytes.{is_white}
use Rattle.sw_text_scan.specs.Runs.{run_end}
use Rattle.sw_tree.specs.declared.text.Piece.{Piece}
use Rattle.sw_tree.specs.declared.text.Text.{Text}
use Rattle.sw_parse_terminals.specs.declared.terminal.Terminal.{Terminal}
use Rattle.sw_parse_terminals.specs.declared.terminal.Terminal.TheVariants as terminals
use Rattle.sw_parse_lexemes.specs.declared.sort.Sort.TheVariants as sorts
use Rattle.sw_parse_lexemes.specs.Classes.{same}
use Rattle.sw_parse_lexemes.specs.Words.{word_sort}
use Rattle.sw_parse_table.specs.declared.source.Source.{Source}
use Rattle.sw_parse_table.specs.Sources.{bytes_at}
use Rattle.sw_convert_written.specs.Escapes.{ends_unclosed}
use Rattle.sw_convert_written.specs.declared.manner.Manner.TheVariants as manners
use Rattle.sw_convert_written.specs.Expressions.{expr_text, piece_written}
use Rattle.sw_convert_written.specs.Heads.{plain_text, queries_text}
use Rattle.sw_convert_written.specs.Pieces.{piece_text}
use Rattle.sw_convert_again.specs.Bare.{is_bare}
use Rattle.sw_convert_again.specs.Tokens.{Tok}
use Rattle.sw_convert_again.specs.Queries.{SpellsValue, SpellsComparison, SpellsComparisons, SpellsSides, SpellsFeatureInside, SpellsFeature, SpellsWorded, SpellsJoined, SpellsCondition, SpellsTypeName, SpellsTypePart, SpellsTypeParts, SpellsTypeRest, SpellsTyped, SpellsQuery, SpellsCommaQuery, SpellsMoreQueries, SpellsQueries}
use Rattle.sw_convert_again.specs.Queries as spells
use Rattle.sw_convert_heads_passing.specs.Media.{is_type}

-- ---- what stands in the parentheses of a feature

-- a value that begins with no namespace, and neither with `(` nor with `not`, before which the parenthesis opens a condition
abbrev pub begins_value : List Terminal → Bool
begins_value (terminals.Paren ∷ kinds) = false
begins_value (terminals.Not ∷ kinds) = false
begins_value (terminals.Owner ∷ kinds) = false
begins_value _ = true

abbrev pub begins_feature : List Tok → Bool
begins_feature [] = false
begins_feature (token ∷ tokens) = begins_value token.kinds

-- one that begins with a namespace
abbrev pub begins_owner : List Terminal → Bool
begins_owner (terminals.Owner ∷ kinds) = true
begins_owner _ = false

abbrev pub begins_owned : List Tok → Bool
begins_owned [] = false
begins_owned (token ∷ tokens) = begins_owner token.kinds

-- the word `not` begins a text, behind white space or without
abbrev pub begins_not : List ℕ → Bool
begins_not [] = false
begins_not (b ∷ text) =
    if is_white b then begins_not text
    else same (word_sort (take (run_end classes.Word (b ∷ text) 0) (b ∷ text))) sorts.Not

-- the text of what stands in the parentheses
abbrev pub text_in : List Piece → List ℕ
text_in [] = []
text_in (piece ∷ list) = piece_text manners.Joined (piece_written piece) ++ text_in list

-- it begins with such a value, or with a namespace that isn't called `not`
abbrev pub opens_feature : List Piece → List Tok → Bool
opens_feature list tokens = begins_feature tokens || (begins_owned tokens && not (begins_not (text_in list ++ codes ")")))

abbrev pub comparison_text : Terminal → List ℕ
comparison_text terminals.Less = codes "<"
comparison_text terminals.LessEqual = codes "<="
comparison_text terminals.Greater = codes ">"
comparison_text terminals.GreaterEqual = codes ">="
comparison_text terminals.Equals = codes "="
comparison_text _ = []

-- a value that is no list with commas and ends with no escape that a space would belong to
abbrev pub is_side : {source : Source} {i j : ℕ} {list : List Piece} {tokens : List Tok}
    → SpellsValue source i j list tokens → Bool
is_side (spells.side {value = value} spelt) = not (is_bare value) && not (ends_unclosed (expr_text value))

abbrev pub is_compared : (source : Source) {i j : ℕ} {list : List Piece} {tokens : List Tok}
    → SpellsComparison source i j list tokens → Bool
is_compared source (spells.compared {i} old value) =
    bytes_eq (bytes_at source i) (comparison_text old.lexeme.terminal) && is_side value

abbrev pub are_compared : (source : Source) {i j : ℕ} {list : List Piece} {tokens : List Tok}
    → SpellsComparisons source i j list tokens → Bool
are_compared source spells.compared_end = true
are_compared source (spells.compared_last one) = is_compared source one
are_compared source (spells.compared_more one more) = is_compared source one && are_compared source more

abbrev pub is_inside : (source : Source) {i j : ℕ} {list : List Piece} {tokens : List Tok}
    → SpellsFeatureInside source i j list tokens → Bool
is_inside source (spells.inside_parens value (spells.given_side colon other)) = true
is_inside source (spells.inside_parens value (spells.compared_sides others)) = is_side value && are_compared source others

-- ---- features and conditions

-- a feature in parentheses
abbrev pub in_parens : {source : Source} {i j : ℕ} {list : List Piece} {tokens : List Tok}
    → SpellsFeature source i j list tokens → Bool
in_parens (spells.inserted_feature one) = false
in_parens _ = true

-- a condition that begins with `(` or with `not`
abbrev pub begins_condition : {source : Source} {i j : ℕ} {list : List Piece} {tokens : List Tok}
    → SpellsCondition source i j list tokens → Bool
begins_condition (spells.not_condition one) = true
begins_condition (spells.and_condition one more) = in_parens one
begins_condition (spells.or_condition one more) = in_parens one

abbrev mutual
  pub is_feature : (source : Source) {i j : ℕ} {list : List Piece} {tokens : List Tok}
      → SpellsFeature source i j list tokens → Bool
  is_feature source (spells.inserted_feature one) = true
  is_feature source (spells.condition_feature opens condition closes) =
      begins_condition condition && is_condition source condition
  is_feature source (spells.inside_feature {list = list} {tokens = tokens} opens inside closes) =
      opens_feature list tokens && is_inside source inside

  pub is_worded : (source : Source) {word : Terminal} {text : List ℕ} {i j : ℕ} {list : List Piece} {tokens : List Tok}
      → SpellsWorded source word text i j list tokens → Bool
  is_worded source (spells.worded old one) = is_feature source one

  pub are_joined : (source : Source) {word : Terminal} {text : List ℕ} {i j : ℕ} {list : List Piece} {tokens : List Tok}
      → SpellsJoined source word text i j list tokens → Bool
  are_joined source spells.joined_end = true
  are_joined source (spells.joined_more one more) = is_worded source one && are_joined source more

  pub is_condition : (source : Source) {i j : ℕ} {list : List Piece} {tokens : List Tok}
      → SpellsCondition source i j list tokens → Bool
  is_condition source (spells.not_condition one) = is_worded source one
  is_condition source (spells.and_condition one more) = is_feature source one && are_joined source more
  is_condition source (spells.or_condition one more) = is_feature source one && are_joined source more

-- ---- media types

-- one name by which no operator is meant, or `#{}` with a `-` before it or without
abbrev pub is_type_name : (source : Source) {i j : ℕ} {list : List Piece} {tokens : List Tok}
    → SpellsTypeName source i j list tokens → Bool
is_type_name source (spells.type_word {i} old) =
    is_type (word_sort (bytes_at source i)) && not (ends_unclosed (bytes_at source i))
is_type_name source (spells.type_minus old one) = true
is_type_name source (spells.type_insert one) = true

-- and further `#{}` behind it
abbrev pub is_type_part : {source : Source} {i j : ℕ} {list : List Piece} {tokens : List Tok}
    → SpellsTypePart source i j list tokens → Bool
is_type_part (spells.type_part old) = false
is_type_part (spells.type_inserted one) = true

abbrev pub are_type_parts : {source : Source} {i j : ℕ} {list : List Piece} {tokens : List Tok}
    → SpellsTypeParts source i j list tokens → Bool
are_type_parts spells.type_end = true
are_type_parts (spells.type_more one more) = is_type_part one && are_type_parts more

abbrev pub is_type_rest : (source : Source) {i j : ℕ} {list : List Piece} {tokens : List Tok}
    → SpellsTypeRest source i j list tokens → Bool
is_type_rest source (spells.type_features more) = are_joined source more
is_type_rest source (spells.type_not old one) = is_worded source one

abbrev pub is_typed : (source : Source) {i j : ℕ} {list : List Piece} {tokens : List Tok}
    → SpellsTyped source i j list tokens → Bool
is_typed source (spells.typed name parts rest) =
    is_type_name source name && (are_type_parts parts && is_type_rest source rest)

-- ---- queries

abbrev pub prefix_text : Terminal → List ℕ
prefix_text terminals.Only = codes "only"
prefix_text terminals.NotType = codes "not"
prefix_text _ = []

-- `not` stands before parentheses
abbrev pub is_whole : (source : Source) {i j : ℕ} {list : List Piece} {tokens : List Tok}
    → SpellsCondition source i j list tokens → Bool
is_whole source (spells.not_condition (spells.worded old one)) = in_parens one && is_feature source one
is_whole source condition = is_condition source condition

abbrev pub is_query : (source : Source) {i j : ℕ} {list : List Piece} {tokens : List Tok}
    → SpellsQuery source i j list tokens → Bool
is_query source (spells.prefixed_query {i} old media) =
    bytes_eq (bytes_at source i) (prefix_text old.lexeme.terminal) && is_typed source media
is_query source (spells.typed_query media) = is_typed source media
is_query source (spells.condition_query condition) = is_whole source condition

abbrev pub is_comma_query : (source : Source) {i j : ℕ} {list : List Piece} {tokens : List Tok}
    → SpellsCommaQuery source i j list tokens → Bool
is_comma_query source (spells.comma_query comma one) = is_query source one

abbrev pub are_more_queries : (source : Source) {i j : ℕ} {list : List Piece} {tokens : List Tok}
    → SpellsMoreQueries source i j list tokens → Bool
are_more_queries source spells.no_more_queries = true
are_more_queries source (spells.more_queries one more) = is_comma_query source one && are_more_queries source more

abbrev pub are_queries : (source : Source) {i j : ℕ} {list : List Piece} {tokens : List Tok}
    → SpellsQueries source i j list tokens → Bool
are_queries source (spells.queries_list one more) = is_query source one && are_more_queries source more

-- no empty comment stands in what is written of them
abbrev pub is_seamless : Text → Bool
is_seamless text = bytes_eq (queries_text text) (plain_text text)
