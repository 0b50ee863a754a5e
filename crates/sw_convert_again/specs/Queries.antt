-- What is written of media queries that were read: their tokens as they stood, and those of the values in them.
use Rattle.std.specs.Prelude.{ℕ, suc, List, [], ◌∷◌, ◌++◌, codes}
use Rattle.sw_tree.specs.declared.expr.Expr.{Expr}
use Rattle.sw_tree.specs.declared.text.Piece.{Piece}
use Rattle.sw_tree.specs.declared.text.Piece.TheVariants as pieces
use Rattle.sw_parse_terminals.specs.declared.terminal.Terminal.{Terminal}
use Rattle.sw_parse_terminals.specs.declared.terminal.Terminal.TheVariants as terminals
use Rattle.sw_parse_terminals.specs.Numbers.{just, these}
use Rattle.sw_parse_table.specs.declared.source.Source.{Source}
use Rattle.sw_parse_table.specs.Sources.{bytes_at, bytes_between}
use Rattle.sw_convert_again.specs.Tokens.{Bytes, Tok, tok, sign, Old}
use Rattle.sw_convert_again.specs.Spells.{Spells, within}

-- the operators between two sides of a feature, and the words before a media type
abbrev pub comparisons : List ℕ
comparisons =
    these (terminals.Less ∷ terminals.LessEqual ∷ terminals.Greater ∷ terminals.GreaterEqual ∷ terminals.Equals ∷ [])

abbrev pub type_prefixes : List ℕ
type_prefixes = these (terminals.NotType ∷ terminals.Only ∷ [])

abbrev pub in_parentheses : List Piece → List Piece
in_parentheses list = pieces.Text (codes "(") ∷ (list ++ pieces.Text (codes ")") ∷ [])

-- the token at a place, which is copied
abbrev pub copied : Source → ℕ → Terminal → Tok
copied source i terminal = tok terminal (Bytes 1 (bytes_between source i (suc i)))

-- a value in `#{}`, which one of two tokens opens
pub data SpellsInserted (source : Source) (opening : Terminal) : ℕ → ℕ → List Piece → List Tok → Type 0 where
  inserted_value : {i c : ℕ} {value : Expr} {tokens : List Tok} → Old source i (just opening)
      → Spells source (suc i) c value tokens → Old source c (just terminals.InsertEnd)
      → SpellsInserted source opening i (suc c) (pieces.Inserted value ∷ [])
      (within (sign opening) tokens terminals.InsertEnd)

-- a value by itself, and one behind an operator
pub data SpellsValue (source : Source) : ℕ → ℕ → List Piece → List Tok → Type 0 where
  side : {i j : ℕ} {value : Expr} {tokens : List Tok} → Spells source i j value tokens
      → SpellsValue source i j (pieces.Value value ∷ []) tokens

pub data SpellsComparison (source : Source) : ℕ → ℕ → List Piece → List Tok → Type 0 where
  compared : {i j : ℕ} {list : List Piece} {tokens : List Tok} → (old : Old source i comparisons)
      → SpellsValue source (suc i) j list tokens
      → SpellsComparison source i j (pieces.Text (codes " " ++ (bytes_at source i ++ codes " ")) ∷ list)
      (tok old.lexeme.terminal (Bytes 1 (bytes_at source i)) ∷ tokens)

pub data SpellsComparisons (source : Source) : ℕ → ℕ → List Piece → List Tok → Type 0 where
  compared_end : {i : ℕ} → SpellsComparisons source i i [] []
  compared_last : {i j : ℕ} {list : List Piece} {tokens : List Tok} → SpellsComparison source i j list tokens
      → SpellsComparisons source i j list tokens
  compared_more : {i k j : ℕ} {list others : List Piece} {tokens more : List Tok}
      → SpellsComparison source i k list tokens → SpellsComparisons source k j others more
      → SpellsComparisons source i j (list ++ others) (tokens ++ more)

pub data SpellsSides (source : Source) : ℕ → ℕ → List Piece → List Tok → Type 0 where
  given_side : {i j : ℕ} {list : List Piece} {tokens : List Tok} → Old source i (just terminals.Colon)
      → SpellsValue source (suc i) j list tokens
      → SpellsSides source i j (pieces.Text (codes ": ") ∷ list) (sign terminals.Colon ∷ tokens)
  compared_sides : {i j : ℕ} {list : List Piece} {tokens : List Tok} → SpellsComparisons source i j list tokens
      → SpellsSides source i j list tokens

-- a feature without its parentheses: a value, which may have one behind `:`, or be compared with others
pub data SpellsFeatureInside (source : Source) : ℕ → ℕ → List Piece → List Tok → Type 0 where
  inside_parens : {i k j : ℕ} {list others : List Piece} {tokens more : List Tok} → SpellsValue source i k list tokens
      → SpellsSides source k j others more
      → SpellsFeatureInside source i j (list ++ others) (tokens ++ more)

mutual
  -- a feature: a value in `#{}`, or a condition or a feature in parentheses
  pub data SpellsFeature (source : Source) : ℕ → ℕ → List Piece → List Tok → Type 0 where
    inserted_feature : {i j : ℕ} {list : List Piece} {tokens : List Tok}
        → SpellsInserted source terminals.WordInsert i j list tokens → SpellsFeature source i j list tokens
    condition_feature : {i c : ℕ} {list : List Piece} {tokens : List Tok} → Old source i (just terminals.ConditionParen)
        → SpellsCondition source (suc i) c list tokens → Old source c (just terminals.ParenEnd)
        → SpellsFeature source i (suc c) (in_parentheses list)
        (within (sign terminals.ConditionParen) tokens terminals.ParenEnd)
    inside_feature : {i c : ℕ} {list : List Piece} {tokens : List Tok} → Old source i (just terminals.Paren)
        → SpellsFeatureInside source (suc i) c list tokens → Old source c (just terminals.ParenEnd)
        → SpellsFeature source i (suc c) (in_parentheses list)
        (within (sign terminals.Paren) tokens terminals.ParenEnd)

  -- a word and a feature, and any number of these with the same word
  pub data SpellsWorded (source : Source) : Terminal → List ℕ → ℕ → ℕ → List Piece → List Tok → Type 0 where
    worded : {word : Terminal} {text : List ℕ} {i j : ℕ} {list : List Piece} {tokens : List Tok}
        → Old source i (just word) → SpellsFeature source (suc i) j list tokens
        → SpellsWorded source word text i j (pieces.Text text ∷ list) (sign word ∷ tokens)

  pub data SpellsJoined (source : Source) : Terminal → List ℕ → ℕ → ℕ → List Piece → List Tok → Type 0 where
    joined_end : {word : Terminal} {text : List ℕ} {i : ℕ} → SpellsJoined source word text i i [] []
    joined_more : {word : Terminal} {text : List ℕ} {i k j : ℕ} {list others : List Piece} {tokens more : List Tok}
        → SpellsWorded source word text i k list tokens → SpellsJoined source word text k j others more
        → SpellsJoined source word text i j (list ++ others) (tokens ++ more)

  -- `not` and a feature, or features with one word between them
  pub data SpellsCondition (source : Source) : ℕ → ℕ → List Piece → List Tok → Type 0 where
    not_condition : {i j : ℕ} {list : List Piece} {tokens : List Tok}
        → SpellsWorded source terminals.Not (codes "not ") i j list tokens → SpellsCondition source i j list tokens
    and_condition : {i k j : ℕ} {list others : List Piece} {tokens more : List Tok}
        → SpellsFeature source i k list tokens
        → SpellsJoined source terminals.And (codes " and ") k j others more
        → SpellsCondition source i j (list ++ others) (tokens ++ more)
    or_condition : {i k j : ℕ} {list others : List Piece} {tokens more : List Tok}
        → SpellsFeature source i k list tokens → SpellsJoined source terminals.Or (codes " or ") k j others more
        → SpellsCondition source i j (list ++ others) (tokens ++ more)

-- the name of a media type
pub data SpellsTypeName (source : Source) : ℕ → ℕ → List Piece → List Tok → Type 0 where
  type_word : {i : ℕ} → Old source i (just terminals.Word)
      → SpellsTypeName source i (suc i) (pieces.Text (bytes_between source i (suc i)) ∷ [])
      (copied source i terminals.Word ∷ [])
  type_minus : {i j : ℕ} {list : List Piece} {tokens : List Tok} → Old source i (just terminals.WordMinus)
      → SpellsInserted source terminals.WordInsert (suc i) j list tokens
      → SpellsTypeName source i j (pieces.Text (bytes_between source i (suc i)) ∷ list)
      (copied source i terminals.WordMinus ∷ tokens)
  type_insert : {i j : ℕ} {list : List Piece} {tokens : List Tok}
      → SpellsInserted source terminals.WordInsert i j list tokens → SpellsTypeName source i j list tokens

-- what goes on with it
pub data SpellsTypePart (source : Source) : ℕ → ℕ → List Piece → List Tok → Type 0 where
  type_part : {i : ℕ} → Old source i (just terminals.Part)
      → SpellsTypePart source i (suc i) (pieces.Text (bytes_between source i (suc i)) ∷ [])
      (copied source i terminals.Part ∷ [])
  type_inserted : {i j : ℕ} {list : List Piece} {tokens : List Tok}
      → SpellsInserted source terminals.PartInsert i j list tokens → SpellsTypePart source i j list tokens

pub data SpellsTypeParts (source : Source) : ℕ → ℕ → List Piece → List Tok → Type 0 where
  type_end : {i : ℕ} → SpellsTypeParts source i i [] []
  type_more : {i k j : ℕ} {list others : List Piece} {tokens more : List Tok} → SpellsTypePart source i k list tokens
      → SpellsTypeParts source k j others more
      → SpellsTypeParts source i j (list ++ others) (tokens ++ more)

-- the features behind it
pub data SpellsTypeRest (source : Source) : ℕ → ℕ → List Piece → List Tok → Type 0 where
  type_features : {i j : ℕ} {list : List Piece} {tokens : List Tok}
      → SpellsJoined source terminals.And (codes " and ") i j list tokens → SpellsTypeRest source i j list tokens
  type_not : {i j : ℕ} {list : List Piece} {tokens : List Tok} → Old source i (just terminals.And)
      → SpellsWorded source terminals.Not (codes "not ") (suc i) j list tokens
      → SpellsTypeRest source i j (pieces.Text (codes " and ") ∷ list) (sign terminals.And ∷ tokens)

pub data SpellsTyped (source : Source) : ℕ → ℕ → List Piece → List Tok → Type 0 where
  typed : {i k m j : ℕ} {list others last : List Piece} {tokens more end : List Tok}
      → SpellsTypeName source i k list tokens → SpellsTypeParts source k m others more
      → SpellsTypeRest source m j last end
      → SpellsTyped source i j (list ++ (others ++ last)) (tokens ++ (more ++ end))

pub data SpellsQuery (source : Source) : ℕ → ℕ → List Piece → List Tok → Type 0 where
  prefixed_query : {i j : ℕ} {list : List Piece} {tokens : List Tok} → (old : Old source i type_prefixes)
      → SpellsTyped source (suc i) j list tokens
      → SpellsQuery source i j (pieces.Text (bytes_between source i (suc i)) ∷ pieces.Text (codes " ") ∷ list)
      (copied source i old.lexeme.terminal ∷ tokens)
  typed_query : {i j : ℕ} {list : List Piece} {tokens : List Tok} → SpellsTyped source i j list tokens
      → SpellsQuery source i j list tokens
  condition_query : {i j : ℕ} {list : List Piece} {tokens : List Tok} → SpellsCondition source i j list tokens
      → SpellsQuery source i j list tokens

-- queries with a comma before each
pub data SpellsCommaQuery (source : Source) : ℕ → ℕ → List Piece → List Tok → Type 0 where
  comma_query : {i j : ℕ} {list : List Piece} {tokens : List Tok} → Old source i (just terminals.Comma)
      → SpellsQuery source (suc i) j list tokens
      → SpellsCommaQuery source i j (pieces.Text (codes ", ") ∷ list) (sign terminals.Comma ∷ tokens)

pub data SpellsMoreQueries (source : Source) : ℕ → ℕ → List Piece → List Tok → Type 0 where
  no_more_queries : {i : ℕ} → SpellsMoreQueries source i i [] []
  more_queries : {i k j : ℕ} {list others : List Piece} {tokens more : List Tok}
      → SpellsCommaQuery source i k list tokens → SpellsMoreQueries source k j others more
      → SpellsMoreQueries source i j (list ++ others) (tokens ++ more)

pub data SpellsQueries (source : Source) : ℕ → ℕ → List Piece → List Tok → Type 0 where
  queries_list : {i k j : ℕ} {list others : List Piece} {tokens more : List Tok} → SpellsQuery source i k list tokens
      → SpellsMoreQueries source k j others more
      → SpellsQueries source i j (list ++ others) (tokens ++ more)
