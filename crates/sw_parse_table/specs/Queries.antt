-- The grammar of media queries, as a table of productions (Media Queries Level 4; Sass specification, `@media`). A
-- query that begins
-- with `#{` reads that first, and a query that both its forms derive is of the first: the rows are one union, told
-- apart by their first
-- terminals. What is built is the text as it will be written, with the values in it.
use Rattle.std.specs.Prelude.{ℕ, List, [], ◌∷◌, ◌++◌, codes}
use Rattle.sw_parse_grammar.specs.Grammar.{Grammar, skip, empty, seq, alt, many, group, build, anywhere}
use Rattle.sw_tree.specs.declared.text.Piece.TheVariants as pieces
use Rattle.sw_tree.specs.declared.text.Parts.TheVariants.{Mixed}
use Rattle.sw_parse_terminals.specs.declared.terminal.Terminal.TheVariants as terminals
use Rattle.sw_parse_terminals.specs.Numbers.{these, just}
use Rattle.sw_parse_table.specs.declared.source.Source.{Source}
use Rattle.sw_parse_table.specs.Parts.{Part, Texts, Pieces, Values, Form, Condition, Feature, pieces_of}
use Rattle.sw_parse_table.specs.Sources.{span_between, bytes_at, bytes_between}
use Rattle.sw_parse_table.specs.Values.{inserted_piece}
use Rattle.sw_parse_table.specs.Expressions.{word_insert, part_insert, sum, expr}

-- a text before what is built, and texts around it
abbrev pub said_before : List ℕ → List Part → List Part
said_before text parts = Pieces (pieces.Text text) ∷ parts

abbrev pub said_around : List ℕ → List ℕ → List Part → List Part
said_around before behind parts = Pieces (pieces.Text before) ∷ parts ++ Pieces (pieces.Text behind) ∷ []

abbrev pub in_parens : List Part → List Part
in_parens parts = said_around (codes "(") (codes ")") parts

abbrev pub to_value_piece : List Part → List Part
to_value_piece (Values value ∷ []) = Pieces (pieces.Value value) ∷ []
to_value_piece _ = []

module _ (source : Source) where
  abbrev pub to_queries : ℕ → ℕ → List Part → List Part
  to_queries at behind parts =
      Texts (record { parts = Mixed (pieces_of parts); span = span_between source at behind }) ∷ []

  abbrev pub to_token_piece : ℕ → ℕ → List Part → List Part
  to_token_piece at behind parts = Pieces (pieces.Text (bytes_between source at behind)) ∷ parts

  -- a comparison, with spaces around it
  abbrev pub to_comparison : ℕ → ℕ → List Part → List Part
  to_comparison at behind parts = Pieces (pieces.Text (codes " " ++ bytes_at source at ++ codes " ")) ∷ parts

  -- media queries: what stands between the texts that are the same in each
  unfoldable pub feature : Grammar Part Form
  feature =
      alt (build (anywhere inserted_piece) (word_insert source))
      (alt (build (anywhere in_parens) (group (just terminals.ConditionParen) Condition (just terminals.ParenEnd)))
      (build (anywhere in_parens) (group (just terminals.Paren) Feature (just terminals.ParenEnd))))

  unfoldable pub and_feature : Grammar Part Form
  and_feature = build (anywhere (said_before (codes " and "))) (seq (skip (just terminals.And)) feature)

  unfoldable pub or_feature : Grammar Part Form
  or_feature = build (anywhere (said_before (codes " or "))) (seq (skip (just terminals.Or)) feature)

  unfoldable pub not_feature : Grammar Part Form
  not_feature = build (anywhere (said_before (codes "not "))) (seq (skip (just terminals.Not)) feature)

  -- {"and" feature} | {"or" feature}
  unfoldable pub features : Grammar Part Form
  features = alt (seq and_feature (many and_feature)) (alt (seq or_feature (many or_feature)) empty)

  -- condition = feature {"and" feature} | feature {"or" feature} | "not" feature
  unfoldable pub condition : Grammar Part Form
  condition = alt not_feature (seq feature features)

  -- {"and" feature} | "and" "not" feature
  unfoldable pub typed_rest : Grammar Part Form
  typed_rest =
      alt (build (anywhere (said_before (codes " and "))) (seq (skip (just terminals.And)) (alt not_feature (seq feature
      (many and_feature))))) empty

  unfoldable pub typed_parts : Grammar Part Form
  typed_parts = build to_token_piece (skip (just terminals.Part))

  unfoldable pub typed_part : Grammar Part Form
  typed_part = alt typed_parts (build (anywhere inserted_piece) (part_insert source))

  -- a media type that begins with a name or a sign
  unfoldable pub typed_name : Grammar Part Form
  typed_name =
      alt (build to_token_piece (skip (just terminals.Word))) (seq (build to_token_piece (skip
      (just terminals.WordMinus))) (build (anywhere inserted_piece) (word_insert source)))

  unfoldable pub inserted : Grammar Part Form
  inserted = build (anywhere inserted_piece) (word_insert source)

  unfoldable pub typed : Grammar Part Form
  typed = seq (alt typed_name inserted) (seq (many typed_part) typed_rest)

  -- a query that begins with `#{`: it is a feature, or begins a media type
  unfoldable pub inserted_query : Grammar Part Form
  inserted_query =
      seq inserted (alt (seq typed_part (seq (many typed_part) typed_rest)) (alt (seq or_feature
      (many or_feature)) typed_rest))

  unfoldable pub prefixed_query : Grammar Part Form
  prefixed_query =
      seq (build to_token_piece (skip (these (terminals.NotType ∷ terminals.Only ∷ [])))) (build (anywhere (said_before
      (codes " "))) typed)

  unfoldable pub paren_feature : Grammar Part Form
  paren_feature =
      alt (build (anywhere in_parens) (group (just terminals.ConditionParen) Condition (just terminals.ParenEnd)))
      (build (anywhere in_parens) (group (just terminals.Paren) Feature (just terminals.ParenEnd)))

  -- query = ["not" | "only"] word ({"and" feature} | "and" "not" feature) | condition
  unfoldable pub query : Grammar Part Form
  query =
      alt prefixed_query (alt (seq typed_name (seq (many typed_part) typed_rest)) (alt inserted_query (alt not_feature
      (seq paren_feature features))))

  unfoldable pub comma_query : Grammar Part Form
  comma_query = build (anywhere (said_before (codes ", "))) (seq (skip (just terminals.Comma)) query)

  unfoldable pub queries : Grammar Part Form
  queries = build to_queries (seq query (many comma_query))

  -- "(" sum [":" expr] ")" | "(" sum cmp sum [cmp sum] ")", without the parentheses
  unfoldable pub value_piece : Grammar Part Form
  value_piece = build (anywhere to_value_piece) (sum source)

  unfoldable pub comparison : Grammar Part Form
  comparison =
      build to_comparison (seq (skip (these (terminals.Less ∷ terminals.LessEqual ∷ terminals.Greater
      ∷ terminals.GreaterEqual ∷ terminals.Equals ∷ []))) value_piece)

  unfoldable pub colon_piece : Grammar Part Form
  colon_piece =
      build (anywhere (said_before (codes ": "))) (seq (skip (just terminals.Colon)) (build (anywhere to_value_piece)
      (expr source)))

  unfoldable pub feature_inside : Grammar Part Form
  feature_inside = seq value_piece (alt colon_piece (alt (seq comparison (alt comparison empty)) empty))
