-- Which row of a choice is read in a media query, by the terminal that stands there, and what is repeated there.
use Rattle.std.proofs.Common.{◌≡◌, ℕ, suc, Bool, true, false, not, ◌||◌, eqb, List, [], refl, sym, ◌∙◌, ap, codes}
use Rattle.sw_parse_grammar.specs.Grammar.{Grammar, Got, Unexpected, acted, alt, seq, skip, many, empty, build, anywhere, first, nullable, decided, member}
use Rattle.sw_parse_grammar.specs.Readers.{parse}
use Rattle.sw_parse_grammar.proofs.Loops.{at_first}
use Rattle.sw_parse_terminals.specs.declared.terminal.Terminal.TheVariants as T
use Rattle.sw_parse_terminals.specs.Numbers.{just, number_of}
use Rattle.sw_parse_table.specs.declared.source.Source.{Source}
use Rattle.sw_parse_table.specs.Parts.{Part, Form, Condition, Feature}
use Rattle.sw_parse_table.specs.Sources.{terminal_at}
use Rattle.sw_parse_table.specs.Expressions.{number, insert, quoted, text_item, url_item, template, hash, constant, url, url_template, special, variable, word_insert, part_insert, word_part, word_start, word, arguments_in, called, owned_variable, owned_call, owned, range, parent, important, parens, brackets, literal, other, primary, prefix, unary, link, product, sum, relation, equality, conjunction, disjunction, space_item, space, list_item, expr, colon_space, pair, pairs_rest, items_rest, inside, items, named_argument, plain_argument, argument, arguing, special_number, special_expr, special_value, special_parens, special_brackets, special_item, special_inside}
use Rattle.sw_parse_table.specs.Queries.{said_before, to_token_piece, feature, and_feature, or_feature, not_feature, features, condition, typed_rest, typed_parts, typed_part, typed_name, inserted, typed, inserted_query, prefixed_query, paren_feature, query, comma_query, value_piece, comparison, colon_piece, feature_inside}
use Rattle.sw_parse_table.specs.Table.{forms}
use Rattle.sw_parse_table.specs.Reads.{reader, reads}
use Rattle.sw_parse_table.proofs.Decided.{Repeats, fit}
use Rattle.sw_parse_expr_lists.proofs.Choices.{goes_left, goes_right}
use Rattle.sw_parse_media_queries.specs.declared.feature.Joint.{Joint}
use Rattle.sw_parse_media_queries.specs.declared.feature.Joint.TheVariants as joints
use Rattle.sw_parse_media_queries.specs.Adding.{token_piece, insert_piece, parens as group_of}
use Rattle.sw_parse_media_queries.specs.Joints.{word_of, joined, comparisons, prefixes, names, type_parts, compared, feature_rest, typed_tail, prefix_piece, inserted_rest, behind_and}
use Rattle.sw_parse_media_queries.proofs.Rows.{many_more, many_none}

-- the features behind a media type
abbrev pub rest_row : Source → Grammar Part Form
rest_row source = build (anywhere (said_before (codes " and "))) (seq (skip (just T.And)) (behind_and source))

-- the first of two tests, or the second
left : (p q : Bool) → p || false ≡ true → p || (q || false) ≡ p || false
left true q m = refl
left false q m = absurd (cc)

right : (p q : Bool) → p || false ≡ false → p || (q || false) ≡ q || false
right true q o = absurd (cc)
right false q o = refl

-- how a media type begins behind a word, and a second comparison
abbrev pub start_row : Source → Grammar Part Form
start_row source = alt (typed_name source) (inserted source)

abbrev pub second_row : Source → Grammar Part Form
second_row source = alt (comparison source) empty

module _ (source : Source) where
  -- what is repeated
  pub joined_repeat : (joint : Joint) → Repeats source (joined source joint) (just (word_of joint))
  unfolding number insert quoted text_item url_item template hash constant url url_template special variable word_insert part_insert word_part word_start word arguments_in called owned_variable owned_call owned range parent important parens brackets literal other primary prefix unary link product sum relation equality conjunction disjunction space_item space list_item expr colon_space pair pairs_rest items_rest inside items named_argument plain_argument argument arguing special_number special_expr special_value special_parens special_brackets special_item special_inside feature and_feature or_feature not_feature features condition typed_rest typed_parts typed_part typed_name inserted typed inserted_query prefixed_query paren_feature query comma_query value_piece comparison colon_piece feature_inside
  joined_repeat joints.And = record { all = refl; one = refl; some = refl; starts = refl }
  joined_repeat joints.Or = record { all = refl; one = refl; some = refl; starts = refl }

  pub parts_repeat : Repeats source (typed_part source) type_parts
  unfolding number insert quoted text_item url_item template hash constant url url_template special variable word_insert part_insert word_part word_start word arguments_in called owned_variable owned_call owned range parent important parens brackets literal other primary prefix unary link product sum relation equality conjunction disjunction space_item space list_item expr colon_space pair pairs_rest items_rest inside items named_argument plain_argument argument arguing special_number special_expr special_value special_parens special_brackets special_item special_inside feature and_feature or_feature not_feature features condition typed_rest typed_parts typed_part typed_name inserted typed inserted_query prefixed_query paren_feature query comma_query value_piece comparison colon_piece feature_inside
  parts_repeat = record { all = refl; one = refl; some = refl; starts = refl }

  pub queries_repeat : Repeats source (comma_query source) (just T.Comma)
  unfolding number insert quoted text_item url_item template hash constant url url_template special variable word_insert part_insert word_part word_start word arguments_in called owned_variable owned_call owned range parent important parens brackets literal other primary prefix unary link product sum relation equality conjunction disjunction space_item space list_item expr colon_space pair pairs_rest items_rest inside items named_argument plain_argument argument arguing special_number special_expr special_value special_parens special_brackets special_item special_inside feature and_feature or_feature not_feature features condition typed_rest typed_parts typed_part typed_name inserted typed inserted_query prefixed_query paren_feature query comma_query value_piece comparison colon_piece feature_inside
  queries_repeat = record { all = refl; one = refl; some = refl; starts = refl }

  -- what is never empty
  pub record Solid (g : Grammar Part Form) : Type 0 where
    pub one : decided (forms source) g ≡ true
    pub some : not (nullable g) ≡ true

  pub feature_solid : Solid (feature source)
  unfolding number insert quoted text_item url_item template hash constant url url_template special variable word_insert part_insert word_part word_start word arguments_in called owned_variable owned_call owned range parent important parens brackets literal other primary prefix unary link product sum relation equality conjunction disjunction space_item space list_item expr colon_space pair pairs_rest items_rest inside items named_argument plain_argument argument arguing special_number special_expr special_value special_parens special_brackets special_item special_inside feature and_feature or_feature not_feature features condition typed_rest typed_parts typed_part typed_name inserted typed inserted_query prefixed_query paren_feature query comma_query value_piece comparison colon_piece feature_inside
  feature_solid = record { one = refl; some = refl }

  pub query_solid : Solid (query source)
  unfolding number insert quoted text_item url_item template hash constant url url_template special variable word_insert part_insert word_part word_start word arguments_in called owned_variable owned_call owned range parent important parens brackets literal other primary prefix unary link product sum relation equality conjunction disjunction space_item space list_item expr colon_space pair pairs_rest items_rest inside items named_argument plain_argument argument arguing special_number special_expr special_value special_parens special_brackets special_item special_inside feature and_feature or_feature not_feature features condition typed_rest typed_parts typed_part typed_name inserted typed inserted_query prefixed_query paren_feature query comma_query value_piece comparison colon_piece feature_inside
  query_solid = record { one = refl; some = refl }

  -- what each row begins with
  record Firsts : Type 0 where
    of_insert : first (insert_piece source T.WordInsert) ≡ just T.WordInsert
    of_not : first (not_feature source) ≡ just T.Not
    of_and : first (seq (and_feature source) (many (and_feature source))) ≡ just T.And
    of_or : first (seq (or_feature source) (many (or_feature source))) ≡ just T.Or
    of_rest : first (rest_row source) ≡ just T.And
    of_part : first (token_piece source T.Part) ≡ just T.Part
    of_word : first (token_piece source T.Word) ≡ just T.Word
    of_name : first (typed_name source) ≡ names
    of_parts : first (seq (typed_part source) (typed_tail source)) ≡ type_parts
    of_prefixed : first (prefixed_query source) ≡ prefixes
    of_named : first (seq (typed_name source) (typed_tail source)) ≡ names
    of_inserted : first (inserted_query source) ≡ just T.WordInsert
    of_colon : first (colon_piece source) ≡ just T.Colon
    of_comparison : first (comparison source) ≡ comparisons
    of_compared : first (compared source) ≡ comparisons

  firsts : Firsts
  unfolding number insert quoted text_item url_item template hash constant url url_template special variable word_insert part_insert word_part word_start word arguments_in called owned_variable owned_call owned range parent important parens brackets literal other primary prefix unary link product sum relation equality conjunction disjunction space_item space list_item expr colon_space pair pairs_rest items_rest inside items named_argument plain_argument argument arguing special_number special_expr special_value special_parens special_brackets special_item special_inside feature and_feature or_feature not_feature features condition typed_rest typed_parts typed_part typed_name inserted typed inserted_query prefixed_query paren_feature query comma_query value_piece comparison colon_piece feature_inside
  firsts =
      record { of_insert = refl; of_not = refl; of_and = refl; of_or = refl; of_rest = refl; of_part = refl; of_word = refl; of_name = refl; of_parts = refl; of_prefixed = refl; of_named = refl; of_inserted = refl; of_colon = refl; of_comparison = refl; of_compared = refl }

module _ (source : Source) (n i : ℕ) where
  empty_read : reader source n empty i ≡ Got [] i
  unfolding parse
  empty_read = refl

  pub feature_insert : member (terminal_at source i) (just T.WordInsert) ≡ true → reads source n feature i ≡ reader source n (insert_piece source T.WordInsert) i
  unfolding feature paren_feature word_insert
  feature_insert m = goes_left source n (insert_piece source T.WordInsert) (alt (group_of T.ConditionParen Condition) (group_of T.Paren Feature)) (just T.WordInsert) i (firsts source).of_insert m

  pub feature_parens : member (terminal_at source i) (just T.WordInsert) ≡ false → reads source n feature i ≡ reads source n paren_feature i
  unfolding feature paren_feature word_insert
  feature_parens o0 = goes_right source n (insert_piece source T.WordInsert) (alt (group_of T.ConditionParen Condition) (group_of T.Paren Feature)) (just T.WordInsert) i (firsts source).of_insert o0

  pub parens_condition : member (terminal_at source i) (just T.ConditionParen) ≡ true → reads source n paren_feature i ≡ reader source n (group_of T.ConditionParen Condition) i
  unfolding paren_feature
  parens_condition m = goes_left source n (group_of T.ConditionParen Condition) (group_of T.Paren Feature) (just T.ConditionParen) i refl m

  pub parens_feature : member (terminal_at source i) (just T.ConditionParen) ≡ false → reads source n paren_feature i ≡ reader source n (group_of T.Paren Feature) i
  unfolding paren_feature
  parens_feature o0 = goes_right source n (group_of T.ConditionParen Condition) (group_of T.Paren Feature) (just T.ConditionParen) i refl o0

  pub condition_not : member (terminal_at source i) (just T.Not) ≡ true → reads source n condition i ≡ reader source n (not_feature source) i
  unfolding condition
  condition_not m = goes_left source n (not_feature source) (seq (feature source) (features source)) (just T.Not) i (firsts source).of_not m

  pub condition_features : member (terminal_at source i) (just T.Not) ≡ false → reads source n condition i ≡ reader source n (seq (feature source) (features source)) i
  unfolding condition
  condition_features o0 = goes_right source n (not_feature source) (seq (feature source) (features source)) (just T.Not) i (firsts source).of_not o0

  pub rest_some : member (terminal_at source i) (just T.And) ≡ true → reads source n typed_rest i ≡ reader source n (rest_row source) i
  unfolding typed_rest
  rest_some m = goes_left source n (rest_row source) empty (just T.And) i (firsts source).of_rest m

  pub rest_none : member (terminal_at source i) (just T.And) ≡ false → reads source n typed_rest i ≡ Got [] i
  unfolding typed_rest
  rest_none o0 = goes_right source n (rest_row source) empty (just T.And) i (firsts source).of_rest o0 ∙ empty_read

  pub behind_not : member (terminal_at source i) (just T.Not) ≡ true → reader source n (behind_and source) i ≡ reader source n (not_feature source) i
  behind_not m = goes_left source n (not_feature source) (seq (feature source) (many (and_feature source))) (just T.Not) i (firsts source).of_not m

  pub behind_features : member (terminal_at source i) (just T.Not) ≡ false → reader source n (behind_and source) i ≡ reader source n (seq (feature source) (many (and_feature source))) i
  behind_features o0 = goes_right source n (not_feature source) (seq (feature source) (many (and_feature source))) (just T.Not) i (firsts source).of_not o0

  pub piece_token : member (terminal_at source i) (just T.Part) ≡ true → reads source n typed_part i ≡ reader source n (token_piece source T.Part) i
  unfolding typed_part typed_parts part_insert
  piece_token m = goes_left source n (token_piece source T.Part) (insert_piece source T.PartInsert) (just T.Part) i (firsts source).of_part m

  pub piece_insert : member (terminal_at source i) (just T.Part) ≡ false → reads source n typed_part i ≡ reader source n (insert_piece source T.PartInsert) i
  unfolding typed_part typed_parts part_insert
  piece_insert o0 = goes_right source n (token_piece source T.Part) (insert_piece source T.PartInsert) (just T.Part) i (firsts source).of_part o0

  pub name_word : member (terminal_at source i) (just T.Word) ≡ true → reads source n typed_name i ≡ reader source n (token_piece source T.Word) i
  unfolding typed_name word_insert
  name_word m = goes_left source n (token_piece source T.Word) (seq (token_piece source T.WordMinus) (insert_piece source T.WordInsert)) (just T.Word) i (firsts source).of_word m

  pub name_minus : member (terminal_at source i) (just T.Word) ≡ false → reads source n typed_name i ≡ reader source n (seq (token_piece source T.WordMinus) (insert_piece source T.WordInsert)) i
  unfolding typed_name word_insert
  name_minus o0 = goes_right source n (token_piece source T.Word) (seq (token_piece source T.WordMinus) (insert_piece source T.WordInsert)) (just T.Word) i (firsts source).of_word o0

  pub start_name : member (terminal_at source i) names ≡ true → reader source n (start_row source) i ≡ reader source n (typed_name source) i
  unfolding inserted word_insert
  start_name m = goes_left source n (typed_name source) (insert_piece source T.WordInsert) names i (firsts source).of_name m

  pub start_insert : member (terminal_at source i) names ≡ false → reader source n (start_row source) i ≡ reader source n (insert_piece source T.WordInsert) i
  unfolding inserted word_insert
  start_insert o0 = goes_right source n (typed_name source) (insert_piece source T.WordInsert) names i (firsts source).of_name o0

  pub behind_insert_part : member (terminal_at source i) type_parts ≡ true → reader source n (inserted_rest source) i ≡ reader source n (seq (typed_part source) (typed_tail source)) i
  behind_insert_part m = goes_left source n (seq (typed_part source) (typed_tail source)) (alt (seq (or_feature source) (many (or_feature source))) (typed_rest source)) type_parts i (firsts source).of_parts m

  pub behind_insert_or : member (terminal_at source i) type_parts ≡ false → member (terminal_at source i) (just T.Or) ≡ true → reader source n (inserted_rest source) i ≡ reader source n (seq (or_feature source) (many (or_feature source))) i
  behind_insert_or o0 m = goes_right source n (seq (typed_part source) (typed_tail source)) (alt (seq (or_feature source) (many (or_feature source))) (typed_rest source)) type_parts i (firsts source).of_parts o0 ∙ goes_left source n (seq (or_feature source) (many (or_feature source))) (typed_rest source) (just T.Or) i (firsts source).of_or m

  pub behind_insert_rest : member (terminal_at source i) type_parts ≡ false → member (terminal_at source i) (just T.Or) ≡ false → reader source n (inserted_rest source) i ≡ reader source n (typed_rest source) i
  behind_insert_rest o0 o1 = goes_right source n (seq (typed_part source) (typed_tail source)) (alt (seq (or_feature source) (many (or_feature source))) (typed_rest source)) type_parts i (firsts source).of_parts o0 ∙ goes_right source n (seq (or_feature source) (many (or_feature source))) (typed_rest source) (just T.Or) i (firsts source).of_or o1

  pub query_prefixed : member (terminal_at source i) prefixes ≡ true → reads source n query i ≡ reader source n (prefixed_query source) i
  unfolding query
  query_prefixed m = goes_left source n (prefixed_query source) (alt (seq (typed_name source) (typed_tail source)) (alt (inserted_query source) (alt (not_feature source) (seq (paren_feature source) (features source))))) prefixes i (firsts source).of_prefixed m

  pub query_named : member (terminal_at source i) prefixes ≡ false → member (terminal_at source i) names ≡ true → reads source n query i ≡ reader source n (seq (typed_name source) (typed_tail source)) i
  unfolding query
  query_named o0 m = goes_right source n (prefixed_query source) (alt (seq (typed_name source) (typed_tail source)) (alt (inserted_query source) (alt (not_feature source) (seq (paren_feature source) (features source))))) prefixes i (firsts source).of_prefixed o0 ∙ goes_left source n (seq (typed_name source) (typed_tail source)) (alt (inserted_query source) (alt (not_feature source) (seq (paren_feature source) (features source)))) names i (firsts source).of_named m

  pub query_inserted : member (terminal_at source i) prefixes ≡ false → member (terminal_at source i) names ≡ false → member (terminal_at source i) (just T.WordInsert) ≡ true → reads source n query i ≡ reader source n (inserted_query source) i
  unfolding query
  query_inserted o0 o1 m = goes_right source n (prefixed_query source) (alt (seq (typed_name source) (typed_tail source)) (alt (inserted_query source) (alt (not_feature source) (seq (paren_feature source) (features source))))) prefixes i (firsts source).of_prefixed o0 ∙ goes_right source n (seq (typed_name source) (typed_tail source)) (alt (inserted_query source) (alt (not_feature source) (seq (paren_feature source) (features source)))) names i (firsts source).of_named o1 ∙ goes_left source n (inserted_query source) (alt (not_feature source) (seq (paren_feature source) (features source))) (just T.WordInsert) i (firsts source).of_inserted m

  pub query_not : member (terminal_at source i) prefixes ≡ false → member (terminal_at source i) names ≡ false → member (terminal_at source i) (just T.WordInsert) ≡ false → member (terminal_at source i) (just T.Not) ≡ true → reads source n query i ≡ reader source n (not_feature source) i
  unfolding query
  query_not o0 o1 o2 m = goes_right source n (prefixed_query source) (alt (seq (typed_name source) (typed_tail source)) (alt (inserted_query source) (alt (not_feature source) (seq (paren_feature source) (features source))))) prefixes i (firsts source).of_prefixed o0 ∙ goes_right source n (seq (typed_name source) (typed_tail source)) (alt (inserted_query source) (alt (not_feature source) (seq (paren_feature source) (features source)))) names i (firsts source).of_named o1 ∙ goes_right source n (inserted_query source) (alt (not_feature source) (seq (paren_feature source) (features source))) (just T.WordInsert) i (firsts source).of_inserted o2 ∙ goes_left source n (not_feature source) (seq (paren_feature source) (features source)) (just T.Not) i (firsts source).of_not m

  pub query_paren : member (terminal_at source i) prefixes ≡ false → member (terminal_at source i) names ≡ false → member (terminal_at source i) (just T.WordInsert) ≡ false → member (terminal_at source i) (just T.Not) ≡ false → reads source n query i ≡ reader source n (seq (paren_feature source) (features source)) i
  unfolding query
  query_paren o0 o1 o2 o3 = goes_right source n (prefixed_query source) (alt (seq (typed_name source) (typed_tail source)) (alt (inserted_query source) (alt (not_feature source) (seq (paren_feature source) (features source))))) prefixes i (firsts source).of_prefixed o0 ∙ goes_right source n (seq (typed_name source) (typed_tail source)) (alt (inserted_query source) (alt (not_feature source) (seq (paren_feature source) (features source)))) names i (firsts source).of_named o1 ∙ goes_right source n (inserted_query source) (alt (not_feature source) (seq (paren_feature source) (features source))) (just T.WordInsert) i (firsts source).of_inserted o2 ∙ goes_right source n (not_feature source) (seq (paren_feature source) (features source)) (just T.Not) i (firsts source).of_not o3

  pub second_some : member (terminal_at source i) comparisons ≡ true → reader source n (second_row source) i ≡ reader source n (comparison source) i
  second_some m = goes_left source n (comparison source) empty comparisons i (firsts source).of_comparison m

  pub second_none : member (terminal_at source i) comparisons ≡ false → reader source n (second_row source) i ≡ Got [] i
  second_none o0 = goes_right source n (comparison source) empty comparisons i (firsts source).of_comparison o0 ∙ empty_read

  pub behind_value_colon : member (terminal_at source i) (just T.Colon) ≡ true → reader source n (feature_rest source) i ≡ reader source n (colon_piece source) i
  behind_value_colon m = goes_left source n (colon_piece source) (alt (compared source) empty) (just T.Colon) i (firsts source).of_colon m

  pub behind_value_compared : member (terminal_at source i) (just T.Colon) ≡ false → member (terminal_at source i) comparisons ≡ true → reader source n (feature_rest source) i ≡ reader source n (compared source) i
  behind_value_compared o0 m = goes_right source n (colon_piece source) (alt (compared source) empty) (just T.Colon) i (firsts source).of_colon o0 ∙ goes_left source n (compared source) empty comparisons i (firsts source).of_compared m

  pub behind_value_none : member (terminal_at source i) (just T.Colon) ≡ false → member (terminal_at source i) comparisons ≡ false → reader source n (feature_rest source) i ≡ Got [] i
  behind_value_none o0 o1 = goes_right source n (colon_piece source) (alt (compared source) empty) (just T.Colon) i (firsts source).of_colon o0 ∙ goes_right source n (compared source) empty comparisons i (firsts source).of_compared o1 ∙ empty_read

  pub features_first_and : member (terminal_at source i) (just T.And) ≡ true → reads source n features i ≡ reader source n (seq (and_feature source) (many (and_feature source))) i
  unfolding features
  features_first_and m = goes_left source n (seq (and_feature source) (many (and_feature source))) (alt (seq (or_feature source) (many (or_feature source))) empty) (just T.And) i (firsts source).of_and m

  pub features_first_past : member (terminal_at source i) (just T.And) ≡ false → reads source n features i ≡ reader source n (alt (seq (or_feature source) (many (or_feature source))) empty) i
  unfolding features
  features_first_past o0 = goes_right source n (seq (and_feature source) (many (and_feature source))) (alt (seq (or_feature source) (many (or_feature source))) empty) (just T.And) i (firsts source).of_and o0

  -- further features behind the one word or the other
  several : (joint : Joint) → member (terminal_at source i) (just (word_of joint)) ≡ true
      → reader source n (seq (joined source joint) (many (joined source joint))) i
      ≡ reader source n (many (joined source joint)) i
  several joint m =
      sym (many_more (fit source) n (joined source joint) (joined_repeat source joint).all i (begun joint m))
    where
      begun : (joint : Joint) → member (terminal_at source i) (just (word_of joint)) ≡ true
          → member (terminal_at source i) (first (joined source joint)) ≡ true
      begun joint m =
          at_first (joined source joint) (just (word_of joint)) (terminal_at source i) true
          (joined_repeat source joint).starts m

  pub features_and : member (terminal_at source i) (just T.And) ≡ true
      → reads source n features i ≡ reader source n (many (joined source joints.And)) i
  features_and m = features_first_and m ∙ several joints.And m

  either : (b : Bool) → member (terminal_at source i) (just T.Or) ≡ b
      → reader source n (alt (seq (or_feature source) (many (or_feature source))) empty) i ≡ reader source n (many (joined source joints.Or)) i
  either true m =
      goes_left source n (seq (or_feature source) (many (or_feature source))) empty (just T.Or) i (firsts source).of_or m ∙ several joints.Or m
  either false o =
      goes_right source n (seq (or_feature source) (many (or_feature source))) empty (just T.Or) i (firsts source).of_or o ∙ empty_read
      ∙ sym (many_none (fit source) n (joined source joints.Or) (joined_repeat source joints.Or).all i (at_first
      (joined source joints.Or) (just T.Or) (terminal_at source i) false (joined_repeat source joints.Or).starts o))

  pub features_or : member (terminal_at source i) (just T.And) ≡ false
      → reads source n features i ≡ reader source n (many (joined source joints.Or)) i
  features_or o = features_first_past o ∙ either (member (terminal_at source i) (just T.Or)) refl

  pub inserted_features : member (terminal_at source i) type_parts ≡ false → member (terminal_at source i)
      (just T.Or) ≡ true → reader source n (inserted_rest source) i ≡ reader source n (many (joined source joints.Or)) i
  inserted_features o m = behind_insert_or o m ∙ several joints.Or m

  -- the words before a media type
  same_skip : (s r : List ℕ) → member (terminal_at source i) s ≡ member (terminal_at source i) r
      → reader source n (skip s) i ≡ reader source n (skip r) i
  unfolding parse
  same_skip s r e = ap (λ (b : Bool). elim b [ true ↦ Got [] (suc i) | false ↦ Unexpected i ]) e

  same_prefix : (s r : List ℕ) → member (terminal_at source i) s ≡ member (terminal_at source i) r
      → reader source n (build (to_token_piece source) (skip s)) i
      ≡ reader source n (build (to_token_piece source) (skip r)) i
  unfolding parse
  same_prefix s r e = ap (acted (to_token_piece source i)) (same_skip s r e)

  pub prefix_not : member (terminal_at source i) (just T.NotType) ≡ true
      → reader source n (prefix_piece source) i ≡ reader source n (token_piece source T.NotType) i
  prefix_not m = same_prefix prefixes (just T.NotType) (left (eqb (terminal_at source i) (number_of T.NotType)) (eqb (terminal_at source i) (number_of T.Only)) m)

  pub prefix_only : member (terminal_at source i) (just T.NotType) ≡ false
      → reader source n (prefix_piece source) i ≡ reader source n (token_piece source T.Only) i
  prefix_only o = same_prefix prefixes (just T.Only) (right (eqb (terminal_at source i) (number_of T.NotType)) (eqb (terminal_at source i) (number_of T.Only)) o)
