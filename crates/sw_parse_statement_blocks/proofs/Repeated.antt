-- What is repeated in statements with blocks.
use Rattle.std.proofs.Common.{refl}
use Rattle.sw_parse_table.specs.declared.source.Source.{Source}
use Rattle.sw_parse_table.specs.Expressions.{number, insert, quoted, text_item, url_item, template, hash, constant, url, url_template, special, variable, word_insert, part_insert, word_part, word_start, word, arguments_in, called, owned_variable, owned_call, owned, range, parent, important, parens, brackets, literal, other, primary, prefix, unary, link, product, sum, relation, equality, conjunction, disjunction, space_item, space, list_item, expr, colon_space, pair, pairs_rest, items_rest, inside, items, named_argument, plain_argument, argument, arguing, special_number, special_expr, special_value, special_parens, special_brackets, special_item, special_inside}
use Rattle.sw_parse_table.specs.Queries.{feature, and_feature, or_feature, not_feature, features, condition, typed_rest, typed_parts, typed_part, typed_name, inserted, typed, inserted_query, prefixed_query, paren_feature, query, comma_query, queries, value_piece, comparison, colon_piece, feature_inside}
use Rattle.sw_parse_table.specs.Statements.{finish, block, raw_item, raw, raw_inside, optional_raw, dollar_name, flag, default_flag, colon_expr, set, owner, assigned, block_or_end, property, property_value, declaration, custom_name, custom, rule, supports, at_root, at_name, at, import, extend, charset, comment, given_name, given, giving, with_given, as_name, use_, as_prefix, member_, filter, passed, passing, with_passed, forward, param, taking, params, function, mixin, include_name, using, include, content, return, warn, debug, error, else_if, else_, if_, each, for_, while_, media, plain_statement, load_statement, member_statement, flow_statement, css_statement, statement}
use Rattle.sw_parse_table.proofs.Decided.{Repeats}
use Rattle.sw_parse_statement_blocks.specs.Rows.{else_ifs as else_if_words}

module _ (source : Source) where
  pub else_ifs : Repeats source (else_if source) else_if_words
  unfolding number insert quoted text_item url_item template hash constant url url_template special variable word_insert part_insert word_part word_start word arguments_in called owned_variable owned_call owned range parent important parens brackets literal other primary prefix unary link product sum relation equality conjunction disjunction space_item space list_item expr colon_space pair pairs_rest items_rest inside items named_argument plain_argument argument arguing special_number special_expr special_value special_parens special_brackets special_item special_inside feature and_feature or_feature not_feature features condition typed_rest typed_parts typed_part typed_name inserted typed inserted_query prefixed_query paren_feature query comma_query queries value_piece comparison colon_piece feature_inside finish block raw_item raw raw_inside optional_raw dollar_name flag default_flag colon_expr set owner assigned block_or_end property property_value declaration custom_name custom rule supports at_root at_name at import extend charset comment given_name given giving with_given as_name use_ as_prefix member_ filter passed passing with_passed forward param taking params function mixin include_name using include content return warn debug error else_if else_ if_ each for_ while_ media plain_statement load_statement member_statement flow_statement css_statement statement
  else_ifs = record { all = refl; one = refl; some = refl; starts = refl }
