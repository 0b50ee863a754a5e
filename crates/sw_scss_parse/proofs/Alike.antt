-- What is read depends on the tokens, and on what each is to the grammar, alone.
use Rattle.std.proofs.Common.{◌≡◌, ℕ, List, map, refl, sym, subst, All}
use Rattle.sw_tokens.specs.Listed.{Listed}
use Rattle.sw_parse_terminals.specs.Lies.{LexemeLies}
use Rattle.sw_parse_terminals.specs.declared.lexeme.Lexeme.{Lexeme}
use Rattle.sw_parse_lexemes.specs.Lexemes.{lexemes_of}
use Rattle.sw_parse_table.specs.declared.source.Source.{Source}
use Rattle.sw_parse_table.specs.Numerals.{numeral}
use Rattle.sw_parse_table.specs.Sources.{terminal_at, from_at, to_at, decoded_at, is_commented, token_at, gap_at, texts}
use Rattle.sw_parse_table.specs.Lined.{lines, comment_text}
use Rattle.sw_parse_table.specs.Values.{in_parens, in_brackets, ends_with_comma}
use Rattle.sw_parse_table.specs.Expressions.{number, insert, quoted, text_item, url_item, template, hash, constant, url, url_template, special, variable, word_insert, part_insert, word_part, word_start, word, arguments_in, called, owned_variable, owned_call, owned, range, parent, important, parens, brackets, literal, other, primary, prefix, unary, link, product, sum, relation, equality, conjunction, disjunction, space_item, space, list_item, expr, colon_space, pair, pairs_rest, items_rest, inside, items, named_argument, plain_argument, argument, arguing, special_number, special_expr, special_value, special_parens, special_brackets, special_item, special_inside}
use Rattle.sw_parse_table.specs.Queries.{feature, and_feature, or_feature, not_feature, features, condition, typed_rest, typed_parts, typed_part, typed_name, inserted, typed, inserted_query, prefixed_query, paren_feature, query, comma_query, queries, value_piece, comparison, colon_piece, feature_inside}
use Rattle.sw_parse_table.specs.Statements.{finish, block, raw_item, raw, raw_inside, optional_raw, dollar_name, flag, default_flag, colon_expr, set, owner, assigned, block_or_end, property, property_value, declaration, custom_name, custom, rule, supports, at_root, at_name, at, import, extend, charset, comment, given_name, given, giving, with_given, as_name, use_, as_prefix, member_, filter, passed, passing, with_passed, forward, param, taking, params, function, mixin, include_name, using, include, content, return, warn, debug, error, else_if, else_, if_, each, for_, while_, media, plain_statement, load_statement, member_statement, flow_statement, css_statement, statement}
use Rattle.sw_expr_parse.specs.Readings.{fault_at}
use Rattle.sw_scss_parse.specs.Laid.{laid, laid_lie}
use Rattle.sw_scss_parse.specs.Seen.{source_with, source_of}
use Rattle.sw_scss_parse.specs.Readings.{source_read, IsSeen}
use Rattle.sw_scss_parse.proofs.LaidLemmas.{laid_same}

-- where a reference points makes no difference
same_by : (source : Source) (lie : All (LexemeLies source.tokens.now.sheet.bytes) source.lexemes.now)
    → source_read source ≡ source_read (source_with source.tokens.now source.lexemes.now lie)
unfolding fault_at numeral terminal_at from_at to_at decoded_at is_commented token_at gap_at texts lines comment_text in_parens in_brackets ends_with_comma number insert quoted text_item url_item template hash constant url url_template special variable word_insert part_insert word_part word_start word arguments_in called owned_variable owned_call owned range parent important parens brackets literal other primary prefix unary link product sum relation equality conjunction disjunction space_item space list_item expr colon_space pair pairs_rest items_rest inside items named_argument plain_argument argument arguing special_number special_expr special_value special_parens special_brackets special_item special_inside feature and_feature or_feature not_feature features condition typed_rest typed_parts typed_part typed_name inserted typed inserted_query prefixed_query paren_feature query comma_query queries value_piece comparison colon_piece feature_inside finish block raw_item raw raw_inside optional_raw dollar_name flag default_flag colon_expr set owner assigned block_or_end property property_value declaration custom_name custom rule supports at_root at_name at import extend charset comment given_name given giving with_given as_name use_ as_prefix member_ filter passed passing with_passed forward param taking params function mixin include_name using include content return warn debug error else_if else_ if_ each for_ while_ media plain_statement load_statement member_statement flow_statement css_statement statement
same_by source lie = refl

pub seen_same : (listed : Listed)
    → All (LexemeLies listed.sheet.bytes) (lexemes_of listed.sheet.bytes listed.list) → IsSeen listed
unfolding source_of
seen_same listed lie = laid_same listed.sheet.bytes (lexemes_of listed.sheet.bytes listed.list) lie

pub tokens_same : (listed : Listed) → (source_of listed).tokens.now ≡ listed
unfolding source_of
tokens_same listed = refl

module _ (source : Source) where
  abbrev seen : List Lexeme
  seen = lexemes_of source.tokens.now.sheet.bytes source.tokens.now.list

  abbrev Alike : List Lexeme → Type 0
  Alike lexemes =
      (lie : All (LexemeLies source.tokens.now.sheet.bytes) lexemes)
      → source_read source ≡ source_read (source_with source.tokens.now lexemes lie)

  -- what a value that was made of the tokens reads
  pub same_read : source.lexemes.now ≡ seen → source_read source ≡ source_read (source_of source.tokens.now)
  unfolding source_of
  same_read e =
      let bytes : List ℕ = source.tokens.now.sheet.bytes in
      let all : source.lexemes.now ≡ map (laid bytes) seen =
      subst (λ (x : List Lexeme). source.lexemes.now ≡ map (laid bytes) x) e
      (sym (laid_same bytes source.lexemes.now source.lie)) in
      subst Alike all (same_by source) (laid_lie bytes seen)

  pub seen_list : source.lexemes.now ≡ seen → IsSeen source.tokens.now
  seen_list e =
      seen_same source.tokens.now (subst (All (LexemeLies source.tokens.now.sheet.bytes)) e source.lie)
