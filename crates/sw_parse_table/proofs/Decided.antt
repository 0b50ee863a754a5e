-- The table fits: one kind of token decides each choice, and only groups have the tokens that open and close.
use Rattle.std.proofs.Common.{◌≡◌, ℕ, ◌≤◌, true, not, List, ◌++◌, refl, ap, length}
use Rattle.std.proofs.lemmas.Option.{slice_get_past}
use Rattle.sw_parse_grammar.specs.Grammar.{Grammar, decided, many, sep, first, nullable, without}
use Rattle.sw_parse_grammar.specs.Levels.{nested}
use Rattle.sw_parse_grammar.proofs.Loops.{Fit}
use Rattle.sw_parse_terminals.specs.declared.terminal.Terminal.TheVariants as terminals
use Rattle.sw_parse_terminals.specs.Numbers.{just}
use Rattle.sw_parse_table.specs.declared.source.Source.{Source}
use Rattle.sw_parse_table.specs.declared.operator.Precedence.{Precedence}
use Rattle.sw_parse_table.specs.declared.operator.Precedence.TheVariants as precedences
use Rattle.sw_parse_table.specs.Parts.{Part, Form, Whole, Block, Value, Inside, Items, Arguing, RawInside, SpecialInside, SpecialItems, Taking, Condition, Feature, Giving, Passing, SpaceList, Sum}
use Rattle.sw_parse_table.specs.Sources.{text_of, terminal_at, terminal_in}
use Rattle.sw_parse_table.specs.Sets.{operators, prefixes, endings, starts, special_starts}
use Rattle.sw_parse_table.specs.Expressions.{number, insert, quoted, text_item, url_item, template, hash, constant, url, url_template, special, variable, word_insert, part_insert, word_part, word_start, word, arguments_in, called, owned_variable, owned_call, owned, range, parent, important, parens, brackets, literal, other, primary, prefix, unary, link, product, sum, relation, equality, conjunction, disjunction, side, space_item, space, list_item, expr, colon_space, pair, pairs_rest, items_rest, inside, items, named_argument, plain_argument, argument, arguing, special_number, special_expr, special_value, special_parens, special_brackets, special_item, special_inside}
use Rattle.sw_parse_table.specs.Queries.{feature, and_feature, or_feature, not_feature, features, condition, typed_rest, typed_parts, typed_part, typed_name, inserted, typed, inserted_query, prefixed_query, paren_feature, query, comma_query, queries, value_piece, comparison, colon_piece, feature_inside}
use Rattle.sw_parse_table.specs.Statements.{finish, block, raw_item, raw, raw_inside, optional_raw, dollar_name, flag, default_flag, colon_expr, set, owner, assigned, block_or_end, property, property_value, declaration, custom_name, custom, rule, supports, at_root, at_name, at, import, extend, charset, comment, given_name, given, giving, with_given, as_name, use_, as_prefix, member_, filter, passed, passing, with_passed, forward, param, taking, params, function, mixin, include_name, using, include, content, return, warn, debug, error, else_if, else_, if_, each, for_, while_, media, plain_statement, load_statement, member_statement, flow_statement, css_statement, statement}
use Rattle.sw_parse_table.specs.Table.{forms, opening, closing}

module _ (source : Source) where
  forms_decided : (form : Form) → decided (forms source) (forms source form) ≡ true
  unfolding number insert quoted text_item url_item template hash constant url url_template special variable word_insert part_insert word_part word_start word arguments_in called owned_variable owned_call owned range parent important parens brackets literal other primary prefix unary link product sum relation equality conjunction disjunction space_item space list_item expr colon_space pair pairs_rest items_rest inside items named_argument plain_argument argument arguing special_number special_expr special_value special_parens special_brackets special_item special_inside feature and_feature or_feature not_feature features condition typed_rest typed_parts typed_part typed_name inserted typed inserted_query prefixed_query paren_feature query comma_query queries value_piece comparison colon_piece feature_inside finish block raw_item raw raw_inside optional_raw dollar_name flag default_flag colon_expr set owner assigned block_or_end property property_value declaration custom_name custom rule supports at_root at_name at import extend charset comment given_name given giving with_given as_name use_ as_prefix member_ filter passed passing with_passed forward param taking params function mixin include_name using include content return warn debug error else_if else_ if_ each for_ while_ media plain_statement load_statement member_statement flow_statement css_statement statement
  forms_decided Whole = refl
  forms_decided Block = refl
  forms_decided Value = refl
  forms_decided Inside = refl
  forms_decided Items = refl
  forms_decided Arguing = refl
  forms_decided RawInside = refl
  forms_decided SpecialInside = refl
  forms_decided SpecialItems = refl
  forms_decided Taking = refl
  forms_decided Condition = refl
  forms_decided Feature = refl
  forms_decided Giving = refl
  forms_decided Passing = refl
  forms_decided SpaceList = refl
  forms_decided Sum = refl

  pub forms_nested : (form : Form) → nested opening closing (forms source form) ≡ true
  unfolding number insert quoted text_item url_item template hash constant url url_template special variable word_insert part_insert word_part word_start word arguments_in called owned_variable owned_call owned range parent important parens brackets literal other primary prefix unary link product sum relation equality conjunction disjunction space_item space list_item expr colon_space pair pairs_rest items_rest inside items named_argument plain_argument argument arguing special_number special_expr special_value special_parens special_brackets special_item special_inside feature and_feature or_feature not_feature features condition typed_rest typed_parts typed_part typed_name inserted typed inserted_query prefixed_query paren_feature query comma_query queries value_piece comparison colon_piece feature_inside finish block raw_item raw raw_inside optional_raw dollar_name flag default_flag colon_expr set owner assigned block_or_end property property_value declaration custom_name custom rule supports at_root at_name at import extend charset comment given_name given giving with_given as_name use_ as_prefix member_ filter passed passing with_passed forward param taking params function mixin include_name using include content return warn debug error else_if else_ if_ each for_ while_ media plain_statement load_statement member_statement flow_statement css_statement statement
  forms_nested Whole = refl
  forms_nested Block = refl
  forms_nested Value = refl
  forms_nested Inside = refl
  forms_nested Items = refl
  forms_nested Arguing = refl
  forms_nested RawInside = refl
  forms_nested SpecialInside = refl
  forms_nested SpecialItems = refl
  forms_nested Taking = refl
  forms_nested Condition = refl
  forms_nested Feature = refl
  forms_nested Giving = refl
  forms_nested Passing = refl
  forms_nested SpaceList = refl
  forms_nested Sum = refl

  past : (at : ℕ) → length source.lexemes.now ≤ at → terminal_at source at ≡ 0
  unfolding terminal_at
  past at l = ap terminal_in (slice_get_past source.lexemes.now at l)

  pub fit : Fit (forms source) (text_of source) (length source.lexemes.now)
  fit = record { ok = forms_decided; past = past }

  -- what is repeated, and what it begins with
  pub record Repeats (item : Grammar Part Form) (firsts : List ℕ) : Type 0 where
    pub all : decided (forms source) (many item) ≡ true
    pub one : decided (forms source) item ≡ true
    pub some : not (nullable item) ≡ true
    pub starts : first item ≡ firsts

  -- what stands between separators
  pub record Separated (separators : List ℕ) (item : Grammar Part Form) (firsts : List ℕ) : Type 0 where
    pub all : decided (forms source) (sep separators item) ≡ true
    pub starts : first item ≡ firsts

  -- the loops of the grammar of expressions
  pub record Loops : Type 0 where
    pub text_items : Repeats (text_item source) (just terminals.TextPiece ++ just terminals.Insert)
    pub url_items : Repeats (url_item source) (just terminals.Piece ++ just terminals.Insert)
    pub word_parts : Repeats (word_part source) (just terminals.Part ++ just terminals.PartInsert)
    pub signs : Repeats (prefix source) (prefixes)
    pub space_items : Repeats (space_item source) (without endings starts)
    pub special_items : Repeats (special_item source) (special_starts)
    pub list_items : Separated (just terminals.Comma) (list_item source) (without endings starts)
    pub pairs : Separated (just terminals.Comma) (pair source) (starts)
    pub arguments : Separated (just terminals.Comma) (argument source) (just terminals.DollarNamed ++ without (just terminals.DollarNamed) starts)

  pub loops : Loops
  unfolding number insert quoted text_item url_item template hash constant url url_template special variable word_insert part_insert word_part word_start word arguments_in called owned_variable owned_call owned range parent important parens brackets literal other primary prefix unary link product sum relation equality conjunction disjunction space_item space list_item expr colon_space pair pairs_rest items_rest inside items named_argument plain_argument argument arguing special_number special_expr special_value special_parens special_brackets special_item special_inside
  loops =
      record {
        text_items = record { all = refl; one = refl; some = refl; starts = refl };
        url_items = record { all = refl; one = refl; some = refl; starts = refl };
        word_parts = record { all = refl; one = refl; some = refl; starts = refl };
        signs = record { all = refl; one = refl; some = refl; starts = refl };
        space_items = record { all = refl; one = refl; some = refl; starts = refl };
        special_items = record { all = refl; one = refl; some = refl; starts = refl };
        list_items = record { all = refl; starts = refl };
        pairs = record { all = refl; starts = refl };
        arguments = record { all = refl; starts = refl };
      }

  pub links : (precedence : Precedence) → Repeats (link source precedence (side source precedence)) (operators precedence)
  unfolding number insert quoted text_item url_item template hash constant url url_template special variable word_insert part_insert word_part word_start word arguments_in called owned_variable owned_call owned range parent important parens brackets literal other primary prefix unary link product sum relation equality conjunction disjunction space_item space list_item expr colon_space pair pairs_rest items_rest inside items named_argument plain_argument argument arguing special_number special_expr special_value special_parens special_brackets special_item special_inside
  links precedences.Product = record { all = refl; one = refl; some = refl; starts = refl }
  links precedences.Sum = record { all = refl; one = refl; some = refl; starts = refl }
  links precedences.Relation = record { all = refl; one = refl; some = refl; starts = refl }
  links precedences.Equality = record { all = refl; one = refl; some = refl; starts = refl }
  links precedences.And = record { all = refl; one = refl; some = refl; starts = refl }
  links precedences.Or = record { all = refl; one = refl; some = refl; starts = refl }
