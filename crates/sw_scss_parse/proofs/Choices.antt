-- Which statement is read, by the terminal that stands there.
use Rattle.std.proofs.Common.{◌≡◌, ℕ, true, false, refl, ◌∙◌}
use Rattle.sw_parse_grammar.specs.Grammar.{Grammar, alt, skip, first, member}
use Rattle.sw_parse_terminals.specs.declared.terminal.Terminal.TheVariants as T
use Rattle.sw_parse_terminals.specs.Numbers.{just}
use Rattle.sw_parse_table.specs.declared.source.Source.{Source}
use Rattle.sw_parse_table.specs.Parts.{Part, Form}
use Rattle.sw_parse_table.specs.Sources.{terminal_at}
use Rattle.sw_parse_table.specs.Sets.{dollars, words}
use Rattle.sw_parse_table.specs.Expressions.{number, insert, quoted, text_item, url_item, template, hash, constant, url, url_template, special, variable, word_insert, part_insert, word_part, word_start, word, arguments_in, called, owned_variable, owned_call, owned, range, parent, important, parens, brackets, literal, other, primary, prefix, unary, link, product, sum, relation, equality, conjunction, disjunction, space_item, space, list_item, expr, colon_space, pair, pairs_rest, items_rest, inside, items, named_argument, plain_argument, argument, arguing, special_number, special_expr, special_value, special_parens, special_brackets, special_item, special_inside}
use Rattle.sw_parse_table.specs.Queries.{feature, and_feature, or_feature, not_feature, features, condition, typed_rest, typed_parts, typed_part, typed_name, inserted, typed, inserted_query, prefixed_query, paren_feature, query, comma_query, queries, value_piece, comparison, colon_piece, feature_inside}
use Rattle.sw_parse_table.specs.Statements.{finish, block, raw_item, raw, raw_inside, optional_raw, dollar_name, flag, default_flag, colon_expr, set, owner, assigned, block_or_end, property, property_value, declaration, custom_name, custom, rule, supports, at_root, at_name, at, import, extend, charset, comment, given_name, given, giving, with_given, as_name, use_, as_prefix, member_, filter, passed, passing, with_passed, forward, param, taking, params, function, mixin, include_name, using, include, content, return, warn, debug, error, else_if, else_, if_, each, for_, while_, media, plain_statement, load_statement, member_statement, flow_statement, css_statement, statement}
use Rattle.sw_parse_table.specs.Reads.{reader, reads}
use Rattle.sw_parse_table.proofs.Decided.{Repeats}
use Rattle.sw_parse_expr_lists.proofs.Choices.{goes_left, goes_right}
use Rattle.sw_scss_parse.specs.Starts.{comment_starts, plain_starts, load_starts, member_starts, flow_starts, statement_starts, ruled, worded}

-- what each row begins with
record Firsts (source : Source) : Type 0 where
  of_semicolon : first {V = Part} {F = Form} (skip (just T.Semicolon)) ≡ (just T.Semicolon)
  of_set : first (set source) ≡ dollars
  of_assigned : first (assigned source) ≡ (just T.Owner)
  of_declaration : first (declaration source) ≡ words
  of_custom : first (custom source) ≡ (just T.Custom)
  of_comment : first (comment source) ≡ comment_starts
  of_use : first (use_ source) ≡ (just T.AtUse)
  of_function : first (function source) ≡ (just T.AtFunction)
  of_mixin : first (mixin source) ≡ (just T.AtMixin)
  of_include : first (include source) ≡ (just T.AtInclude)
  of_return : first (return source) ≡ (just T.AtReturn)
  of_warn : first (warn source) ≡ (just T.AtWarn)
  of_debug : first (debug source) ≡ (just T.AtDebug)
  of_error : first (error source) ≡ (just T.AtError)
  of_if : first (if_ source) ≡ (just T.AtIf)
  of_each : first (each source) ≡ (just T.AtEach)
  of_for : first (for_ source) ≡ (just T.AtFor)
  of_media : first (media source) ≡ (just T.AtMedia)
  of_supports : first (supports source) ≡ (just T.AtSupports)
  of_at_root : first (at_root source) ≡ (just T.AtRoot)
  of_charset : first (charset source) ≡ (just T.AtCharset)
  of_import : first (import source) ≡ (just T.AtImport)
  of_extend : first (extend source) ≡ (just T.AtExtend)
  of_load : first (load_statement source) ≡ load_starts
  of_member : first (member_statement source) ≡ member_starts
  of_flow : first (flow_statement source) ≡ flow_starts
  of_plain : first (plain_statement source) ≡ plain_starts

firsts : (source : Source) → Firsts source
unfolding number insert quoted text_item url_item template hash constant url url_template special variable word_insert part_insert word_part word_start word arguments_in called owned_variable owned_call owned range parent important parens brackets literal other primary prefix unary link product sum relation equality conjunction disjunction space_item space list_item expr colon_space pair pairs_rest items_rest inside items named_argument plain_argument argument arguing special_number special_expr special_value special_parens special_brackets special_item special_inside feature and_feature or_feature not_feature features condition typed_rest typed_parts typed_part typed_name inserted typed inserted_query prefixed_query paren_feature query comma_query queries value_piece comparison colon_piece feature_inside finish block raw_item raw raw_inside optional_raw dollar_name flag default_flag colon_expr set owner assigned block_or_end property property_value declaration custom_name custom rule supports at_root at_name at import extend charset comment given_name given giving with_given as_name use_ as_prefix member_ filter passed passing with_passed forward param taking params function mixin include_name using include content return warn debug error else_if else_ if_ each for_ while_ media plain_statement load_statement member_statement flow_statement css_statement statement
firsts source =
    record { of_semicolon = refl; of_set = refl; of_assigned = refl; of_declaration = refl; of_custom = refl; of_comment = refl; of_use = refl; of_function = refl; of_mixin = refl; of_include = refl; of_return = refl; of_warn = refl; of_debug = refl; of_error = refl; of_if = refl; of_each = refl; of_for = refl; of_media = refl; of_supports = refl; of_at_root = refl; of_charset = refl; of_import = refl; of_extend = refl; of_load = refl; of_member = refl; of_flow = refl; of_plain = refl }

pub repeated : (source : Source) → Repeats source (statement source) statement_starts
unfolding number insert quoted text_item url_item template hash constant url url_template special variable word_insert part_insert word_part word_start word arguments_in called owned_variable owned_call owned range parent important parens brackets literal other primary prefix unary link product sum relation equality conjunction disjunction space_item space list_item expr colon_space pair pairs_rest items_rest inside items named_argument plain_argument argument arguing special_number special_expr special_value special_parens special_brackets special_item special_inside feature and_feature or_feature not_feature features condition typed_rest typed_parts typed_part typed_name inserted typed inserted_query prefixed_query paren_feature query comma_query queries value_piece comparison colon_piece feature_inside finish block raw_item raw raw_inside optional_raw dollar_name flag default_flag colon_expr set owner assigned block_or_end property property_value declaration custom_name custom rule supports at_root at_name at import extend charset comment given_name given giving with_given as_name use_ as_prefix member_ filter passed passing with_passed forward param taking params function mixin include_name using include content return warn debug error else_if else_ if_ each for_ while_ media plain_statement load_statement member_statement flow_statement css_statement statement
repeated source = record { all = refl; one = refl; some = refl; starts = refl }

module _ (source : Source) where
  abbrev ruled_from_4 : Grammar Part Form
  ruled_from_4 = alt (comment source) (rule source)

  abbrev ruled_from_3 : Grammar Part Form
  ruled_from_3 = alt (custom source) ruled_from_4

  abbrev ruled_from_2 : Grammar Part Form
  ruled_from_2 = alt (declaration source) ruled_from_3

  abbrev ruled_from_1 : Grammar Part Form
  ruled_from_1 = alt (assigned source) ruled_from_2

  abbrev member_statement_from_2 : Grammar Part Form
  member_statement_from_2 = alt (include source) (content source)

  abbrev member_statement_from_1 : Grammar Part Form
  member_statement_from_1 = alt (mixin source) member_statement_from_2

  abbrev flow_statement_from_6 : Grammar Part Form
  flow_statement_from_6 = alt (for_ source) (while_ source)

  abbrev flow_statement_from_5 : Grammar Part Form
  flow_statement_from_5 = alt (each source) flow_statement_from_6

  abbrev flow_statement_from_4 : Grammar Part Form
  flow_statement_from_4 = alt (if_ source) flow_statement_from_5

  abbrev flow_statement_from_3 : Grammar Part Form
  flow_statement_from_3 = alt (error source) flow_statement_from_4

  abbrev flow_statement_from_2 : Grammar Part Form
  flow_statement_from_2 = alt (debug source) flow_statement_from_3

  abbrev flow_statement_from_1 : Grammar Part Form
  flow_statement_from_1 = alt (warn source) flow_statement_from_2

  abbrev css_statement_from_5 : Grammar Part Form
  css_statement_from_5 = alt (extend source) (at source)

  abbrev css_statement_from_4 : Grammar Part Form
  css_statement_from_4 = alt (import source) css_statement_from_5

  abbrev css_statement_from_3 : Grammar Part Form
  css_statement_from_3 = alt (charset source) css_statement_from_4

  abbrev css_statement_from_2 : Grammar Part Form
  css_statement_from_2 = alt (at_root source) css_statement_from_3

  abbrev css_statement_from_1 : Grammar Part Form
  css_statement_from_1 = alt (supports source) css_statement_from_2

  abbrev worded_from_2 : Grammar Part Form
  worded_from_2 = alt (flow_statement source) (css_statement source)

  abbrev worded_from_1 : Grammar Part Form
  worded_from_1 = alt (member_statement source) worded_from_2

  module _ (n i : ℕ) where
    pub plain_statement_ruled : member (terminal_at source i) (just T.Semicolon) ≡ false → reads source n plain_statement i ≡ reader source n (ruled source) i
    unfolding plain_statement
    plain_statement_ruled o0 = goes_right source n (skip (just T.Semicolon)) (ruled source) (just T.Semicolon) i (firsts source).of_semicolon o0

    pub plain_statement_semicolon : member (terminal_at source i) (just T.Semicolon) ≡ true → reads source n plain_statement i ≡ reader source n (skip (just T.Semicolon)) i
    unfolding plain_statement
    plain_statement_semicolon m = goes_left source n (skip (just T.Semicolon)) (ruled source) (just T.Semicolon) i (firsts source).of_semicolon m

    ruled_past_1 : member (terminal_at source i) dollars ≡ false → reader source n (ruled source) i ≡ reader source n ruled_from_1 i
    ruled_past_1 o0 = goes_right source n (set source) ruled_from_1 dollars i (firsts source).of_set o0

    ruled_past_2 : member (terminal_at source i) dollars ≡ false → member (terminal_at source i) (just T.Owner) ≡ false → reader source n (ruled source) i ≡ reader source n ruled_from_2 i
    ruled_past_2 o0 o1 = ruled_past_1 o0 ∙ goes_right source n (assigned source) ruled_from_2 (just T.Owner) i (firsts source).of_assigned o1

    ruled_past_3 : member (terminal_at source i) dollars ≡ false → member (terminal_at source i) (just T.Owner) ≡ false → member (terminal_at source i) words ≡ false → reader source n (ruled source) i ≡ reader source n ruled_from_3 i
    ruled_past_3 o0 o1 o2 = ruled_past_2 o0 o1 ∙ goes_right source n (declaration source) ruled_from_3 words i (firsts source).of_declaration o2

    ruled_past_4 : member (terminal_at source i) dollars ≡ false → member (terminal_at source i) (just T.Owner) ≡ false → member (terminal_at source i) words ≡ false → member (terminal_at source i) (just T.Custom) ≡ false → reader source n (ruled source) i ≡ reader source n ruled_from_4 i
    ruled_past_4 o0 o1 o2 o3 = ruled_past_3 o0 o1 o2 ∙ goes_right source n (custom source) ruled_from_4 (just T.Custom) i (firsts source).of_custom o3

    pub ruled_rule : member (terminal_at source i) dollars ≡ false → member (terminal_at source i) (just T.Owner) ≡ false → member (terminal_at source i) words ≡ false → member (terminal_at source i) (just T.Custom) ≡ false → member (terminal_at source i) comment_starts ≡ false → reader source n (ruled source) i ≡ reader source n (rule source) i
    ruled_rule o0 o1 o2 o3 o4 = ruled_past_4 o0 o1 o2 o3 ∙ goes_right source n (comment source) (rule source) comment_starts i (firsts source).of_comment o4

    pub ruled_set : member (terminal_at source i) dollars ≡ true → reader source n (ruled source) i ≡ reader source n (set source) i
    ruled_set m = goes_left source n (set source) ruled_from_1 dollars i (firsts source).of_set m

    pub ruled_assigned : member (terminal_at source i) dollars ≡ false → member (terminal_at source i) (just T.Owner) ≡ true → reader source n (ruled source) i ≡ reader source n (assigned source) i
    ruled_assigned o0 m = ruled_past_1 o0 ∙ goes_left source n (assigned source) ruled_from_2 (just T.Owner) i (firsts source).of_assigned m

    pub ruled_declaration : member (terminal_at source i) dollars ≡ false → member (terminal_at source i) (just T.Owner) ≡ false → member (terminal_at source i) words ≡ true → reader source n (ruled source) i ≡ reader source n (declaration source) i
    ruled_declaration o0 o1 m = ruled_past_2 o0 o1 ∙ goes_left source n (declaration source) ruled_from_3 words i (firsts source).of_declaration m

    pub ruled_custom : member (terminal_at source i) dollars ≡ false → member (terminal_at source i) (just T.Owner) ≡ false → member (terminal_at source i) words ≡ false → member (terminal_at source i) (just T.Custom) ≡ true → reader source n (ruled source) i ≡ reader source n (custom source) i
    ruled_custom o0 o1 o2 m = ruled_past_3 o0 o1 o2 ∙ goes_left source n (custom source) ruled_from_4 (just T.Custom) i (firsts source).of_custom m

    pub ruled_comment : member (terminal_at source i) dollars ≡ false → member (terminal_at source i) (just T.Owner) ≡ false → member (terminal_at source i) words ≡ false → member (terminal_at source i) (just T.Custom) ≡ false → member (terminal_at source i) comment_starts ≡ true → reader source n (ruled source) i ≡ reader source n (comment source) i
    ruled_comment o0 o1 o2 o3 m = ruled_past_4 o0 o1 o2 o3 ∙ goes_left source n (comment source) (rule source) comment_starts i (firsts source).of_comment m

    pub load_statement_forward : member (terminal_at source i) (just T.AtUse) ≡ false → reads source n load_statement i ≡ reader source n (forward source) i
    unfolding load_statement
    load_statement_forward o0 = goes_right source n (use_ source) (forward source) (just T.AtUse) i (firsts source).of_use o0

    pub load_statement_use : member (terminal_at source i) (just T.AtUse) ≡ true → reads source n load_statement i ≡ reader source n (use_ source) i
    unfolding load_statement
    load_statement_use m = goes_left source n (use_ source) (forward source) (just T.AtUse) i (firsts source).of_use m

    member_statement_past_1 : member (terminal_at source i) (just T.AtFunction) ≡ false → reads source n member_statement i ≡ reader source n member_statement_from_1 i
    unfolding member_statement
    member_statement_past_1 o0 = goes_right source n (function source) member_statement_from_1 (just T.AtFunction) i (firsts source).of_function o0

    member_statement_past_2 : member (terminal_at source i) (just T.AtFunction) ≡ false → member (terminal_at source i) (just T.AtMixin) ≡ false → reads source n member_statement i ≡ reader source n member_statement_from_2 i
    member_statement_past_2 o0 o1 = member_statement_past_1 o0 ∙ goes_right source n (mixin source) member_statement_from_2 (just T.AtMixin) i (firsts source).of_mixin o1

    pub member_statement_content : member (terminal_at source i) (just T.AtFunction) ≡ false → member (terminal_at source i) (just T.AtMixin) ≡ false → member (terminal_at source i) (just T.AtInclude) ≡ false → reads source n member_statement i ≡ reader source n (content source) i
    member_statement_content o0 o1 o2 = member_statement_past_2 o0 o1 ∙ goes_right source n (include source) (content source) (just T.AtInclude) i (firsts source).of_include o2

    pub member_statement_function : member (terminal_at source i) (just T.AtFunction) ≡ true → reads source n member_statement i ≡ reader source n (function source) i
    unfolding member_statement
    member_statement_function m = goes_left source n (function source) member_statement_from_1 (just T.AtFunction) i (firsts source).of_function m

    pub member_statement_mixin : member (terminal_at source i) (just T.AtFunction) ≡ false → member (terminal_at source i) (just T.AtMixin) ≡ true → reads source n member_statement i ≡ reader source n (mixin source) i
    member_statement_mixin o0 m = member_statement_past_1 o0 ∙ goes_left source n (mixin source) member_statement_from_2 (just T.AtMixin) i (firsts source).of_mixin m

    pub member_statement_include : member (terminal_at source i) (just T.AtFunction) ≡ false → member (terminal_at source i) (just T.AtMixin) ≡ false → member (terminal_at source i) (just T.AtInclude) ≡ true → reads source n member_statement i ≡ reader source n (include source) i
    member_statement_include o0 o1 m = member_statement_past_2 o0 o1 ∙ goes_left source n (include source) (content source) (just T.AtInclude) i (firsts source).of_include m

    flow_statement_past_1 : member (terminal_at source i) (just T.AtReturn) ≡ false → reads source n flow_statement i ≡ reader source n flow_statement_from_1 i
    unfolding flow_statement
    flow_statement_past_1 o0 = goes_right source n (return source) flow_statement_from_1 (just T.AtReturn) i (firsts source).of_return o0

    flow_statement_past_2 : member (terminal_at source i) (just T.AtReturn) ≡ false → member (terminal_at source i) (just T.AtWarn) ≡ false → reads source n flow_statement i ≡ reader source n flow_statement_from_2 i
    flow_statement_past_2 o0 o1 = flow_statement_past_1 o0 ∙ goes_right source n (warn source) flow_statement_from_2 (just T.AtWarn) i (firsts source).of_warn o1

    flow_statement_past_3 : member (terminal_at source i) (just T.AtReturn) ≡ false → member (terminal_at source i) (just T.AtWarn) ≡ false → member (terminal_at source i) (just T.AtDebug) ≡ false → reads source n flow_statement i ≡ reader source n flow_statement_from_3 i
    flow_statement_past_3 o0 o1 o2 = flow_statement_past_2 o0 o1 ∙ goes_right source n (debug source) flow_statement_from_3 (just T.AtDebug) i (firsts source).of_debug o2

    flow_statement_past_4 : member (terminal_at source i) (just T.AtReturn) ≡ false → member (terminal_at source i) (just T.AtWarn) ≡ false → member (terminal_at source i) (just T.AtDebug) ≡ false → member (terminal_at source i) (just T.AtError) ≡ false → reads source n flow_statement i ≡ reader source n flow_statement_from_4 i
    flow_statement_past_4 o0 o1 o2 o3 = flow_statement_past_3 o0 o1 o2 ∙ goes_right source n (error source) flow_statement_from_4 (just T.AtError) i (firsts source).of_error o3

    flow_statement_past_5 : member (terminal_at source i) (just T.AtReturn) ≡ false → member (terminal_at source i) (just T.AtWarn) ≡ false → member (terminal_at source i) (just T.AtDebug) ≡ false → member (terminal_at source i) (just T.AtError) ≡ false → member (terminal_at source i) (just T.AtIf) ≡ false → reads source n flow_statement i ≡ reader source n flow_statement_from_5 i
    flow_statement_past_5 o0 o1 o2 o3 o4 = flow_statement_past_4 o0 o1 o2 o3 ∙ goes_right source n (if_ source) flow_statement_from_5 (just T.AtIf) i (firsts source).of_if o4

    flow_statement_past_6 : member (terminal_at source i) (just T.AtReturn) ≡ false → member (terminal_at source i) (just T.AtWarn) ≡ false → member (terminal_at source i) (just T.AtDebug) ≡ false → member (terminal_at source i) (just T.AtError) ≡ false → member (terminal_at source i) (just T.AtIf) ≡ false → member (terminal_at source i) (just T.AtEach) ≡ false → reads source n flow_statement i ≡ reader source n flow_statement_from_6 i
    flow_statement_past_6 o0 o1 o2 o3 o4 o5 = flow_statement_past_5 o0 o1 o2 o3 o4 ∙ goes_right source n (each source) flow_statement_from_6 (just T.AtEach) i (firsts source).of_each o5

    pub flow_statement_while : member (terminal_at source i) (just T.AtReturn) ≡ false → member (terminal_at source i) (just T.AtWarn) ≡ false → member (terminal_at source i) (just T.AtDebug) ≡ false → member (terminal_at source i) (just T.AtError) ≡ false → member (terminal_at source i) (just T.AtIf) ≡ false → member (terminal_at source i) (just T.AtEach) ≡ false → member (terminal_at source i) (just T.AtFor) ≡ false → reads source n flow_statement i ≡ reader source n (while_ source) i
    flow_statement_while o0 o1 o2 o3 o4 o5 o6 = flow_statement_past_6 o0 o1 o2 o3 o4 o5 ∙ goes_right source n (for_ source) (while_ source) (just T.AtFor) i (firsts source).of_for o6

    pub flow_statement_return : member (terminal_at source i) (just T.AtReturn) ≡ true → reads source n flow_statement i ≡ reader source n (return source) i
    unfolding flow_statement
    flow_statement_return m = goes_left source n (return source) flow_statement_from_1 (just T.AtReturn) i (firsts source).of_return m

    pub flow_statement_warn : member (terminal_at source i) (just T.AtReturn) ≡ false → member (terminal_at source i) (just T.AtWarn) ≡ true → reads source n flow_statement i ≡ reader source n (warn source) i
    flow_statement_warn o0 m = flow_statement_past_1 o0 ∙ goes_left source n (warn source) flow_statement_from_2 (just T.AtWarn) i (firsts source).of_warn m

    pub flow_statement_debug : member (terminal_at source i) (just T.AtReturn) ≡ false → member (terminal_at source i) (just T.AtWarn) ≡ false → member (terminal_at source i) (just T.AtDebug) ≡ true → reads source n flow_statement i ≡ reader source n (debug source) i
    flow_statement_debug o0 o1 m = flow_statement_past_2 o0 o1 ∙ goes_left source n (debug source) flow_statement_from_3 (just T.AtDebug) i (firsts source).of_debug m

    pub flow_statement_error : member (terminal_at source i) (just T.AtReturn) ≡ false → member (terminal_at source i) (just T.AtWarn) ≡ false → member (terminal_at source i) (just T.AtDebug) ≡ false → member (terminal_at source i) (just T.AtError) ≡ true → reads source n flow_statement i ≡ reader source n (error source) i
    flow_statement_error o0 o1 o2 m = flow_statement_past_3 o0 o1 o2 ∙ goes_left source n (error source) flow_statement_from_4 (just T.AtError) i (firsts source).of_error m

    pub flow_statement_if : member (terminal_at source i) (just T.AtReturn) ≡ false → member (terminal_at source i) (just T.AtWarn) ≡ false → member (terminal_at source i) (just T.AtDebug) ≡ false → member (terminal_at source i) (just T.AtError) ≡ false → member (terminal_at source i) (just T.AtIf) ≡ true → reads source n flow_statement i ≡ reader source n (if_ source) i
    flow_statement_if o0 o1 o2 o3 m = flow_statement_past_4 o0 o1 o2 o3 ∙ goes_left source n (if_ source) flow_statement_from_5 (just T.AtIf) i (firsts source).of_if m

    pub flow_statement_each : member (terminal_at source i) (just T.AtReturn) ≡ false → member (terminal_at source i) (just T.AtWarn) ≡ false → member (terminal_at source i) (just T.AtDebug) ≡ false → member (terminal_at source i) (just T.AtError) ≡ false → member (terminal_at source i) (just T.AtIf) ≡ false → member (terminal_at source i) (just T.AtEach) ≡ true → reads source n flow_statement i ≡ reader source n (each source) i
    flow_statement_each o0 o1 o2 o3 o4 m = flow_statement_past_5 o0 o1 o2 o3 o4 ∙ goes_left source n (each source) flow_statement_from_6 (just T.AtEach) i (firsts source).of_each m

    pub flow_statement_for : member (terminal_at source i) (just T.AtReturn) ≡ false → member (terminal_at source i) (just T.AtWarn) ≡ false → member (terminal_at source i) (just T.AtDebug) ≡ false → member (terminal_at source i) (just T.AtError) ≡ false → member (terminal_at source i) (just T.AtIf) ≡ false → member (terminal_at source i) (just T.AtEach) ≡ false → member (terminal_at source i) (just T.AtFor) ≡ true → reads source n flow_statement i ≡ reader source n (for_ source) i
    flow_statement_for o0 o1 o2 o3 o4 o5 m = flow_statement_past_6 o0 o1 o2 o3 o4 o5 ∙ goes_left source n (for_ source) (while_ source) (just T.AtFor) i (firsts source).of_for m

    css_statement_past_1 : member (terminal_at source i) (just T.AtMedia) ≡ false → reads source n css_statement i ≡ reader source n css_statement_from_1 i
    unfolding css_statement
    css_statement_past_1 o0 = goes_right source n (media source) css_statement_from_1 (just T.AtMedia) i (firsts source).of_media o0

    css_statement_past_2 : member (terminal_at source i) (just T.AtMedia) ≡ false → member (terminal_at source i) (just T.AtSupports) ≡ false → reads source n css_statement i ≡ reader source n css_statement_from_2 i
    css_statement_past_2 o0 o1 = css_statement_past_1 o0 ∙ goes_right source n (supports source) css_statement_from_2 (just T.AtSupports) i (firsts source).of_supports o1

    css_statement_past_3 : member (terminal_at source i) (just T.AtMedia) ≡ false → member (terminal_at source i) (just T.AtSupports) ≡ false → member (terminal_at source i) (just T.AtRoot) ≡ false → reads source n css_statement i ≡ reader source n css_statement_from_3 i
    css_statement_past_3 o0 o1 o2 = css_statement_past_2 o0 o1 ∙ goes_right source n (at_root source) css_statement_from_3 (just T.AtRoot) i (firsts source).of_at_root o2

    css_statement_past_4 : member (terminal_at source i) (just T.AtMedia) ≡ false → member (terminal_at source i) (just T.AtSupports) ≡ false → member (terminal_at source i) (just T.AtRoot) ≡ false → member (terminal_at source i) (just T.AtCharset) ≡ false → reads source n css_statement i ≡ reader source n css_statement_from_4 i
    css_statement_past_4 o0 o1 o2 o3 = css_statement_past_3 o0 o1 o2 ∙ goes_right source n (charset source) css_statement_from_4 (just T.AtCharset) i (firsts source).of_charset o3

    css_statement_past_5 : member (terminal_at source i) (just T.AtMedia) ≡ false → member (terminal_at source i) (just T.AtSupports) ≡ false → member (terminal_at source i) (just T.AtRoot) ≡ false → member (terminal_at source i) (just T.AtCharset) ≡ false → member (terminal_at source i) (just T.AtImport) ≡ false → reads source n css_statement i ≡ reader source n css_statement_from_5 i
    css_statement_past_5 o0 o1 o2 o3 o4 = css_statement_past_4 o0 o1 o2 o3 ∙ goes_right source n (import source) css_statement_from_5 (just T.AtImport) i (firsts source).of_import o4

    pub css_statement_at_rule : member (terminal_at source i) (just T.AtMedia) ≡ false → member (terminal_at source i) (just T.AtSupports) ≡ false → member (terminal_at source i) (just T.AtRoot) ≡ false → member (terminal_at source i) (just T.AtCharset) ≡ false → member (terminal_at source i) (just T.AtImport) ≡ false → member (terminal_at source i) (just T.AtExtend) ≡ false → reads source n css_statement i ≡ reader source n (at source) i
    css_statement_at_rule o0 o1 o2 o3 o4 o5 = css_statement_past_5 o0 o1 o2 o3 o4 ∙ goes_right source n (extend source) (at source) (just T.AtExtend) i (firsts source).of_extend o5

    pub css_statement_media : member (terminal_at source i) (just T.AtMedia) ≡ true → reads source n css_statement i ≡ reader source n (media source) i
    unfolding css_statement
    css_statement_media m = goes_left source n (media source) css_statement_from_1 (just T.AtMedia) i (firsts source).of_media m

    pub css_statement_supports : member (terminal_at source i) (just T.AtMedia) ≡ false → member (terminal_at source i) (just T.AtSupports) ≡ true → reads source n css_statement i ≡ reader source n (supports source) i
    css_statement_supports o0 m = css_statement_past_1 o0 ∙ goes_left source n (supports source) css_statement_from_2 (just T.AtSupports) i (firsts source).of_supports m

    pub css_statement_at_root : member (terminal_at source i) (just T.AtMedia) ≡ false → member (terminal_at source i) (just T.AtSupports) ≡ false → member (terminal_at source i) (just T.AtRoot) ≡ true → reads source n css_statement i ≡ reader source n (at_root source) i
    css_statement_at_root o0 o1 m = css_statement_past_2 o0 o1 ∙ goes_left source n (at_root source) css_statement_from_3 (just T.AtRoot) i (firsts source).of_at_root m

    pub css_statement_charset : member (terminal_at source i) (just T.AtMedia) ≡ false → member (terminal_at source i) (just T.AtSupports) ≡ false → member (terminal_at source i) (just T.AtRoot) ≡ false → member (terminal_at source i) (just T.AtCharset) ≡ true → reads source n css_statement i ≡ reader source n (charset source) i
    css_statement_charset o0 o1 o2 m = css_statement_past_3 o0 o1 o2 ∙ goes_left source n (charset source) css_statement_from_4 (just T.AtCharset) i (firsts source).of_charset m

    pub css_statement_import : member (terminal_at source i) (just T.AtMedia) ≡ false → member (terminal_at source i) (just T.AtSupports) ≡ false → member (terminal_at source i) (just T.AtRoot) ≡ false → member (terminal_at source i) (just T.AtCharset) ≡ false → member (terminal_at source i) (just T.AtImport) ≡ true → reads source n css_statement i ≡ reader source n (import source) i
    css_statement_import o0 o1 o2 o3 m = css_statement_past_4 o0 o1 o2 o3 ∙ goes_left source n (import source) css_statement_from_5 (just T.AtImport) i (firsts source).of_import m

    pub css_statement_extend : member (terminal_at source i) (just T.AtMedia) ≡ false → member (terminal_at source i) (just T.AtSupports) ≡ false → member (terminal_at source i) (just T.AtRoot) ≡ false → member (terminal_at source i) (just T.AtCharset) ≡ false → member (terminal_at source i) (just T.AtImport) ≡ false → member (terminal_at source i) (just T.AtExtend) ≡ true → reads source n css_statement i ≡ reader source n (extend source) i
    css_statement_extend o0 o1 o2 o3 o4 m = css_statement_past_5 o0 o1 o2 o3 o4 ∙ goes_left source n (extend source) (at source) (just T.AtExtend) i (firsts source).of_extend m

    worded_past_1 : member (terminal_at source i) load_starts ≡ false → reader source n (worded source) i ≡ reader source n worded_from_1 i
    worded_past_1 o0 = goes_right source n (load_statement source) worded_from_1 load_starts i (firsts source).of_load o0

    worded_past_2 : member (terminal_at source i) load_starts ≡ false → member (terminal_at source i) member_starts ≡ false → reader source n (worded source) i ≡ reader source n worded_from_2 i
    worded_past_2 o0 o1 = worded_past_1 o0 ∙ goes_right source n (member_statement source) worded_from_2 member_starts i (firsts source).of_member o1

    pub worded_css : member (terminal_at source i) load_starts ≡ false → member (terminal_at source i) member_starts ≡ false → member (terminal_at source i) flow_starts ≡ false → reader source n (worded source) i ≡ reader source n (css_statement source) i
    worded_css o0 o1 o2 = worded_past_2 o0 o1 ∙ goes_right source n (flow_statement source) (css_statement source) flow_starts i (firsts source).of_flow o2

    pub worded_load : member (terminal_at source i) load_starts ≡ true → reader source n (worded source) i ≡ reader source n (load_statement source) i
    worded_load m = goes_left source n (load_statement source) worded_from_1 load_starts i (firsts source).of_load m

    pub worded_member : member (terminal_at source i) load_starts ≡ false → member (terminal_at source i) member_starts ≡ true → reader source n (worded source) i ≡ reader source n (member_statement source) i
    worded_member o0 m = worded_past_1 o0 ∙ goes_left source n (member_statement source) worded_from_2 member_starts i (firsts source).of_member m

    pub worded_flow : member (terminal_at source i) load_starts ≡ false → member (terminal_at source i) member_starts ≡ false → member (terminal_at source i) flow_starts ≡ true → reader source n (worded source) i ≡ reader source n (flow_statement source) i
    worded_flow o0 o1 m = worded_past_2 o0 o1 ∙ goes_left source n (flow_statement source) (css_statement source) flow_starts i (firsts source).of_flow m

    pub statement_worded : member (terminal_at source i) plain_starts ≡ false → reads source n statement i ≡ reader source n (worded source) i
    unfolding statement
    statement_worded o0 = goes_right source n (plain_statement source) (worded source) plain_starts i (firsts source).of_plain o0

    pub statement_plain : member (terminal_at source i) plain_starts ≡ true → reads source n statement i ≡ reader source n (plain_statement source) i
    unfolding statement
    statement_plain m = goes_left source n (plain_statement source) (worded source) plain_starts i (firsts source).of_plain m
